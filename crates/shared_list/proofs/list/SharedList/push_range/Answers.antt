use Rattle.std.proofs.Common.{◌≡◌, [], ◌∷◌, ◌++◌, slice_range, sym, ap, ap₂, ◌∙◌, append_assoc}
use Rattle.shared_list.proofs.Stretches.{range_next}
use Rattle.shared_list.proofs.list.SharedList.push_range.Goals as goal

pub each-preserved : goal.each-preserved
each-preserved g c =
    let xs = c.args.other.now in
    let x = c.owner.result.now in
    let pushed : c.push_owner.new.self ≡ c.each.self ++ c.in_ok-share.field-0 ∷ [] = c.in_ok-push_owner.ensures.pushed in
    let item : c.in_ok-share.field-0 ≡ x = c.in_ok-share.ensures in
    let before : c.each.self ≡ c.args.self.now ++ slice_range xs c.args.from c.each.place = c.each.invariant in
    let next = range_next xs c.args.from c.each.place x c.each.auto.place c.owner.ensures in
    pushed
    ∙ ap₂ (λ front y. front ++ y ∷ []) before item
    ∙ append_assoc c.args.self.now (slice_range xs c.args.from c.each.place) (x ∷ [])
    ∙ ap (λ r. c.args.self.now ++ r) (sym next)
