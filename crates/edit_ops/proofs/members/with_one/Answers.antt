use Rattle.std.proofs.Common.{◌≡◌, ◌++◌, [], ◌∷◌, length, take, drop, ◌∙◌, ap, arith}
use Rattle.std.proofs.Math.Seq.{take-append_seam}
use Rattle.edit_ops.specs.Members.{renumbered}
use Rattle.edit_ops.proofs.Renumbering.{by_count, numbered_length}
use Rattle.edit_ops.proofs.members.with_one.Goals as goal

pub returns : goal.returns
returns g c =
    let kind = g.M.Numbered.kind in
    let n = c.in_ok-name.name in
    let items = c.push.new.self.items in
    let new = c.renumber.new.members in
    let is : new ≡ renumbered kind n items = c.renumber.ensures ∙ ap (renumbered kind n) c.deref_mut.ensures.value in
    let same : length new ≡ length items = ap length (is ∙ by_count kind n items) ∙ numbered_length kind n 0 items in
    let len : c.push.new.self.len ≡ length new = omega (arith, same, c.push.new.self.ok.0) in
    let named : n ≡ kind.name_of c.args.member = c.in_ok-name.ensures ∙ c.name.ensures in
    ap (λ m. take m (new ++ drop (length new) items)) len
    ∙ take-append_seam new (drop (length new) items)
    ∙ is
    ∙ ap (renumbered kind n) c.in_ok-push.ensures.items
    ∙ ap (λ w. renumbered kind w (c.args.members.items ++ c.args.member ∷ [])) named
