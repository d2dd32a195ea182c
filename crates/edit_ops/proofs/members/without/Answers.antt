use Rattle.std.proofs.Common.{◌≡◌, ◌++◌, not, length, take, drop, filter, ◌∙◌, ap, arith, rules}
use Rattle.std.proofs.Math.Seq.{take-append_seam}
use Rattle.std.proofs.lemmas.Fn.{filter_same}
use Rattle.edit_ops.specs.Members.{is_member, renumbered}
use Rattle.edit_ops.proofs.Renumbering.{by_count, numbered_length}
use Rattle.edit_ops.proofs.members.without.Goals as goal

pub returns : goal.returns
returns g c =
    let kind = g.M.Numbered.kind in
    let n = c.args.name.now in
    let items = c.retain.new.self.items in
    let new = c.renumber.new.members in
    let is : new ≡ renumbered kind n items = c.renumber.ensures ∙ ap (renumbered kind n) c.deref_mut.ensures.value in
    let same : length new ≡ length items = ap length (is ∙ by_count kind n items) ∙ numbered_length kind n 0 items in
    let len : c.retain.new.self.len ≡ length new = omega (arith, same, c.retain.new.self.ok.0) in
    let left : items ≡ filter (λ x. not (is_member kind n c.args.alt x)) c.args.members.items =
    filter_same _ (λ x. not (is_member kind n c.args.alt x)) _ (λ x b f post. search rules) c.args.members.items items c.retain.ensures.filtered in
    ap (λ m. take m (new ++ drop (length new) items)) len ∙ take-append_seam new (drop (length new) items) ∙ is ∙ ap (renumbered kind n) left
