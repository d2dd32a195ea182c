use Rattle.std.proofs.Common.{◌≡◌, ◌++◌, length, take, drop, slice_set, ◌∙◌, ap, arith}
use Rattle.std.proofs.Math.Seq.{take-append_seam}
use Rattle.std.proofs.lemmas.List.{length-set}
use Rattle.std.specs.List.{position_or_len}
use Rattle.edit_ops.specs.Members.{is_member, renumbered, replaced}
use Rattle.edit_ops.proofs.Renumbering.{by_count, numbered_length}
use Rattle.edit_ops.proofs.members.with_another.Goals as goal

pub returns : goal.returns
returns g c =
    let kind = g.M.Numbered.kind in
    let items = c.args.members.items in
    let new = c.replace.new.members in
    let n = c.args.name.now in
    let x = c.args.member in
    let w = kind.name_of x in
    let place = position_or_len (is_member kind n c.args.alt) items in
    let ys = slice_set items place x in
    let is : new ≡ replaced kind n c.args.alt x items = c.replace.ensures ∙ ap (replaced kind n c.args.alt x) c.deref_mut.ensures.value in
    let same : length new ≡ length items =
    ap length (is ∙ by_count kind w (renumbered kind n ys)) ∙ numbered_length kind w 0 (renumbered kind n ys) ∙ ap length (by_count kind n ys) ∙ numbered_length kind n 0 ys ∙ length-set items place x in
    let len : c.args.members.len ≡ length new = omega (arith, same, c.args.members.ok.0) in
    ap (λ m. take m (new ++ drop (length new) items)) len ∙ take-append_seam new (drop (length new) items) ∙ is
