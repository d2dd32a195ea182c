use Rattle.std.proofs.Common.{◌≡◌, ◌+◌, ◌<◌, ◌≤◌, length, get_or, set, suc, sym, ◌∙◌, ap, arith, add-one}
use Rattle.std.proofs.lemmas.List.{set-get_or}
use Rattle.std.specs.Str.{bytes_eq}
use Rattle.edit_ops.proofs.Renumbering.{by_count, rest_named, rest_none, rest_numbered, rest_other}
use Rattle.edit_ops.proofs.members.renumber.Goals as goal
use Rattle.edit_ops.proofs.members.renumber.Goals.{then-eq, else-eq}

pub each-preserved : goal.each-preserved
each-preserved g c =
    let kind = g.M.Numbered.kind in
    let n = c.args.name.now in
    let i = c.each.member-index in
    let xs = c.each.members in
    let d = c.member-item.result in
    let within : i < length xs = omega arith in
    let named : bytes_eq (kind.name_of (get_or xs i d)) n ≡ bytes_eq c.name.result.now n = ap (λ v. bytes_eq v n) (sym c.name.ensures) in
    elim c.if-eq.branch [
      | then-eq w ↦ (
        ap (λ m. rest_numbered kind n (i + 1) m c.if-eq.members) (w.alt-is ∙ add-one c.each.alt)
            ∙ ap (rest_numbered kind n (i + 1) (suc c.each.alt)) (w.members-is ∙ ap (set xs i) w.set_alt.ensures)
            ∙ ap (λ m. rest_numbered kind n m (suc c.each.alt) (set xs i (kind.with_alt (get_or xs i d) c.each.alt))) (add-one i)
            ∙ sym (rest_named kind n i c.each.alt xs d within (named ∙ sym w.if-eq.ensures))
            ∙ c.each.invariant.0,
        omega (arith, w.alt-is, c.each.invariant.1),
      )
      | else-eq w ↦ (
        ap (λ m. rest_numbered kind n (i + 1) m c.if-eq.members) w.alt-is
            ∙ ap (rest_numbered kind n (i + 1) c.each.alt) (w.members-is ∙ set-get_or xs i d)
            ∙ ap (λ m. rest_numbered kind n m c.each.alt xs) (add-one i)
            ∙ sym (rest_other kind n i c.each.alt xs d within (named ∙ sym w.if-eq.ensures))
            ∙ c.each.invariant.0,
        omega (arith, w.alt-is, c.each.invariant.1),
      )
    ]

pub returns : goal.returns
returns g c =
    let kind = g.M.Numbered.kind in
    let n = c.args.name.now in
    let past : length c.each.members ≤ c.each.member-index = omega arith in
    sym (rest_none kind n c.each.member-index c.each.alt c.each.members past) ∙ c.each.invariant.0 ∙ sym (by_count kind n c.args.members.now)
