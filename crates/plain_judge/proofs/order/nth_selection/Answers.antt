use Rattle.std.proofs.Common.{◌≡◌, ℕ, ◌+◌, ◌-◌, sym, ◌∙◌, subst, arith}
use Rattle.plain_judge.proofs.Mirroring.{IsMirroredTo, mirrored_to_none, mirrored_to_with, mirrored_to_without, mirrored_to_all}
use Rattle.plain_judge.proofs.order.nth_selection.Goals as goal
use Rattle.plain_judge.proofs.order.nth_selection.Goals.{then-has_bit, else-has_bit}

pub each-init : goal.each-init
each-init c = subst (IsMirroredTo c.args.features c.args.place 0) (sym c.none-selection.ensures) (mirrored_to_none c.args.features c.args.place)

pub each-preserved : goal.each-preserved
each-preserved c =
    let bit = c.args.features - 1 - c.each.feature in
    let at : c.each.feature + bit + 1 ≡ c.args.features = omega arith in
    elim c.if-has_bit.branch [
      | then-has_bit w ↦
          subst (IsMirroredTo c.args.features c.args.place (c.each.feature + 1)) (sym (w.selection-is ∙ w.with-selection.ensures))
          (mirrored_to_with c.args.features c.args.place c.each.feature bit c.each.selection at (sym c.has_bit.ensures ∙ w.if-has_bit.true) c.each.invariant)
      | else-has_bit w ↦
          subst (IsMirroredTo c.args.features c.args.place (c.each.feature + 1)) (sym w.selection-is)
          (mirrored_to_without c.args.features c.args.place c.each.feature bit c.each.selection at (sym c.has_bit.ensures ∙ w.if-has_bit.false) c.each.invariant)
    ]

pub returns : goal.returns
returns c =
    let last : c.each.feature ≡ c.args.features = omega arith in
    mirrored_to_all c.args.features c.args.place c.each.selection (subst (λ (f : ℕ). IsMirroredTo c.args.features c.args.place f c.each.selection) last c.each.invariant)
