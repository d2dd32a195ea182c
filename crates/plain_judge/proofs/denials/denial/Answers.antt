use Rattle.std.proofs.Common.{ℕ, ◌+◌, ◌^◌, bit_and, bit_or, sym, ◌∙◌, ap, subst, arith}
use Rattle.cfj_logic.specs.Sides.{Sides}
use Rattle.plain_judge.specs.Denials.{lacking}
use Rattle.plain_judge.proofs.Bits.{lacking_apart}
use Rattle.plain_judge.proofs.Denying.{IsDeniedTo, denied_to_none, denied_to_had, denied_to_lacked, denied_to_all}
use Rattle.plain_judge.proofs.denials.denial.Goals as goal
use Rattle.plain_judge.proofs.denials.denial.Goals.{then-has, else-has}

pub each-init : goal.each-init
each-init c =
    subst (λ (off : ℕ). IsDeniedTo c.args.selection 0 c.empty-on.result off) (sym c.empty-off.ensures)
    (subst (λ (on : ℕ). IsDeniedTo c.args.selection 0 on 0) (sym c.empty-on.ensures) (denied_to_none c.args.selection))

pub each-preserved : goal.each-preserved
each-preserved c =
    let s = c.args.selection in
    let f = c.each.feature in
    elim c.if-has.branch [
      | then-has w ↦
          subst (IsDeniedTo s (f + 1) c.if-has.on) (sym (w.off-is ∙ w.with-off.ensures))
          (subst (λ (on : ℕ). IsDeniedTo s (f + 1) on (bit_or c.each.off (2 ^ f))) (sym w.on-is)
          (denied_to_had s f c.each.on c.each.off (sym c.has.ensures.selected ∙ w.if-has.true) c.each.invariant))
      | else-has w ↦
          subst (λ (on : ℕ). IsDeniedTo s (f + 1) on c.if-has.off) (sym (w.on-is ∙ w.with-on.ensures))
          (subst (IsDeniedTo s (f + 1) (bit_or c.each.on (2 ^ f))) (sym w.off-is)
          (denied_to_lacked s f c.each.on c.each.off (sym c.has.ensures.selected ∙ w.if-has.false) c.each.invariant))
    ]

pub of-requires : goal.of-requires
of-requires c =
    let within = c.features-feature-end.ensures.within in
    let is = denied_to_all c.args.selection c.each.feature c.each.on c.each.off (omega arith) within c.each.invariant in
    ap (λ (on : ℕ). bit_and on c.each.off) is.0 ∙ ap (bit_and (lacking c.args.selection)) is.1 ∙ lacking_apart c.args.selection within

pub returns : goal.returns
returns c =
    let is = denied_to_all c.args.selection c.each.feature c.each.on c.each.off (omega arith) c.features-feature-end.ensures.within c.each.invariant in
    c.of.ensures
    ∙ ap (λ (on : ℕ). let side : Sides = record { on = on; off = c.each.off } in side) is.0
    ∙ ap (λ (off : ℕ). let side : Sides = record { on = lacking c.args.selection; off = off } in side) is.1
