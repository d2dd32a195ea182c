use Rattle.std.proofs.Common.{◌≡◌, arith, sym, ◌∙◌, ap, subst, true, false}
use Rattle.cfj_logic.specs.Sides.{is_over}
use Rattle.cfj_model.specs.Coloring.{has_mark}
use Rattle.cond_circuit.proofs.ValueLemmas.{Grown-refl, Grown-trans}
use Rattle.guarded_types.proofs.MarkGates.{marks_against, marks_all, marks_more, no_marks_yet}
use Rattle.guarded_types.proofs.marks.each_mark.Goals as goal

pub each-init : goal.each-init
each-init c = record {
  grown = Grown-refl c.args.circuit.now;
  worth = no_marks_yet c.args.circuit.now c.args.within c.args.marks c.constant-gate.result c.constant-gate.ensures.worth;
}

pub returns-then-has-2-clause-worth : goal.returns-then-has-2-clause-worth
returns-then-has-2-clause-worth c =
    marks_against c.each.circuit c.args.within c.args.marks c.constant.result c.each.feature
    (ap (has_mark false c.each.feature) (sym c.union-whole.ensures) ∙ sym c.has.ensures ∙ c.if-has.true)
    (ap (has_mark true c.each.feature) (sym c.union-whole.ensures) ∙ sym c.has-then-has.ensures ∙ c.if-has-2.true)
    c.constant.ensures.worth

pub each-preserved : goal.each-preserved
each-preserved c = record {
  grown = Grown-trans c.args.circuit.now c.each.circuit c.with_marks.new.circuit c.each.invariant.grown c.with_marks.ensures.grown;
  worth = marks_more c.each.circuit c.with_marks.new.circuit c.args.within c.args.marks c.each.gate c.in_ok-gate.gate c.each.feature c.each.invariant.worth c.in_ok-gate.ensures.worth;
}

pub returns-clause-worth : goal.returns-clause-worth
returns-clause-worth c =
    let last : c.each.feature ≡ c.features-features.result = omega (arith, c.each.auto.feature-end, c.each-test.false) in
    marks_all c.each.circuit c.args.within c.args.marks c.each.gate c.each.feature
    (subst (λ n. is_over n c.args.marks ≡ true) (sym (last ∙ c.features-features.ensures.features)) c.requires) c.each.invariant.worth
