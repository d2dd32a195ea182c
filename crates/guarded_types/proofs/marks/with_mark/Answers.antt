use Rattle.std.proofs.Common.{sym, ◌∙◌, ◌&&◌}
use Rattle.std.proofs.lemmas.Result.{IfOk-weaker}
use Rattle.cond_circuit.specs.Gates.{Is, value}
use Rattle.guarded_types.proofs.MarkGates.{marked_here, marked_round, unmarked}
use Rattle.guarded_types.proofs.marks.with_mark.Goals as goal

pub returns-then-not-has-clause-worth : goal.returns-then-not-has-clause-worth
returns-then-not-has-clause-worth c =
    unmarked c.args.circuit.now c.args.within c.args.marks c.args.gate c.args.feature c.args.off c.requires.gate (sym c.has.ensures ∙ c.if-not-has.true)

pub returns-then-has-clause-worth : goal.returns-then-has-clause-worth
returns-then-has-clause-worth c =
    marked_round c.args.circuit.now c.args.within c.args.marks c.args.gate c.args.feature c.args.off c.requires.gate (sym c.has-2.ensures ∙ c.if-has.true)

pub returns-clause-worth : goal.returns-clause-worth
returns-clause-worth c =
    IfOk-weaker c.and.result (λ r. Is c.and.new.self r (λ s. value s c.mark_gate.new.circuit.parts c.args.gate && value s c.mark_gate.new.circuit.parts c.in_ok-mark.mark)) _
    (λ r is.
    marked_here c.args.circuit.now c.mark_gate.new.circuit c.and.new.self c.args.within c.args.marks c.args.gate c.args.feature c.in_ok-mark.mark r c.args.off
    c.requires.gate c.mark_gate.ensures.grown c.in_ok-mark.ensures.worth is (sym c.has.ensures ∙ c.if-not-has.false))
    c.and.ensures.worth
