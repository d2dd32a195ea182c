use Rattle.std.proofs.Common.{◌&&◌}
use Rattle.cfj_logic.specs.Formulas.{truth}
use Rattle.cond_circuit.specs.Gates.{value}
use Rattle.cond_circuit.proofs.FormulaGates.{two_worth}
use Rattle.cond_circuit.proofs.ValueLemmas.{Grown-value}
use Rattle.model_circuit.proofs.gate.with_constraint.Goals as goal

pub returns-clause-worth : goal.returns-clause-worth
returns-clause-worth c =
    two_worth c.and.result c.formula.new.self c.and.new.self c.args.gate c.in_ok-holds.holds (λ x y. x && y)
    (λ s. value s c.args.circuit.now.parts c.args.gate) (λ s. truth s c.args.constraint.now)
    (λ s. Grown-value c.args.circuit.now c.formula.new.self s c.args.gate c.formula.ensures.grown c.requires.inside)
    c.in_ok-holds.ensures.worth.worth c.and.ensures.worth
