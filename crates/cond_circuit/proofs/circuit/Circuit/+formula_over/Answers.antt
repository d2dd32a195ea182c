use Rattle.std.proofs.Common.{◌≡◌, ℕ, not, ◌&&◌, ◌||◌, cond, ap, subst, ◌∙◌}
use Rattle.cfj_logic.specs.Formulas.{truth}
use Rattle.cfj_logic.specs.declared.formula.Formula.{Formula}
use Rattle.cond_circuit.specs.Gates.{Gates, Is}
use Rattle.cond_circuit.proofs.FormulaGates.{operands_worth, truth_and, truth_or, truth_implies, truth_iff}
use Rattle.cond_circuit.proofs.circuit.Circuit.+formula_over.Goals as goal

-- the gate of one formula is the gate of an equal one
Is-same : (c : Gates) (g : ℕ) (x y : Formula) → x ≡ y → Is c g (λ s. truth s x) → Is c g (λ s. truth s y)
Is-same c g x y e is = subst (λ z. Is c g (λ s. truth s z)) e is

pub returns-in_ok-right-in-And-clause-worth : goal.returns-in_ok-right-in-And-clause-worth
returns-in_ok-right-in-And-clause-worth t c =
    operands_worth c.and.result c.formula_over-in-And.new.self c.formula_over-in-And-2.new.self c.and.new.self c.in_ok-left-in-And.left c.in_ok-right-in-And.right (λ x y. x && y)
    c.in-And.left c.in-And.right c.args.formula.now
    (Is-same c.formula_over-in-And.new.self c.in_ok-left-in-And.left c.get-in-And.result.now c.in-And.left c.get-in-And.ensures c.in_ok-left-in-And.ensures.worth) c.formula_over-in-And-2.ensures.grown
    (Is-same c.formula_over-in-And-2.new.self c.in_ok-right-in-And.right c.get-in-And-2.result.now c.in-And.right c.get-in-And-2.ensures c.in_ok-right-in-And.ensures.worth)
    (λ s. ap (truth s) c.in-And.is ∙ truth_and s c.in-And.left c.in-And.right) c.and.ensures.worth

pub returns-in_ok-right-in-Or-clause-worth : goal.returns-in_ok-right-in-Or-clause-worth
returns-in_ok-right-in-Or-clause-worth t c =
    operands_worth c.or.result c.formula_over-in-Or.new.self c.formula_over-in-Or-2.new.self c.or.new.self c.in_ok-left-in-Or.left c.in_ok-right-in-Or.right (λ x y. x || y)
    c.in-Or.left c.in-Or.right c.args.formula.now
    (Is-same c.formula_over-in-Or.new.self c.in_ok-left-in-Or.left c.get-in-Or.result.now c.in-Or.left c.get-in-Or.ensures c.in_ok-left-in-Or.ensures.worth) c.formula_over-in-Or-2.ensures.grown
    (Is-same c.formula_over-in-Or-2.new.self c.in_ok-right-in-Or.right c.get-in-Or-2.result.now c.in-Or.right c.get-in-Or-2.ensures c.in_ok-right-in-Or.ensures.worth)
    (λ s. ap (truth s) c.in-Or.is ∙ truth_or s c.in-Or.left c.in-Or.right) c.or.ensures.worth

pub returns-in_ok-right-in-Implies-clause-worth : goal.returns-in_ok-right-in-Implies-clause-worth
returns-in_ok-right-in-Implies-clause-worth t c =
    operands_worth c.implies.result c.formula_over-in-Implies.new.self c.formula_over-in-Implies-2.new.self c.implies.new.self c.in_ok-left-in-Implies.left c.in_ok-right-in-Implies.right (λ x y. not x || y)
    c.in-Implies.left c.in-Implies.right c.args.formula.now
    (Is-same c.formula_over-in-Implies.new.self c.in_ok-left-in-Implies.left c.get-in-Implies.result.now c.in-Implies.left c.get-in-Implies.ensures c.in_ok-left-in-Implies.ensures.worth) c.formula_over-in-Implies-2.ensures.grown
    (Is-same c.formula_over-in-Implies-2.new.self c.in_ok-right-in-Implies.right c.get-in-Implies-2.result.now c.in-Implies.right c.get-in-Implies-2.ensures c.in_ok-right-in-Implies.ensures.worth)
    (λ s. ap (truth s) c.in-Implies.is ∙ truth_implies s c.in-Implies.left c.in-Implies.right) c.implies.ensures.worth

pub returns-in_ok-right-in-Iff-clause-worth : goal.returns-in_ok-right-in-Iff-clause-worth
returns-in_ok-right-in-Iff-clause-worth t c =
    operands_worth c.iff.result c.formula_over-in-Iff.new.self c.formula_over-in-Iff-2.new.self c.iff.new.self c.in_ok-left-in-Iff.left c.in_ok-right-in-Iff.right (λ x y. cond x y (not y))
    c.in-Iff.left c.in-Iff.right c.args.formula.now
    (Is-same c.formula_over-in-Iff.new.self c.in_ok-left-in-Iff.left c.get-in-Iff.result.now c.in-Iff.left c.get-in-Iff.ensures c.in_ok-left-in-Iff.ensures.worth) c.formula_over-in-Iff-2.ensures.grown
    (Is-same c.formula_over-in-Iff-2.new.self c.in_ok-right-in-Iff.right c.get-in-Iff-2.result.now c.in-Iff.right c.get-in-Iff-2.ensures c.in_ok-right-in-Iff.ensures.worth)
    (λ s. ap (truth s) c.in-Iff.is ∙ truth_iff s c.in-Iff.left c.in-Iff.right) c.iff.ensures.worth
