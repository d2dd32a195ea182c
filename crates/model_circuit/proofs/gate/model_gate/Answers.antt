use Rattle.std.proofs.Common.{◌≡◌, arith, sym, ◌∙◌, ap, subst, length, take}
use Rattle.std.specs.List.{list_all}
use Rattle.std.proofs.lemmas.List.{take_all}
use Rattle.cfj_logic.specs.Formulas.{truth}
use Rattle.cond_circuit.specs.Gates.{Is}
use Rattle.cond_circuit.proofs.ValueLemmas.{Grown-refl, Grown-trans}
use Rattle.model_circuit.proofs.Constraints.{worth_more, over_here}
use Rattle.model_circuit.proofs.gate.model_gate.Goals as goal

pub each-init : goal.each-init
each-init c = record { grown = Grown-refl c.args.circuit.now; worth = c.constant-all.ensures.worth }

pub with_constraint-requires-clause-inside : goal.with_constraint-requires-clause-inside
with_constraint-requires-clause-inside c = c.each.invariant.worth.inside

pub with_constraint-requires-clause-over : goal.with_constraint-requires-clause-over
with_constraint-requires-clause-over c =
    over_here c.args.circuit.now c.each.circuit (length c.args.model.now.features) c.slice-constraints.result.now c.each.constraint-index c.constraint-item.result
    c.requires.features c.each.invariant.grown (omega arith) c.constraint-item.is (rw c.slice-constraints.ensures c.requires.over)

pub returns-in_err-all-clause-grown : goal.returns-in_err-all-clause-grown
returns-in_err-all-clause-grown c =
    Grown-trans c.args.circuit.now c.each.circuit c.with_constraint.new.circuit c.each.invariant.grown c.with_constraint.ensures.grown

pub each-preserved : goal.each-preserved
each-preserved c =
    record {
      grown = Grown-trans c.args.circuit.now c.each.circuit c.with_constraint.new.circuit c.each.invariant.grown c.with_constraint.ensures.grown;
      worth =
          worth_more c.each.circuit c.with_constraint.new.circuit c.each.all c.in_ok-all.all c.slice-constraints.result.now c.each.constraint-index c.constraint-item.result
          (omega arith) c.constraint-item.is c.each.invariant.worth c.in_ok-all.ensures.worth;
    }

pub returns-clause-grown : goal.returns-clause-grown
returns-clause-grown c = c.each.invariant.grown

pub returns-clause-worth : goal.returns-clause-worth
returns-clause-worth c =
    subst (λ xs. Is c.each.circuit c.each.all (λ s. list_all (truth s) xs))
    (take_all c.each.constraint-index c.slice-constraints.result.now (omega arith) ∙ c.slice-constraints.ensures)
    c.each.invariant.worth
