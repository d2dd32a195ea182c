use Rattle.cond_circuit.proofs.FormulaGates.{iff_placed, iff_worth}
use Rattle.cond_circuit.proofs.ValueLemmas.{Grown-trans}
use Rattle.cond_circuit.proofs.circuit.Circuit.iff.Goals as goal

pub returns-clause-placed : goal.returns-clause-placed
returns-clause-placed c =
    iff_placed c.or.result c.args.self.now c.and.new.self c.not.new.self c.not-2.new.self c.and-2.new.self c.or.new.self c.args.left c.args.right
    c.in_ok-both.both c.in_ok-not_left.not_left c.in_ok-not_right.not_right c.in_ok-neither.neither
    c.in_ok-both.ensures.placed c.in_ok-not_left.ensures.placed c.in_ok-not_right.ensures.placed c.in_ok-neither.ensures.placed c.or.ensures.placed

pub returns-clause-grown : goal.returns-clause-grown
returns-clause-grown c =
    let old = c.args.self.now in
    Grown-trans old c.and-2.new.self c.or.new.self
    (Grown-trans old c.not-2.new.self c.and-2.new.self
    (Grown-trans old c.not.new.self c.not-2.new.self (Grown-trans old c.and.new.self c.not.new.self c.and.ensures.grown c.not.ensures.grown) c.not-2.ensures.grown)
    c.and-2.ensures.grown)
    c.or.ensures.grown

pub returns-clause-worth : goal.returns-clause-worth
returns-clause-worth c =
    iff_worth c.or.result c.args.self.now c.and.new.self c.not.new.self c.not-2.new.self c.and-2.new.self c.or.new.self c.args.left c.args.right
    c.in_ok-both.both c.in_ok-not_left.not_left c.in_ok-not_right.not_right c.in_ok-neither.neither c.requires.left c.requires.right
    c.and.ensures.grown c.not.ensures.grown c.not-2.ensures.grown c.and-2.ensures.grown
    c.in_ok-both.ensures.worth c.in_ok-not_left.ensures.worth c.in_ok-not_right.ensures.worth c.in_ok-neither.ensures.worth c.or.ensures.worth
