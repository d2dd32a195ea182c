use Rattle.cond_circuit.proofs.FormulaGates.{implies_placed, implies_worth}
use Rattle.cond_circuit.proofs.circuit.Circuit.implies.Goals as goal

pub returns-clause-placed : goal.returns-clause-placed
returns-clause-placed c =
    implies_placed c.or.result c.args.self.now c.not.new.self c.or.new.self c.args.left c.args.right c.in_ok-fails.fails c.in_ok-fails.ensures.placed c.or.ensures.placed

pub returns-clause-worth : goal.returns-clause-worth
returns-clause-worth c =
    implies_worth c.or.result c.args.self.now c.not.new.self c.or.new.self c.args.left c.args.right c.in_ok-fails.fails
    c.not.ensures.grown c.requires.right c.in_ok-fails.ensures.worth c.or.ensures.worth
