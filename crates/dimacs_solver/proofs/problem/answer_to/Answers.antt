use Rattle.std.proofs.Common.{sym}
use Rattle.dimacs_solver.proofs.Settling.{settled}
use Rattle.dimacs_solver.proofs.problem.answer_to.Goals as goal

pub solve-requires-clause-settled : goal.solve-requires-clause-settled
solve-requires-clause-settled c = settled c.args.clauses.now (sym c.if-clauses.false) c.requires.literals
