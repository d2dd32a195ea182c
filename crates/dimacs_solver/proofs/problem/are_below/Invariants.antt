use Rattle.std.proofs.Common.{take}
use Rattle.std.specs.Prelude.{All}
use Rattle.cfj_logic.specs.Logs.{AreBelow}
use Rattle.dimacs_solver.proofs.problem.are_below.Given as goal

abbrev pub invariant-loop-clause : goal.invariant-loop-clause
invariant-loop-clause l = All (AreBelow l.vars) (take l.clause-index l.list)
