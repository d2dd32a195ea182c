use Rattle.std.proofs.Common.{take}
use Rattle.cfj_logic.specs.Logs.{AreBelow}
use Rattle.dimacs_solver.proofs.problem.is_below.Given as goal

abbrev pub invariant-loop-literal : goal.invariant-loop-literal
invariant-loop-literal l = AreBelow l.vars (take l.literal-index l.clause)
