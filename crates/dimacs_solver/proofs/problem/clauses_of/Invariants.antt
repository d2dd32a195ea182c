use Rattle.std.proofs.Common.{◌≡◌, [], ◌++◌, drop}
use Rattle.dimacs_solver.specs.Numbers.{clauses_from}
use Rattle.dimacs_solver.proofs.problem.clauses_of.Given as goal

abbrev pub invariant-loop-number : goal.invariant-loop-number
invariant-loop-number l = clauses_from [] l.numbers ≡ l.list.items ++ clauses_from l.clause.items (drop l.number-index l.numbers)
