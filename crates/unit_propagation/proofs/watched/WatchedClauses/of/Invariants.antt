use Rattle.std.proofs.Common.{◌≡◌, take}
use Rattle.unit_propagation.proofs.watched.WatchedClauses.of.Given as goal

abbrev pub invariant-clauses : goal.invariant-clauses
invariant-clauses l = l.watched ≡ take l.clause-index l.clauses
