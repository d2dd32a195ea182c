use Rattle.std.proofs.Common.{length}
use Rattle.unit_propagation.specs.Trails.{Grows}
use Rattle.unit_propagation.specs.Walks.{AreFollowed, AreFollowedBut}
use Rattle.unit_propagation.specs.Watched.{AreWatched}
use Rattle.unit_propagation.proofs.walk.follow_given.Given as goal

abbrev pub invariant-vars : goal.invariant-vars
invariant-vars l = record {
  grown : Grows l.clauses l.initial.values l.initial.trail.items l.values l.trail.items;
  watched : AreWatched l.clauses l.watches;
  followed : AreFollowed l.clauses l.watches.pairs.items l.done l.values;
  rest : AreFollowedBut l.done l.values l.trail.items (length l.initial.trail.items) l.var;
}
