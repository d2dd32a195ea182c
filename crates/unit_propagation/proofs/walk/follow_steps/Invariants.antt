use Rattle.std.proofs.Common.{◌+◌, ◌-◌, ◌≤◌, length}
use Rattle.std.specs.Prelude.{sum_by}
use Rattle.unit_propagation.specs.Standings.{unvalued}
use Rattle.unit_propagation.specs.Trails.{Grows}
use Rattle.unit_propagation.specs.Walks.{AreFollowed, AreFollowedBut}
use Rattle.unit_propagation.specs.Watched.{AreWatched}
use Rattle.unit_propagation.proofs.walk.follow_steps.Given as goal

abbrev pub invariant-steps : goal.invariant-steps
invariant-steps l = record {
  grown : Grows l.clauses l.initial.values l.initial.trail.items l.values l.trail.items;
  watched : AreWatched l.clauses l.watches;
  followed : AreFollowed l.clauses l.watches.pairs.items l.done l.values;
  rest : AreFollowedBut l.done l.values l.trail.items l.head (length l.values);
  within : l.head ≤ length l.trail.items;
}

abbrev pub decreases-steps : goal.decreases-steps
decreases-steps l = (sum_by unvalued l.values + length l.trail.items) - l.head
