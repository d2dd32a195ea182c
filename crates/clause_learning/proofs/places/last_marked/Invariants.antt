use Rattle.std.proofs.Common.{◌≤◌}
use Rattle.clause_learning.specs.Denials.{AreUnmarked}
use Rattle.clause_learning.proofs.places.last_marked.Given as goal

abbrev pub invariant-steps : goal.invariant-steps
invariant-steps l = record {
  within : l.above ≤ l.to;
  unmarked : AreUnmarked l.marks l.trail l.above l.to;
}

abbrev pub decreases-steps : goal.decreases-steps
decreases-steps l = l.above
