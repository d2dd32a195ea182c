use Rattle.std.proofs.Common.{◌≤◌, length}
use Rattle.clause_learning.specs.Decided.{AreCaused}
use Rattle.clause_learning.proofs.places.last_decision.Given as goal

abbrev pub invariant-steps : goal.invariant-steps
invariant-steps l = record {
  within : l.above ≤ length l.trail;
  caused : AreCaused l.trail l.above;
}

abbrev pub decreases-steps : goal.decreases-steps
decreases-steps l = l.above
