use Rattle.std.proofs.Common.{◌≡◌, ℕ, ◌-◌, ◌<◌, ◌≤◌, slice_get, Some, None}
use Rattle.unit_propagation.specs.declared.trail.Step.{Step}
use Rattle.clause_learning.proofs.places.first_decision.Given as goal

abbrev pub invariant-steps : goal.invariant-steps
invariant-steps l = record {
  from : l.from ≤ l.place;
  within : l.place ≤ l.to;
  first : (j : ℕ) (s : Step) → j < l.place → slice_get l.trail j ≡ Some s → s.cause ≡ None → j < l.from;
}

abbrev pub decreases-steps : goal.decreases-steps
decreases-steps l = l.to - l.place
