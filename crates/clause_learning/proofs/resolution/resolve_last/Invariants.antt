use Rattle.std.proofs.Common.{◌≤◌, length}
use Rattle.unit_propagation.specs.Trails.{values_after}
use Rattle.clause_learning.specs.Denials.{Denies}
use Rattle.clause_learning.proofs.Leaving.{AreValued}
use Rattle.clause_learning.proofs.resolution.resolve_last.Given as goal

abbrev pub invariant-steps : goal.invariant-steps
invariant-steps l = record {
  from : l.decision ≤ l.place;
  within : l.place ≤ length l.trail;
  denies : Denies l.clauses (values_after (length l.initial.marks) l.trail) l.marks;
  valued : AreValued (length l.initial.marks) l.trail l.place l.marks;
}

abbrev pub decreases-steps : goal.decreases-steps
decreases-steps l = l.place
