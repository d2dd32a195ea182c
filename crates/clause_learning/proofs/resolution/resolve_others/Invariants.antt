use Rattle.std.proofs.Common.{◌≤◌, length}
use Rattle.unit_propagation.specs.Trails.{values_after}
use Rattle.clause_learning.specs.Denials.{Denies, LeavesOne}
use Rattle.clause_learning.proofs.Leaving.{AreKept}
use Rattle.clause_learning.proofs.resolution.resolve_others.Given as goal

abbrev pub invariant-steps : goal.invariant-steps
invariant-steps l = record {
  within : l.place ≤ l.decision;
  denies : Denies l.clauses (values_after (length l.initial.marks) l.trail) l.marks;
  one : LeavesOne l.features (length l.initial.marks) l.trail l.decision l.marks;
  kept : AreKept l.features (length l.initial.marks) l.trail l.place l.marks;
}

abbrev pub decreases-steps : goal.decreases-steps
decreases-steps l = l.place
