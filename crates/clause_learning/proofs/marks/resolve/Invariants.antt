use Rattle.std.proofs.Common.{◌≡◌, drop}
use Rattle.clause_learning.specs.Denials.{with_others}
use Rattle.clause_learning.proofs.marks.resolve.Given as goal

abbrev pub invariant-loop-other : goal.invariant-loop-other
invariant-loop-other l = with_others l.literal l.marks (drop l.other-index l.clause) ≡ with_others l.literal l.initial.marks l.clause
