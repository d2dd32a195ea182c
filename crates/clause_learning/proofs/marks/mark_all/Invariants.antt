use Rattle.std.proofs.Common.{◌≡◌, drop, length}
use Rattle.clause_learning.specs.Denials.{with_all}
use Rattle.clause_learning.proofs.marks.mark_all.Given as goal

abbrev pub invariant-loop-literal : goal.invariant-loop-literal
invariant-loop-literal l = record {
  size : length l.marks.items ≡ length l.initial.marks.items;
  so_far : with_all l.marks.items (drop l.literal-index l.clause) ≡ with_all l.initial.marks.items l.clause;
}
