use Rattle.std.proofs.Common.{ℕ, ◌+◌, ◌-◌, ◌≤◌, length, vec_len}
use Rattle.unit_propagation.specs.Lists.{IsIn}
use Rattle.unit_propagation.proofs.lists.lengthen.Given as goal

abbrev pub invariant-lists : goal.invariant-lists
invariant-lists l = record {
  kept : (x k : ℕ) → IsIn l.initial.lists.items x k → IsIn l.lists.items x k;
  longer : length l.initial.lists.items ≤ length l.lists.items;
}

abbrev pub decreases-lists : goal.decreases-lists
decreases-lists l = (l.var + 1) - vec_len l.lists
