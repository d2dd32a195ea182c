use Rattle.std.proofs.Common.{ℕ, ◌<◌}
use Rattle.clause_learning.specs.Decided.{IsValued}
use Rattle.clause_learning.proofs.chosen.next_feature.Given as goal

abbrev pub invariant-loop-feature : goal.invariant-loop-feature
invariant-loop-feature l = (x : ℕ) → x < l.feature → IsValued l.values x
