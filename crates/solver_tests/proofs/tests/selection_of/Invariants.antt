use Rattle.std.proofs.Common.{◌≡◌}
use Rattle.solver_tests.proofs.tests.selection_of.Given as goal

abbrev pub invariant-features : goal.invariant-features
invariant-features l = l.selection.features ≡ l.features
