use Rattle.std.proofs.Common.{◌≡◌, true}
use Rattle.cfj_logic.specs.UnitClauses.{value_of}
use Rattle.clause_learning.specs.Denials.{Gathers}
use Rattle.clause_learning.proofs.chosen.selection_of.Given as goal

abbrev pub invariant-loop-feature : goal.invariant-loop-feature
invariant-loop-feature l = record {
  on : Gathers true l.selection.on l.feature (value_of l.values);
  features : l.selection.features ≡ l.features;
}
