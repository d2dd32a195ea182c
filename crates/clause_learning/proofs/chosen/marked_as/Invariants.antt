use Rattle.std.proofs.Common.{◌<◌, ◌^◌}
use Rattle.clause_learning.specs.Denials.{Gathers, marked_value}
use Rattle.clause_learning.proofs.chosen.marked_as.Given as goal

abbrev pub invariant-loop-feature : goal.invariant-loop-feature
invariant-loop-feature l = record {
  gathers : Gathers l.on l.set l.feature (marked_value l.marks l.values);
  small : l.set < 2 ^ l.features;
}
