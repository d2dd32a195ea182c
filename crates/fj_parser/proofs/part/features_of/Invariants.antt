use Rattle.std.proofs.Common.{◌≡◌, take}
use Rattle.fj_parser.proofs.part.features_of.Given as goal

abbrev pub invariant-each : goal.invariant-each
invariant-each l = l.features ≡ take l.item-index l.names
