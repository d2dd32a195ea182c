use Rattle.std.proofs.Common.{◌≡◌, take}
use Rattle.cfj_model.specs.Languages.{with_features}
use Rattle.fj_tally.specs.Views.{tally_seen}
use Rattle.fj_parser.proofs.part.Part.count_features.Given as goal

abbrev pub invariant-each : goal.invariant-each
invariant-each l = tally_seen l.tally ≡ with_features l.fn.self.format (take l.item-index l.fn.self.features.now)
