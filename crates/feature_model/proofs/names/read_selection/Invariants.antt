use Rattle.std.proofs.Common.{take}
use Rattle.feature_model.specs.NamedSelections.{IsSpelled}
use Rattle.feature_model.proofs.names.read_selection.Given as goal

abbrev pub invariant-names : goal.invariant-names
invariant-names l = IsSpelled l.model.features (take l.index l.names) l.selection
