use Rattle.std.proofs.Common.{◌≡◌, ◌-◌, ◌++◌}
use Rattle.cfj_logic.specs.Selections.{choices_from, choices}
use Rattle.refutation_check.proofs.premises.choices.Given as goal

abbrev pub invariant-loop-feature : goal.invariant-loop-feature
invariant-loop-feature l = l.list.items ++ choices_from l.selection (l.selection.features - l.feature) l.feature ≡ choices l.selection
