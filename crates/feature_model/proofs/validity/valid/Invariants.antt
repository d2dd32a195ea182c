use Rattle.std.proofs.Common.{◌≡◌, true, take}
use Rattle.std.specs.List.{list_all}
use Rattle.cfj_logic.specs.Formulas.{truth}
use Rattle.feature_model.proofs.validity.valid.Given as goal

-- the constraints before the place are true
abbrev pub invariant-constraints : goal.invariant-constraints
invariant-constraints l = list_all (truth l.selection) (take l.index l.model.constraints) ≡ true
