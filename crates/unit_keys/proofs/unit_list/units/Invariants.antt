use Rattle.std.proofs.Common.{◌≡◌, ◌++◌, [], ◌∷◌, take}
use Rattle.std.specs.List.{flat_map}
use Rattle.unit_facts.specs.Units.{class_units}
use Rattle.unit_facts.specs.declared.unit.Unit.TheVariants as unit
use Rattle.unit_keys.proofs.unit_list.units.Given as goal

abbrev pub invariant-each : goal.invariant-each
invariant-each l = l.units.items ≡ unit.Model ∷ [] ++ flat_map class_units (take l.place l.project.classes)
