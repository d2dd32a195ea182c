use Rattle.std.proofs.Common.{◌≡◌, ◌++◌, map, take}
use Rattle.cfj_model.specs.declared.class.Method.{Method}
use Rattle.unit_facts.specs.declared.unit.Unit.TheVariants as unit
use Rattle.unit_keys.proofs.unit_list.add_methods.Given as goal

abbrev pub invariant-each : goal.invariant-each
invariant-each l = l.units.items ≡ l.initial.units.items ++ map (λ (m : Method). unit.Method l.class.name m.name m.alt) (take l.method-index l.class.methods)
