use Rattle.std.proofs.Common.{◌≤◌, [], ◌∷◌, length, arith}
use Rattle.unit_facts.specs.Units.{class_units}
use Rattle.unit_facts.specs.declared.unit.Unit.TheVariants as unit
use Rattle.unit_keys.proofs.Grown.{flat_all, flat_next}
use Rattle.unit_keys.proofs.unit_list.units.Goals as goal

pub each-preserved : goal.each-preserved
each-preserved c =
    flat_next class_units c.args.project.now.classes c.each.place c.class.result.now (unit.Model ∷ []) c.each.units.items c.add_class.new.units.items
    c.each.invariant c.class.ensures c.in_ok-add_class.ensures

pub returns : goal.returns
returns c =
    let past : length c.args.project.now.classes ≤ c.each.place = omega (arith, c.each-test.false, c.class_count-place-end.ensures.count) in
    flat_all class_units c.args.project.now.classes c.each.place (unit.Model ∷ []) c.each.units.items c.each.invariant past
