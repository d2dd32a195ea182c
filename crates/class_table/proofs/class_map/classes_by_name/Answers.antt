use Rattle.std.proofs.Common.{◌≡◌, length, refl, arith, ◌∙◌, ap}
use Rattle.cfj_model.specs.LookUps.{declared}
use Rattle.cfj_model.specs.declared.class.Class.{Class}
use Rattle.class_table.specs.ByName.{IsClassOf}
use Rattle.class_table.proofs.ByNames.{knows_none, knows_more, knows_classes}
use Rattle.class_table.proofs.Members.{find_distinct}
use Rattle.class_table.proofs.class_map.classes_by_name.Goals as goal

pub each-init : goal.each-init
each-init c = knows_none (IsClassOf c.args.project.now.classes) c.args.project.now.classes c.new-map.result.entries c.new-map.ensures.empty

pub each-preserved : goal.each-preserved
each-preserved c =
    let p = c.args.project.now.classes in
    let class = c.class-class.result.now in
    let found = find_distinct (λ (k : Class). k.name) p c.class_count-place-end.ensures.kept.classes_distinct class (c.each.place, c.class-class.ensures) class.name refl in
    knows_more (IsClassOf p) p c.each.place class c.text.result c.class-class.result c.each.map.entries c.insert.new.self.entries
    c.each.invariant c.class-class.ensures c.text.ensures.value (ap (λ n. declared p n) c.text.ensures.value ∙ found) c.in_ok-insert.ensures.updates.0

pub returns : goal.returns
returns c =
    let last : c.each.place ≡ length c.args.project.now.classes = omega (arith, c.each.auto, c.each-test.false, c.class_count-place-end.ensures.count) in
    knows_classes c.args.project.now.classes c.each.place c.each.map.entries last c.each.invariant
