use Rattle.std.proofs.Common.{option_and_then, option_map, sym, ◌∙◌, ap}
use Rattle.std.specs.List.{position}
use Rattle.cfj_model.specs.Members.{Placed}
use Rattle.cfj_model.specs.declared.class.Class.{Class}
use Rattle.cfj_model.specs.declared.class.Method.{Method}
use Rattle.unit_facts.specs.Facts.{if_some, method_is}
use Rattle.unit_facts.specs.Units.{is_declaration, placed_method}
use Rattle.unit_keys.proofs.Places.{method_here, method_lacking}
use Rattle.unit_keys.proofs.facts_at.method_fact.Goals as goal

pub returns-in-Some-place_declared : goal.returns-in-Some-place_declared
returns-in-Some-place_declared c =
    let m = c.args.method.now in
    let k = c.in-Some.owner.now in
    let methods = c.slice.ensures ∙ ap (λ (w : Class). w.methods) c.get.ensures in
    let at = sym (ap (position (is_declaration m c.args.alt)) methods) ∙ sym c.in-Some-place_declared.ensures in
    c.of-in-Some-place_declared.ensures ∙ method_here m c.args.alt k c.in-Some-place_declared.place at
    ∙ ap (λ o. if_some method_is (option_and_then (λ (w : Class). option_map (λ (d : Placed Method). d.item) (placed_method m c.args.alt w)) o)) c.in-Some.ensures

pub returns-in-None : goal.returns-in-None
returns-in-None c =
    let m = c.args.method.now in
    let k = c.in-Some.owner.now in
    let methods = c.slice.ensures ∙ ap (λ (w : Class). w.methods) c.get.ensures in
    let at = sym (ap (position (is_declaration m c.args.alt)) methods) ∙ sym c.in-None.ensures in
    c.of-in-None.ensures ∙ method_lacking m c.args.alt k at
    ∙ ap (λ o. if_some method_is (option_and_then (λ (w : Class). option_map (λ (d : Placed Method). d.item) (placed_method m c.args.alt w)) o)) c.in-Some.ensures
