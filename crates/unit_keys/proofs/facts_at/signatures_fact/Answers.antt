use Rattle.std.proofs.Common.{sym, ◌∙◌, ap}
use Rattle.std.specs.List.{position}
use Rattle.std.specs.Str.{bytes_eq}
use Rattle.cfj_model.specs.declared.class.Class.{Class}
use Rattle.cfj_model.specs.declared.class.Method.{Method}
use Rattle.unit_facts.specs.Facts.{if_any, signatures_in}
use Rattle.unit_keys.proofs.Places.{signatures_found, signatures_lacking}
use Rattle.unit_keys.proofs.facts_at.signatures_fact.Goals as goal

pub returns-in-Some-place_named : goal.returns-in-Some-place_named
returns-in-Some-place_named c =
    let m = c.args.method.now in
    let k = c.in-Some.owner.now in
    let methods = c.slice.ensures ∙ ap (λ (w : Class). w.methods) c.get.ensures in
    let at = sym (ap (position (λ (d : Method). bytes_eq d.name m)) methods) ∙ sym c.in-Some-place_named.ensures in
    c.of-in-Some-place_named.ensures ∙ signatures_found m k c.in-Some-place_named.place at ∙ ap (λ o. if_any (signatures_in m o)) c.in-Some.ensures

pub returns-in-None : goal.returns-in-None
returns-in-None c =
    let m = c.args.method.now in
    let k = c.in-Some.owner.now in
    let methods = c.slice.ensures ∙ ap (λ (w : Class). w.methods) c.get.ensures in
    let at = sym (ap (position (λ (d : Method). bytes_eq d.name m)) methods) ∙ sym c.in-None.ensures in
    c.of-in-None.ensures ∙ signatures_lacking m k at ∙ ap (λ o. if_any (signatures_in m o)) c.in-Some.ensures
