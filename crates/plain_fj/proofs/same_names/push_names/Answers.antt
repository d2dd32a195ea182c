use Rattle.std.proofs.Common.{◌≡◌, length, arith, refl, sym}
use Rattle.std.proofs.lemmas.List.{append-nil}
use Rattle.cfj_model.specs.declared.class.Field.{Field}
use Rattle.plain_fj.specs.Found.{names}
use Rattle.plain_fj.proofs.TypeLists.{names_more, names_all}
use Rattle.plain_fj.proofs.same_names.push_names.Goals as goal

pub each-init : goal.each-init
each-init c = sym (append-nil (names c.args.found.now.items))

pub each-preserved : goal.each-preserved
each-preserved c =
    names_more (λ (f : Field). f.name) (names c.args.found.now.items) c.args.fields.now c.each.field-index c.field-item.result c.push.new.self.items c.each.found.items _ c.in_ok-push.ensures.items refl
    c.each.invariant c.each-test.true c.field-item.is

pub returns : goal.returns
returns c =
    let last : c.each.field-index ≡ length c.args.fields.now = omega (arith, c.each.auto, c.each-test.false) in
    names_all (λ (f : Field). f.name) (names c.args.found.now.items) c.args.fields.now c.each.field-index c.each.found.items c.each.invariant last
