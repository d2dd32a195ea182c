use Rattle.std.proofs.Common.{◌≡◌, [], length, arith, refl, ap}
use Rattle.cfj_model.specs.declared.class.Param.{Param}
use Rattle.plain_fj.specs.Found.{names}
use Rattle.plain_fj.proofs.TypeLists.{names_more, names_all}
use Rattle.plain_fj.proofs.wanted.param_types.Goals as goal

pub each-init : goal.each-init
each-init c = ap names c.new-types.ensures.items

pub each-preserved : goal.each-preserved
each-preserved c =
    names_more (λ (p : Param). p.of) [] c.args.params.now c.each.param-index c.param-item.result c.push.new.self.items c.each.types.items _ c.in_ok-push.ensures.items refl
    c.each.invariant c.each-test.true c.param-item.is

pub returns : goal.returns
returns c =
    let last : c.each.param-index ≡ length c.args.params.now = omega (arith, c.each.auto, c.each-test.false) in
    names_all (λ (p : Param). p.of) [] c.args.params.now c.each.param-index c.each.types.items c.each.invariant last
