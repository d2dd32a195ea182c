use Rattle.std.proofs.Common.{◌≡◌, [], length, arith, refl, ap}
use Rattle.cfj_model.specs.declared.class.Param.{Param}
use Rattle.plain_fj.specs.Found.{names}
use Rattle.plain_fj.proofs.TypeLists.{names_more, names_all}
use Rattle.plain_fj.proofs.same_names.param_names.Goals as goal

pub each-init : goal.each-init
each-init c = ap names c.new-found.ensures.items

pub each-preserved : goal.each-preserved
each-preserved c =
    names_more (λ (p : Param). p.name) [] c.args.params.now c.each.param-index c.param-item.result c.push.new.self.items c.each.found.items _ c.in_ok-push.ensures.items refl
    c.each.invariant c.each-test.true c.param-item.is

pub returns : goal.returns
returns c =
    let last : c.each.param-index ≡ length c.args.params.now = omega (arith, c.each.auto, c.each-test.false) in
    names_all (λ (p : Param). p.name) [] c.args.params.now c.each.param-index c.each.found.items c.each.invariant last
