use Rattle.std.proofs.Common.{◌≡◌, [], length, arith, refl, ap}
use Rattle.cfj_model.specs.declared.class.Sent.{Sent}
use Rattle.plain_fj.specs.Found.{names}
use Rattle.plain_fj.proofs.TypeLists.{names_more, names_all}
use Rattle.plain_fj.proofs.same_names.sent_names.Goals as goal

pub each-init : goal.each-init
each-init c = ap names c.new-found.ensures.items

pub each-preserved : goal.each-preserved
each-preserved c =
    names_more (λ (s : Sent). s.name) [] c.args.sents.now c.each.sent-index c.sent-item.result c.push.new.self.items c.each.found.items _ c.in_ok-push.ensures.items refl
    c.each.invariant c.each-test.true c.sent-item.is

pub returns : goal.returns
returns c =
    let last : c.each.sent-index ≡ length c.args.sents.now = omega (arith, c.each.auto, c.each-test.false) in
    names_all (λ (s : Sent). s.name) [] c.args.sents.now c.each.sent-index c.each.found.items c.each.invariant last
