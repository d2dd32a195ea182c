use Rattle.std.proofs.Common.{◌≡◌, length, map, arith, ◌∙◌, ap}
use Rattle.plain_fj.specs.Breaking.{told}
use Rattle.plain_fj.proofs.Broken.{told_more}
use Rattle.plain_fj.proofs.TypeLists.{take_all}
use Rattle.plain_fj.proofs.projects.pairs_of.Goals as goal

pub each-preserved : goal.each-preserved
each-preserved c =
    told_more c.args.breaks.now c.each.found-index c.found-item.result c.each.pairs.items c.push.new.self.items c.in_ok-pair.field-0 c.each.invariant c.each-test.true c.found-item.is
    c.in_ok-pair.ensures c.in_ok-push.ensures.items

pub returns : goal.returns
returns c =
    let last : c.each.found-index ≡ length c.args.breaks.now = omega (arith, c.each.auto, c.each-test.false) in
    c.each.invariant ∙ ap (map told) (take_all c.args.breaks.now c.each.found-index last)
