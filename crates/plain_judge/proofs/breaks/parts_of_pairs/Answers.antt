use Rattle.std.proofs.Common.{arith}
use Rattle.plain_judge.proofs.LookedUp.{set_none, set_more, set_all}
use Rattle.plain_judge.proofs.breaks.parts_of_pairs.Goals as goal

pub each-init : goal.each-init
each-init c = set_none c.args.pairs.now c.new-set.result.keys c.new-set.ensures.empty

pub each-preserved : goal.each-preserved
each-preserved c =
    set_more c.args.pairs.now c.each.pair-index c.each.set.keys c.insert.new.self.keys c.of.result c.pair-item.result c.each.invariant
    (omega (arith, c.each-test.true)) c.pair-item.is c.of.ensures c.in_ok-insert.ensures.keys

pub returns : goal.returns
returns c = set_all c.args.pairs.now c.each.pair-index c.each.set.keys c.each-test.false c.each.invariant
