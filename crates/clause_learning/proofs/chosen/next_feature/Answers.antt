use Rattle.clause_learning.proofs.Choosing.{valued_next}
use Rattle.clause_learning.proofs.chosen.next_feature.Goals as goal

pub loop-feature-preserved : goal.loop-feature-preserved
loop-feature-preserved c = valued_next c.args.values.now c.loop-feature.feature c.loop-feature.invariant (c.has_value.ensures.some c.if-not-has_value.false)
