use Rattle.std.proofs.Common.{arith}
use Rattle.refutation_check.proofs.FirstValues.{choices_more}
use Rattle.refutation_check.proofs.premises.choices.Goals as goal

pub loop-feature-preserved : goal.loop-feature-preserved
loop-feature-preserved c =
    choices_more c.args.selection.now c.args.selection.now.features c.loop-feature.feature c.loop-feature.list.items c.push.new.self.items _ c.has.result
    (omega (arith, c.features-feature-end.ensures.number)) c.in_ok-push.ensures.items c.has.ensures.selected c.loop-feature.invariant
