use Rattle.std.proofs.Common.{◌-◌, ◌++◌, ◌∙◌, ap, arith}
use Rattle.cfj_logic.specs.Selections.{has_bit}
use Rattle.cfj_logic.specs.Logs.{literals_from}
use Rattle.refutation_check.proofs.ClauseLiterals.{literals_first, literals_more, literals_end}
use Rattle.refutation_check.proofs.premises.literals.Goals as goal

pub loop-feature-init : goal.loop-feature-init
loop-feature-init c = ap (λ w. w ++ literals_from c.args.clause.now (128 - 0) 0) c.new-list.ensures.items ∙ literals_first c.args.clause.now

pub loop-feature-preserved : goal.loop-feature-preserved
loop-feature-preserved c =
    literals_more c.args.clause.now c.loop-feature.feature c.loop-feature.list.items c.push_if.new.list.items c.push_if-in-loop-feature.new.list.items _ c.has.result c.has-in-loop-feature.result
    (omega arith) c.in_ok-push_if.ensures c.in_ok-push_if-2.ensures
    (c.has.ensures.member ∙ ap (λ n. has_bit n c.loop-feature.feature) c.on-on.ensures.set) (c.has-in-loop-feature.ensures.member ∙ ap (λ n. has_bit n c.loop-feature.feature) c.off-off.ensures.set)
    c.loop-feature.invariant

pub returns : goal.returns
returns c = c.of.ensures ∙ literals_end c.args.clause.now c.loop-feature.feature c.loop-feature.list.items (omega arith) c.loop-feature.invariant
