use Rattle.std.proofs.Common.{arith, sym, ◌∙◌}
use Rattle.std.proofs.lemmas.Int.{clamps}
use Rattle.guarded_seq.specs.Rows.{is_same}
use Rattle.guarded_seq.proofs.CommonLaws.{front_more}
use Rattle.guarded_seq.proofs.common.common_front.Goals as goal

pub loop-i-preserved : goal.loop-i-preserved
loop-i-preserved g c =
    let most = c.min-most.ensures in
    front_more (is_same g.T.PartialEq.eq) c.args.left.now c.args.right.now c.loop-i.i c.index-left-i.result c.index-right-i.result (omega (arith, clamps)) (omega (arith, clamps))
    c.index-left-i.is c.index-right-i.is (sym c.is_same.ensures ∙ c.if-not-is_same.false) c.loop-i.invariant
