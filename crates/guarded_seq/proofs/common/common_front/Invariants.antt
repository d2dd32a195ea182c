use Rattle.std.proofs.Common.{◌≡◌, true, take}
use Rattle.std.specs.Cmp.Lexicographic.{pointwise}
use Rattle.guarded_seq.specs.Rows.{is_same}
use Rattle.guarded_seq.proofs.common.common_front.Given as goal

abbrev pub invariant-loop-i : goal.invariant-loop-i
invariant-loop-i g l = pointwise (is_same g.T.PartialEq.eq) (take l.i l.left) (take l.i l.right) ≡ true
