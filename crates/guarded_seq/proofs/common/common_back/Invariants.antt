use Rattle.std.proofs.Common.{◌≡◌, ◌-◌, true, drop, length}
use Rattle.std.specs.Cmp.Lexicographic.{pointwise}
use Rattle.guarded_seq.specs.Rows.{is_same}
use Rattle.guarded_seq.proofs.common.common_back.Given as goal

abbrev pub invariant-loop-i : goal.invariant-loop-i
invariant-loop-i g l = pointwise (is_same g.T.PartialEq.eq) (drop (length l.left - l.i) l.left) (drop (length l.right - l.i) l.right) ≡ true
