use Rattle.std.proofs.Common.{◌≡◌, take}
use Rattle.member_alts.specs.Numbers.{with_alts}
use Rattle.member_alts.proofs.alts.write_alts.Given as goal

abbrev pub invariant-loop-place : goal.invariant-loop-place
invariant-loop-place g l = l.members ≡ with_alts g.M.Member.with_alt l.initial.members (take l.place l.alts)
