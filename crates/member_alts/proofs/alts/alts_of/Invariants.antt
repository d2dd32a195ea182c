use Rattle.std.proofs.Common.{take}
use Rattle.member_alts.specs.Counts.{count_in, AreCounted}
use Rattle.member_alts.proofs.alts.alts_of.Given as goal

abbrev pub invariant-loop-member : goal.invariant-loop-member
invariant-loop-member g l = AreCounted g.M.Member.name_of (take l.member-index l.members) (count_in l.counts) l.alts.items
