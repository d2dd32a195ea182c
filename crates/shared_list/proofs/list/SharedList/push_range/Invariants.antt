use Rattle.std.proofs.Common.{◌≡◌, ◌++◌, slice_range}
use Rattle.shared_list.proofs.list.SharedList.push_range.Given as goal

abbrev pub invariant-each : goal.invariant-each
invariant-each g l = l.self ≡ l.initial.self ++ slice_range l.other l.from l.place
