use Rattle.std.proofs.Common.{◌≡◌}
use Rattle.shared_list.proofs.list.SharedList.of.Given as goal

abbrev pub invariant-each : goal.invariant-each
invariant-each g l = l.list ≡ l.yielded
