use Rattle.std.proofs.Common.{◌≡◌}
use Rattle.std.specs.List.{filter_map}
use Rattle.plain_judge.specs.Concluding.{entry_of}
use Rattle.plain_judge.proofs.entries.entries_of.Given as goal

abbrev pub invariant-each : goal.invariant-each
invariant-each l = l.entries.items ≡ filter_map (entry_of l.limited l.log) l.yielded
