use Rattle.std.proofs.Common.{◌≡◌, drop}
use Rattle.cide_io.specs.Memory.{named, look_up}
use Rattle.cide_io.proofs.names.first_named.Given as goal

abbrev pub invariant-pairs : goal.invariant-pairs
invariant-pairs g l = look_up (named (drop l.pair-index l.pairs)) l.name ≡ look_up (named l.pairs) l.name
