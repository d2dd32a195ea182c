use Rattle.std.proofs.Common.{◌≡◌, map, take}
use Rattle.guarded_seq.specs.Rows.{blank}
use Rattle.guarded_seq.proofs.lengths.blanks.Given as goal

abbrev pub invariant-loop-guarded : goal.invariant-loop-guarded
invariant-loop-guarded g l = l.found.items ≡ map blank (take l.guarded-index l.items)
