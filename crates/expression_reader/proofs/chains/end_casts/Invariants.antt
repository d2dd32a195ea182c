use Rattle.std.proofs.Common.{◌≡◌, length}
use Rattle.expression_reader.specs.Machine as machine
use Rattle.expression_reader.proofs.chains.end_casts.Given as goal

abbrev pub invariant-casts : goal.invariant-casts
invariant-casts l = machine.uncast l.x l.frames ≡ machine.uncast l.initial.x l.initial.frames

abbrev pub decreases-casts : goal.decreases-casts
decreases-casts l = length l.frames
