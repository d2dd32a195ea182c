use Rattle.std.proofs.Common.{◌≡◌, length}
use Rattle.formula_reader.specs.Machine as spec
use Rattle.formula_reader.proofs.frames.reduce.Given as goal

abbrev pub invariant-closing : goal.invariant-closing
invariant-closing l = spec.reduce l.least l.frames l.whole ≡ spec.reduce l.least l.fn.frames l.fn.right

abbrev pub decreases-closing : goal.decreases-closing
decreases-closing l = length l.frames
