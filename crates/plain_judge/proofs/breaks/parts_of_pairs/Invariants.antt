use Rattle.std.proofs.Common.{take}
use Rattle.plain_judge.specs.PairParts.{IsSetOf}
use Rattle.plain_judge.proofs.breaks.parts_of_pairs.Given as goal

abbrev pub invariant-each : goal.invariant-each
invariant-each l = IsSetOf (take l.pair-index l.pairs) l.set.keys
