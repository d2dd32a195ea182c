use Rattle.std.proofs.Common.{◌≡◌, take}
use Rattle.guarded_seq.specs.Sequences.{gates_of}
use Rattle.guarded_seq.proofs.rows.gates_of.Given as goal

abbrev pub invariant-loop-guarded : goal.invariant-loop-guarded
invariant-loop-guarded g l = l.gates.items ≡ gates_of (take l.guarded-index l.items)
