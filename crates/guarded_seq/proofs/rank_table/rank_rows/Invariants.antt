use Rattle.std.proofs.Common.{◌≡◌, ◌+◌, length, map}
use Rattle.cond_circuit.specs.Gates.{Grown}
use Rattle.guarded_seq.specs.Rows.{AreRows}
use Rattle.guarded_seq.proofs.rank_table.rank_rows.Given as goal

abbrev pub invariant-loop-i : goal.invariant-loop-i
invariant-loop-i l = record {
  grown : Grown l.fn.circuit l.circuit;
  many : length l.rows.items ≡ l.i + 1;
  rows : AreRows l.fn.circuit l.circuit l.left l.right (map (λ row. row.items) l.rows.items);
}
