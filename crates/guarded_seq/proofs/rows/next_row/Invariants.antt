use Rattle.std.proofs.Common.{◌+◌}
use Rattle.cond_circuit.specs.Gates.{Grown}
use Rattle.guarded_seq.specs.Rows.{AreCells, next_cells}
use Rattle.guarded_seq.proofs.rows.next_row.Given as goal

abbrev pub invariant-loop-j : goal.invariant-loop-j
invariant-loop-j l = record {
  grown : Grown l.fn.circuit l.circuit;
  cells : AreCells l.circuit l.cells.items (l.j + 1) (next_cells l.fn.circuit l.gate l.right l.alike l.row);
}
