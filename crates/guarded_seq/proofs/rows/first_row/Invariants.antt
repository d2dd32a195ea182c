use Rattle.std.proofs.Common.{◌+◌}
use Rattle.cond_circuit.specs.Gates.{Grown, Is}
use Rattle.guarded_seq.specs.Rows.{AreCells, first_cells}
use Rattle.guarded_seq.proofs.rows.first_row.Given as goal

abbrev pub invariant-loop-gate : goal.invariant-loop-gate
invariant-loop-gate l = record {
  grown : Grown l.fn.circuit l.circuit;
  some : Is l.circuit l.some (first_cells l.fn.circuit l.right l.gate-index);
  cells : AreCells l.circuit l.cells.items (l.gate-index + 1) (first_cells l.fn.circuit l.right);
}
