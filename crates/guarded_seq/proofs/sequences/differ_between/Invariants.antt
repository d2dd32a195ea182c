use Rattle.cond_circuit.specs.Gates.{Grown}
use Rattle.guarded_seq.specs.Rows.{IsRow}
use Rattle.guarded_seq.proofs.sequences.differ_between.Given as goal

abbrev pub invariant-loop-i : goal.invariant-loop-i
invariant-loop-i g l = record {
  grown : Grown l.fn.circuit l.circuit;
  row : IsRow g.T.PartialEq.eq l.fn.circuit l.circuit l.left l.i l.right l.row.items;
}
