use Rattle.cond_circuit.specs.Gates.{Grown}
use Rattle.guarded_types.specs.Within.{IsWithin}
use Rattle.guarded_types.proofs.MarkGates.{hold_to}
use Rattle.guarded_types.proofs.marks.each_mark.Given as goal

abbrev pub invariant-each : goal.invariant-each
invariant-each l = record {
  grown : Grown l.fn.circuit l.circuit;
  worth : IsWithin l.circuit l.within l.gate (λ s. hold_to l.feature s l.marks);
}
