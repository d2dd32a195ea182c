use Rattle.std.proofs.Common.{take}
use Rattle.cond_circuit.specs.Gates.{Grown}
use Rattle.guarded_seq.specs.Sequences.{AreInside}
use Rattle.guarded_types.specs.Along.{there}
use Rattle.guarded_types.specs.Within.{IsOfFirst, IsWithin}
use Rattle.guarded_types.proofs.FirstItems.{is_some_there}
use Rattle.guarded_types.proofs.firsts.firsts.Given as goal

abbrev pub invariant-each : goal.invariant-each
invariant-each g l = record {
  grown : Grown l.fn.circuit l.circuit;
  inside : AreInside l.circuit l.found.items;
  taken : IsWithin l.circuit l.within l.taken (λ s. is_some_there (there s (take l.place l.items)));
  first : IsOfFirst l.circuit l.within l.found.items (take l.place l.items);
}
