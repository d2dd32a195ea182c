use Rattle.std.proofs.Common.{◌≡◌, true}
use Rattle.cfj_logic.specs.Sides.{is_over}
use Rattle.cfj_model.specs.Projection.{is_present}
use Rattle.cond_circuit.specs.Gates.{Grown}
use Rattle.guarded_seq.specs.Sequences.{AreInside}
use Rattle.guarded_types.specs.Within.{IsWithin}
use Rattle.guarded_types.proofs.FrontParts.{AreCounted}
use Rattle.guarded_types.proofs.parts.parts_within.Given as goal

abbrev pub invariant-each : goal.invariant-each
invariant-each l = record {
  grown : Grown l.fn.circuit l.circuit;
  inside : AreInside l.circuit l.found.items;
  over : is_over l.fn.circuit.features l.up ≡ true;
  reached : IsWithin l.circuit l.within l.reached (λ s. is_present s l.up);
  counted : AreCounted l.circuit l.within l.up l.place l.chain l.found.items;
}
