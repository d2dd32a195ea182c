use Rattle.std.proofs.Common.{◌≡◌, ◌<◌, drop, length, true}
use Rattle.cfj_logic.specs.Sides.{is_over}
use Rattle.cond_circuit.specs.Gates.{Grown}
use Rattle.guarded_types.proofs.Reached.{IsReaching}
use Rattle.guarded_types.proofs.subtypes.extended_within.Given as goal

abbrev pub invariant-each : goal.invariant-each
invariant-each l = record {
  grown : Grown l.fn.circuit l.circuit;
  inside : l.found < length l.circuit.parts;
  over : is_over l.fn.circuit.features l.up ≡ true;
  reaching : IsReaching l.circuit l.within l.found l.upper l.up (drop l.place l.chain) l.chain;
}
