use Rattle.std.proofs.Common.{take}
use Rattle.unit_propagation.specs.Trails.{Grows}
use Rattle.unit_propagation.specs.Walks.{AreSettled}
use Rattle.unit_propagation.proofs.walk.settle_short.Given as goal

abbrev pub invariant-loop-place : goal.invariant-loop-place
invariant-loop-place l = record {
  grown : Grows l.clauses l.initial.values l.initial.trail.items l.values l.trail.items;
  settled : AreSettled l.clauses (take l.place-index l.short) l.values;
}
