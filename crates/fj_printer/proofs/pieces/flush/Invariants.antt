use Rattle.std.proofs.Common.{length, ◌-◌, [], drop, ◌≤◌, Ok}
use Rattle.fj_printer.specs.Adds.{Adds}
use Rattle.fj_printer.proofs.pieces.flush.Given as goal

abbrev pub invariant-puts : goal.invariant-puts
invariant-puts g l =
    record {
      within : l.put ≤ length l.waiting;
      adds : Adds g.K.Sink.held g.K.Sink.name g.K.Sink.faults l.fn.sink l.waiting l.sink (drop l.put l.waiting) [] (Ok tt);
    }

abbrev pub decreases-puts : goal.decreases-puts
decreases-puts g l = length l.waiting - l.put
