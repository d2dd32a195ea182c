use Rattle.std.proofs.Common.{length, ◌-◌, take, ◌≤◌, Ok}
use Rattle.fj_printer.specs.Adds.{Adds}
use Rattle.fj_printer.proofs.pieces.add.Given as goal

abbrev pub invariant-fills : goal.invariant-fills
invariant-fills g l =
    record {
      within : l.added ≤ length l.text;
      adds : Adds g.K.Sink.held g.K.Sink.name g.K.Sink.faults l.fn.sink l.fn.buffer l.sink l.buffer (take l.added l.text) (Ok tt);
    }

abbrev pub decreases-fills : goal.decreases-fills
decreases-fills g l = length l.text - l.added
