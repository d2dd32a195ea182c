use Rattle.std.proofs.Common.{◌≡◌, false, Ok}
use Rattle.fj_printer.specs.Adds.{Adds}
use Rattle.fj_printer.specs.Parts.{spaced_on}
use Rattle.fj_printer.proofs.Presences.{are_there, names_to}
use Rattle.fj_printer.proofs.presence.names.Given as goal

abbrev pub invariant-features : goal.invariant-features
invariant-features g l =
    record {
      begun : l.begun ≡ are_there (names_to l.features l.colors l.number);
      adds : Adds g.K.Sink.held g.K.Sink.name g.K.Sink.faults l.fn.sink l.fn.buffer l.sink l.buffer
          (spaced_on false (names_to l.features l.colors l.number))
          (Ok tt);
    }
