use Rattle.std.proofs.Common.{Ok}
use Rattle.fj_printer.proofs.MarkTexts.{marks_to}
use Rattle.fj_printer.specs.Adds.{Adds}
use Rattle.fj_printer.proofs.marks.marks.Given as goal

abbrev pub invariant-features : goal.invariant-features
invariant-features g l =
    Adds g.K.Sink.held g.K.Sink.name g.K.Sink.faults l.fn.sink l.fn.buffer l.sink l.buffer
    (marks_to l.features l.colors l.number)
    (Ok tt)
