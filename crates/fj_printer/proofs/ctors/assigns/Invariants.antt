use Rattle.std.proofs.Common.{take, Ok}
use Rattle.cfj_model.specs.Print.{texts, assign_text}
use Rattle.fj_printer.specs.Adds.{Adds}
use Rattle.fj_printer.specs.Shown.{names, shown_sents}
use Rattle.fj_printer.proofs.ctors.assigns.Given as goal

abbrev pub invariant-assigns : goal.invariant-assigns
invariant-assigns g l =
    Adds g.K.Sink.held g.K.Sink.name g.K.Sink.faults l.fn.sink l.fn.buffer l.sink l.buffer
    (texts (assign_text (names l.showing)) (shown_sents l.showing (take l.item-index l.list)))
    (Ok tt)
