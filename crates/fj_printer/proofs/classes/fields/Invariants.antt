use Rattle.std.proofs.Common.{take, Ok}
use Rattle.cfj_model.specs.Print.{texts, field_text}
use Rattle.fj_printer.specs.Adds.{Adds}
use Rattle.fj_printer.specs.Shown.{names, shown_fields}
use Rattle.fj_printer.proofs.classes.fields.Given as goal

abbrev pub invariant-fields : goal.invariant-fields
invariant-fields g l =
    Adds g.K.Sink.held g.K.Sink.name g.K.Sink.faults l.fn.sink l.fn.buffer l.sink l.buffer
    (texts (field_text (names l.showing)) (shown_fields l.showing (take l.item-index l.list)))
    (Ok tt)
