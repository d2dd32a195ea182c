use Rattle.std.proofs.Common.{take, Ok}
use Rattle.cfj_model.specs.Print.{texts}
use Rattle.fj_printer.specs.Adds.{Adds}
use Rattle.fj_printer.specs.Shown.{shown_methods, shown_method_text}
use Rattle.fj_printer.proofs.methods.methods.Given as goal

abbrev pub invariant-methods : goal.invariant-methods
invariant-methods g l =
    Adds g.K.Sink.held g.K.Sink.name g.K.Sink.faults l.fn.sink l.fn.buffer l.sink l.buffer
    (texts (shown_method_text l.showing) (shown_methods l.showing (take l.item-index l.list)))
    (Ok tt)
