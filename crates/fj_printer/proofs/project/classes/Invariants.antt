use Rattle.std.proofs.Common.{take, Ok}
use Rattle.cfj_model.specs.Print.{texts}
use Rattle.fj_printer.specs.Adds.{Adds}
use Rattle.fj_printer.specs.Shown.{shown_classes, shown_class_text}
use Rattle.fj_printer.proofs.project.classes.Given as goal

abbrev pub invariant-classes : goal.invariant-classes
invariant-classes g l =
    Adds g.K.Sink.held g.K.Sink.name g.K.Sink.faults l.fn.sink l.fn.buffer l.sink l.buffer
    (texts (shown_class_text l.showing) (shown_classes l.showing (take l.place l.project.classes)))
    (Ok tt)
