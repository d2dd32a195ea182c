use Rattle.std.proofs.Common.{take, Ok}
use Rattle.cfj_model.specs.Print.{texts, constraint_text}
use Rattle.fj_printer.specs.Adds.{Adds}
use Rattle.fj_printer.proofs.formulas.constraint_lines.Given as goal

abbrev pub invariant-constraints : goal.invariant-constraints
invariant-constraints g l =
    Adds g.K.Sink.held g.K.Sink.name g.K.Sink.faults l.fn.sink l.fn.buffer l.sink l.buffer
    (texts (constraint_text l.features) (take l.item-index l.constraints))
    (Ok tt)
