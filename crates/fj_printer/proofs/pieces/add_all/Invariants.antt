use Rattle.std.proofs.Common.{take, Ok}
use Rattle.cfj_model.specs.Print.{texts}
use Rattle.fj_printer.specs.Adds.{Adds}
use Rattle.fj_printer.proofs.pieces.add_all.Given as goal

abbrev pub invariant-texts : goal.invariant-texts
invariant-texts g l =
    Adds g.K.Sink.held g.K.Sink.name g.K.Sink.faults l.fn.sink l.fn.buffer l.sink l.buffer
    (texts (λ text. text.now) (take l.text-index l.list))
    (Ok tt)
