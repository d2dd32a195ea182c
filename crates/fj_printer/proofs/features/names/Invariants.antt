use denote.Text.{Utf8}
use denote.Shadow.{shadow}
use Rattle.std.proofs.Common.{◌≡◌, take, Ok}
use Rattle.cfj_model.specs.Print.{joined, name_text}
use Rattle.fj_printer.specs.Adds.{Adds}
use Rattle.fj_printer.proofs.Lists.{separator}
use Rattle.fj_printer.proofs.features.names.Given as goal

abbrev pub invariant-names : goal.invariant-names
invariant-names g l =
    record {
      utf8 : shadow (Utf8 l.separator);
      between : l.separator ≡ separator (take l.item-index l.names);
      adds : Adds g.K.Sink.held g.K.Sink.name g.K.Sink.faults l.fn.sink l.fn.buffer l.sink l.buffer
          (joined name_text (take l.item-index l.names))
          (Ok tt);
    }
