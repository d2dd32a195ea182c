use denote.Text.{Utf8}
use denote.Shadow.{shadow}
use Rattle.std.proofs.Common.{◌≡◌, take, Ok}
use Rattle.cfj_model.specs.Print.{joined, sent_text}
use Rattle.fj_printer.specs.Adds.{Adds}
use Rattle.fj_printer.specs.Shown.{names, shown_sents}
use Rattle.fj_printer.proofs.Lists.{separator}
use Rattle.fj_printer.proofs.ctors.sends.Given as goal

abbrev pub invariant-sends : goal.invariant-sends
invariant-sends g l =
    record {
      utf8 : shadow (Utf8 l.separator);
      between : l.separator ≡ separator (shown_sents l.showing (take l.item-index l.list));
      adds : Adds g.K.Sink.held g.K.Sink.name g.K.Sink.faults l.fn.sink l.fn.buffer l.sink l.buffer
          (joined (sent_text (names l.showing)) (shown_sents l.showing (take l.item-index l.list)))
          (Ok tt);
    }
