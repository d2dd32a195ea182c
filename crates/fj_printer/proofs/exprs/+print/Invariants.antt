use denote.Text.{Utf8}
use denote.Shadow.{shadow}
use Rattle.std.proofs.Common.{◌≡◌, take, Ok}
use Rattle.cfj_model.specs.Print.{joined}
use Rattle.fj_printer.specs.Adds.{Adds}
use Rattle.fj_printer.specs.Shown.{shown_args, shown_arg_text}
use Rattle.fj_printer.proofs.Lists.{separator}
use Rattle.fj_printer.proofs.exprs.+print.Given as goal

abbrev pub invariant-arguments-each : goal.invariant-arguments-each
invariant-arguments-each g l =
    record {
      utf8 : shadow (Utf8 l.separator);
      between : l.separator ≡ separator (shown_args l.showing (take l.item-index l.args));
      adds : Adds g.K.Sink.held g.K.Sink.name g.K.Sink.faults l.fn.sink l.fn.buffer l.sink l.buffer
          (joined (shown_arg_text l.showing) (shown_args l.showing (take l.item-index l.args)))
          (Ok tt);
    }
