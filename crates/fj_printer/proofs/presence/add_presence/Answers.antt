use Rattle.fj_printer.proofs.Composing.{adds_then, adds_failed}
use Rattle.fj_printer.proofs.presence.add_presence.Goals as goal

pub returns-in_err-add_text : goal.returns-in_err-add_text
returns-in_err-add_text g c = adds_failed _ c.from_residual.result c.from_residual.ensures.0 c.in_err-add_text.ensures

pub returns-in_err-names : goal.returns-in_err-names
returns-in_err-names g c =
    adds_then c.in_ok-add_text.ensures (adds_failed _ c.from_residual-in_err-names.result c.from_residual-in_err-names.ensures.0 c.in_err-names.ensures)

pub returns : goal.returns
returns g c = adds_then c.in_ok-add_text.ensures (adds_then c.in_ok-names.ensures c.add_text-2.ensures)
