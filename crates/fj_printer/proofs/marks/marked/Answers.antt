use Rattle.fj_printer.proofs.Composing.{adds_then, adds_failed}
use Rattle.fj_printer.proofs.marks.marked.Goals as goal

pub returns-in_err-add_text : goal.returns-in_err-add_text
returns-in_err-add_text g c = adds_failed _ c.from_residual.result c.from_residual.ensures.0 c.in_err-add_text.ensures

pub returns-in_err-marks : goal.returns-in_err-marks
returns-in_err-marks g c =
    adds_then c.in_ok-add_text.ensures (adds_failed _ c.from_residual-in_err-marks.result c.from_residual-in_err-marks.ensures.0 c.in_err-marks.ensures)

pub returns : goal.returns
returns g c = adds_then c.in_ok-add_text.ensures (adds_then c.in_ok-marks.ensures c.add_all.ensures)
