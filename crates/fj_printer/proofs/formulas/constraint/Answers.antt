use Rattle.fj_printer.proofs.Composing.{adds_then, adds_failed}
use Rattle.fj_printer.proofs.formulas.constraint.Goals as goal

pub returns-in_err-add_text : goal.returns-in_err-add_text
returns-in_err-add_text g c = adds_failed _ c.from_residual.result c.from_residual.ensures.0 c.in_err-add_text.ensures

pub returns-in_err-formula : goal.returns-in_err-formula
returns-in_err-formula g c = adds_then c.in_ok-add_text.ensures (adds_failed _ c.from_residual-in_err-formula.result c.from_residual-in_err-formula.ensures.0 c.in_err-formula.ensures)

pub returns : goal.returns
returns g c = adds_then c.in_ok-add_text.ensures (adds_then c.in_ok-formula.ensures (c.add_text-2.ensures))
