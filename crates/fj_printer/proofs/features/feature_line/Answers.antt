use Rattle.std.proofs.Common.{◌∙◌, sym}
use Rattle.fj_printer.proofs.Composing.{adds_then, adds_failed}
use Rattle.fj_printer.proofs.Parts.{line_of_some}
use Rattle.fj_printer.proofs.features.feature_line.Goals as goal

pub returns-in_err-add_all : goal.returns-in_err-add_all
returns-in_err-add_all g c =
    rw (line_of_some c.args.features.now (sym c.is_empty.ensures ∙ c.if-is_empty.false))
    (adds_failed _ c.from_residual.result c.from_residual.ensures.0 c.in_err-add_all.ensures)

pub returns-in_err-names : goal.returns-in_err-names
returns-in_err-names g c =
    rw (line_of_some c.args.features.now (sym c.is_empty.ensures ∙ c.if-is_empty.false))
    (adds_then c.in_ok-add_all.ensures (adds_failed _ c.from_residual-in_err-names.result c.from_residual-in_err-names.ensures.0 c.in_err-names.ensures))

pub returns : goal.returns
returns g c =
    rw (line_of_some c.args.features.now (sym c.is_empty.ensures ∙ c.if-is_empty.false))
    (adds_then c.in_ok-add_all.ensures (adds_then c.in_ok-names.ensures c.add_all-2.ensures))
