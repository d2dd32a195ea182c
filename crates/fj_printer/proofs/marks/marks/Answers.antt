use Rattle.std.proofs.Common.{arith, ap, sym, ◌∙◌}
use Rattle.cfj_model.specs.Print.{marks_text}
use Rattle.fj_printer.proofs.Composing.{adds_as, adds_more, adds_stopped}
use Rattle.fj_printer.proofs.MarkTexts.{marks_more, marks_there, marks_whole}
use Rattle.fj_printer.proofs.marks.marks.Goals as goal

pub returns-in_err-mark : goal.returns-in_err-mark
returns-in_err-mark g c =
    adds_stopped _ c.from_residual.result c.from_residual.ensures.0 c.features.invariant c.in_err-mark.ensures
    (ap (λ names. marks_text names c.args.colors) (sym c.features-features.ensures)
    ∙ marks_there c.features-features.result.now c.args.colors c.features.number _ (omega arith) c.index-features-number.is)

pub features-preserved : goal.features-preserved
features-preserved g c =
    adds_more c.features.invariant c.in_ok-mark.ensures
    (marks_more c.features-features.result.now c.args.colors c.features.number _ (omega arith) c.index-features-number.is)

pub returns : goal.returns
returns g c =
    adds_as
    (ap (λ names. marks_text names c.args.colors) (sym c.features-features.ensures) ∙ sym (marks_whole c.features-features.result.now c.args.colors c.features.number (omega arith)))
    c.features.invariant
