use Rattle.std.proofs.Common.{ap, sym, ◌∙◌, append-nil}
use Rattle.cfj_model.specs.Print.{class_text}
use Rattle.fj_printer.proofs.Composing.{all_flushed, all_failed, gains}
use Rattle.fj_printer.proofs.project.print_class.Goals as goal

pub returns-in_err-class : goal.returns-in_err-class
returns-in_err-class g c =
    gains g.K.Sink _ _ _ _ _ _ (all_failed _ c.from_residual.result c.from_residual.ensures.0 c.new-buffer.ensures c.in_err-class.ensures
    (ap (λ fs. class_text fs c.args.class.now) (sym c.slice.ensures) ∙ sym (append-nil (class_text c.slice.result.now c.args.class.now))))

pub returns : goal.returns
returns g c =
    gains g.K.Sink _ _ _ _ _ _ (all_flushed c.flush.result c.new-buffer.ensures c.flush.ensures.empty c.in_ok-class.ensures c.flush.ensures.adds
    (ap (λ fs. class_text fs c.args.class.now) (sym c.slice.ensures)))
