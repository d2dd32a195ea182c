use Rattle.std.proofs.Common.{refl, sym, append-nil}
use Rattle.fj_printer.proofs.Composing.{all_flushed, all_failed, gains}
use Rattle.fj_printer.proofs.project.print_classes.Goals as goal

pub returns-in_err-classes : goal.returns-in_err-classes
returns-in_err-classes g c =
    gains g.K.Sink _ _ _ _ _ _ (all_failed _ c.from_residual.result c.from_residual.ensures.0 c.new-buffer.ensures c.in_err-classes.ensures
    (sym (append-nil _)))

pub returns : goal.returns
returns g c = gains g.K.Sink _ _ _ _ _ _ (all_flushed c.flush.result c.new-buffer.ensures c.flush.ensures.empty c.in_ok-classes.ensures c.flush.ensures.adds refl)
