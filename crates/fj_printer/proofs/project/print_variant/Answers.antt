use Rattle.std.proofs.Common.{sym}
use Rattle.cide_io.proofs.Gaining.{gains_as}
use Rattle.fj_printer.proofs.Parts.{variant_classes}
use Rattle.fj_printer.proofs.project.print_variant.Goals as goal

pub returns : goal.returns
returns g c = gains_as g.K.Sink _ _ _ _ _ (sym (variant_classes c.args.selection c.args.project.now)) c.print_classes.ensures
