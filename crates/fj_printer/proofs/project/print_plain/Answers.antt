use Rattle.std.proofs.Common.{[], sym}
use Rattle.cide_io.proofs.Gaining.{gains_as}
use Rattle.fj_printer.proofs.Parts.{all_classes}
use Rattle.fj_printer.proofs.project.print_plain.Goals as goal

pub returns : goal.returns
returns g c = gains_as g.K.Sink _ _ _ _ _ (sym (all_classes [] c.args.project.now.classes)) c.print_classes.ensures
