use Rattle.std.proofs.Common.{ap}
use Rattle.cfj_model.specs.Print.{printed}
use Rattle.cfj_model.specs.declared.feature_model.FeatureModel.{FeatureModel}
use Rattle.cide_io.proofs.Gaining.{gains_as}
use Rattle.fj_printer.specs.Parts.{in_format}
use Rattle.fj_printer.proofs.project.print_project.Goals as goal

pub returns : goal.returns
returns g c =
    gains_as g.K.Sink _ _ _ _ _ (ap (λ (model : FeatureModel). printed (in_format model.format c.args.project.now)) c.model.ensures.model) c.print_in.ensures
