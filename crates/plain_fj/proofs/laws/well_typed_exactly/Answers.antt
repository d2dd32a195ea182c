use Rattle.plain_fj.proofs.Law.{well_typed_project}
use Rattle.plain_fj.proofs.laws.well_typed_exactly.Goals as goal

pub returns : goal.returns
returns c = well_typed_project c.args.project.now c.model-kept.ensures.kept
