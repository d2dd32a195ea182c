use Rattle.clean_law.proofs.Cleared.{cleared}
use Rattle.clean_law.proofs.clean_variants.Goals as goal

pub returns : goal.returns
returns c = cleared c.args.project.now c.model-kept.ensures.kept
