use Rattle.expression_reader.proofs.Kept.{body_kept}
use Rattle.expression_reader.proofs.laws.keeps_bodies.Goals as goal

pub returns : goal.returns
returns c = body_kept
