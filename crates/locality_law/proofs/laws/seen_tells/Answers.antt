use Rattle.locality_law.proofs.SeenTells.{seen_tells}
use Rattle.locality_law.proofs.laws.seen_tells.Goals as goal

pub returns : goal.returns
returns c = seen_tells
