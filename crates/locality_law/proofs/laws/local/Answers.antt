use Rattle.locality_law.proofs.UnitLaws.{local}
use Rattle.locality_law.proofs.laws.local.Goals as goal

pub returns : goal.returns
returns c = local
