use Rattle.locality_law.proofs.ByUnit.{breaks_in_unit}
use Rattle.locality_law.proofs.laws.breaks_in_unit.Goals as goal

pub returns : goal.returns
returns c = breaks_in_unit
