use Rattle.locality_law.proofs.Exact.{honest_here}
use Rattle.locality_law.proofs.laws.honest_here.Goals as goal

pub returns : goal.returns
returns c = honest_here
