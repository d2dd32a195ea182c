use Rattle.refutation_check.proofs.Consequences.{true_where_follows}
use Rattle.refutation_check.proofs.law.consequence.Goals as goal

pub returns : goal.returns
returns c = λ vars cs clause v model follows. true_where_follows vars cs clause v model follows
