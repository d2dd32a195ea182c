use Rattle.expression_reader.proofs.Composing.{spell_before, roles_before, roles_settled}
use Rattle.expression_reader.proofs.laws.stands_before.Goals as goal

pub returns : goal.returns
returns c = record { text = spell_before; roles = roles_before; settled = roles_settled }
