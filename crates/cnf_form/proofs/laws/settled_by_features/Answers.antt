use Rattle.cnf_form.proofs.Settling.{are_settled}
use Rattle.cnf_form.proofs.laws.settled_by_features.Goals as goal

pub returns : goal.returns
returns c = are_settled c.args.circuit.now c.features-kept.ensures.kept c.args.gate c.requires.gate c.args.clauses.now c.requires.clauses
