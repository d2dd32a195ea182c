use Rattle.cnf_form.proofs.Extending as law
use Rattle.cnf_form.proofs.laws.extends_where_true.Goals as goal

pub returns : goal.returns
returns c = law.extends_where_true c.args.circuit.now c.features-kept.ensures.kept c.args.gate c.requires.gate c.args.clauses.now c.requires.clauses c.args.selection.now
