use Rattle.formula_reader.proofs.Kept.{constraint_kept}
use Rattle.formula_reader.proofs.Values.{nodes_added}
use Rattle.formula_reader.proofs.laws.keeps_constraints.Goals as goal

pub returns-clause-kept : goal.returns-clause-kept
returns-clause-kept c = constraint_kept

pub returns-clause-nodes : goal.returns-clause-nodes
returns-clause-nodes c = nodes_added
