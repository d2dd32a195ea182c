use Rattle.cnf_form.specs.Reaching.{is_marked}
use Rattle.cnf_form.proofs.Written.{Written}
use Rattle.cnf_form.proofs.gate.clauses_for.Given as goal

abbrev pub invariant-gates : goal.invariant-gates
invariant-gates l = Written (is_marked l.reached.items) l.circuit l.gate l.list.items l.variables.items l.vars
