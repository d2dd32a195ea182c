use Rattle.std.proofs.Common.{◌≤◌, ◌+◌}
use Rattle.cnf_form.proofs.Marking.{Marking}
use Rattle.cnf_form.proofs.marks.reached.Given as goal

abbrev pub invariant-gates : goal.invariant-gates
invariant-gates l = record {
  marking : Marking l.circuit.parts l.top l.above l.marks.items;
  within : l.above ≤ l.top + 1;
}

abbrev pub decreases-gates : goal.decreases-gates
decreases-gates l = l.above
