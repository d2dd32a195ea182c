use Rattle.cond_circuit.proofs.circuit.Circuit.+eval.Given as goal

abbrev pub decreases-eval : goal.decreases-eval
decreases-eval l = l.gate
