use Rattle.solver_tests.proofs.tests.searches.+some_formula.Given as goal

abbrev pub decreases-some_formula : goal.decreases-some_formula
decreases-some_formula l = l.depth
