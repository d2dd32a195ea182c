use Rattle.std.proofs.Common.{length}
use Rattle.std.specs.Prelude.{sum_by}
use Rattle.unit_propagation.specs.Standings.{unvalued}
use Rattle.sat_core.specs.States.{IsSearch}
use Rattle.sat_core.proofs.Measuring.{remaining}
use Rattle.sat_core.proofs.search.solve.Given as goal

abbrev pub invariant-search : goal.invariant-search
invariant-search l = IsSearch l.clauses l.budget l.log l.premises l.values.items l.trail.items

abbrev pub decreases-search : goal.decreases-search
decreases-search l = remaining l.budget l.clauses.vars (length l.log) (sum_by unvalued l.values.items)
