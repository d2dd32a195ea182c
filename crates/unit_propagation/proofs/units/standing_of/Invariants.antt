use Rattle.std.proofs.Common.{◌≡◌, drop}
use Rattle.unit_propagation.specs.Standings.{standing_from}
use Rattle.unit_propagation.specs.declared.units.Standing.TheVariants.{Falsified}
use Rattle.unit_propagation.proofs.units.standing_of.Given as goal

abbrev pub invariant-loop-literal : goal.invariant-loop-literal
invariant-loop-literal l = standing_from l.values l.standing (drop l.literal-index l.clause) ≡ standing_from l.values Falsified l.clause
