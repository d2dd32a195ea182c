use Rattle.std.proofs.Common.{◌≡◌, drop}
use Rattle.cfj_logic.specs.Logs.{assumed_from, assumed}
use Rattle.refutation_check.proofs.premises.assumed.Given as goal

abbrev pub invariant-loop-literal : goal.invariant-loop-literal
invariant-loop-literal l = assumed_from l.values.items (drop l.literal-index l.clause) ≡ assumed l.vars l.clause
