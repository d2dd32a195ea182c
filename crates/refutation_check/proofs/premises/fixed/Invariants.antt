use Rattle.std.proofs.Common.{◌≡◌, take}
use Rattle.cfj_logic.specs.Logs.{fixed}
use Rattle.refutation_check.proofs.premises.fixed.Given as goal

abbrev pub invariant-loop-var : goal.invariant-loop-var
invariant-loop-var l = l.values.items ≡ fixed l.vars (take l.var l.prefix)
