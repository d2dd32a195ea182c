use Rattle.std.proofs.Common.{◌≡◌, ◌-◌, ◌++◌}
use Rattle.cfj_logic.specs.Logs.{literals_from, literals}
use Rattle.refutation_check.proofs.premises.literals.Given as goal

abbrev pub invariant-loop-feature : goal.invariant-loop-feature
invariant-loop-feature l = l.list.items ++ literals_from l.clause (128 - l.feature) l.feature ≡ literals l.clause
