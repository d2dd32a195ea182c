use Rattle.plain_judge.proofs.Denying.{IsDeniedTo}
use Rattle.plain_judge.proofs.denials.denial.Given as goal

abbrev pub invariant-each : goal.invariant-each
invariant-each l = IsDeniedTo l.selection l.feature l.on l.off
