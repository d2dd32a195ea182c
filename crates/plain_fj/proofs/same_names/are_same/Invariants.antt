use Rattle.plain_fj.proofs.SameNames.{AreSameSoFar}
use Rattle.plain_fj.proofs.same_names.are_same.Given as goal

abbrev pub invariant-each : goal.invariant-each
invariant-each l = AreSameSoFar l.some l.others l.place
