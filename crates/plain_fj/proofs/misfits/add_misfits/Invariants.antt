use Rattle.plain_fj.proofs.MisfitScan.{AreAddedUpTo, IsSomeUpTo}
use Rattle.plain_fj.proofs.misfits.add_misfits.Given as goal

abbrev pub invariant-each : goal.invariant-each
invariant-each l = IsSomeUpTo l.body l.rule l.args l.types l.wanted l.place l.some × AreAddedUpTo l.body l.rule l.args l.types l.wanted l.place l.initial.breaks.items l.breaks.items
