use Rattle.plain_fj.specs.Found.{judged_break}
use Rattle.plain_fj.proofs.Broken.{IsAddedUpTo}
use Rattle.plain_fj.proofs.methods.add_nodes.Given as goal

abbrev pub invariant-each : goal.invariant-each
invariant-each l = IsAddedUpTo (judged_break l.class l.method) l.within l.found-index l.initial.breaks.items l.breaks.items
