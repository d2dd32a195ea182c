use Rattle.unit_keys.proofs.Signatures.{AreLeft}
use Rattle.unit_keys.proofs.seen.are_same_signatures.Given as goal

abbrev pub invariant-each : goal.invariant-each
invariant-each l = AreLeft l.name l.other_name l.methods l.others l.method-index l.at
