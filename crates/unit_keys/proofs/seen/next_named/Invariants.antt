use Rattle.std.proofs.Common.{◌≡◌, drop}
use Rattle.unit_keys.specs.Parts.{signatures_among}
use Rattle.unit_keys.proofs.seen.next_named.Given as goal

abbrev pub invariant-each : goal.invariant-each
invariant-each l = signatures_among l.name (drop l.from l.methods) ≡ signatures_among l.name (drop l.place l.methods)
