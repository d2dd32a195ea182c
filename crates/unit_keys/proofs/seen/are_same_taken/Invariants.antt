use Rattle.std.proofs.Common.{◌≡◌, map, take}
use Rattle.unit_facts.specs.Facts.{taken_of}
use Rattle.unit_keys.proofs.seen.are_same_taken.Given as goal

abbrev pub invariant-each : goal.invariant-each
invariant-each l = map taken_of (take l.place l.params) ≡ map taken_of (take l.place l.others)
