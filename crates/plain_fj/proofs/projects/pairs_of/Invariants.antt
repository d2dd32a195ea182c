use Rattle.std.proofs.Common.{◌≡◌, map, take}
use Rattle.plain_fj.specs.Breaking.{told}
use Rattle.plain_fj.proofs.projects.pairs_of.Given as goal

abbrev pub invariant-each : goal.invariant-each
invariant-each l = l.pairs.items ≡ map told (take l.found-index l.fn.breaks)
