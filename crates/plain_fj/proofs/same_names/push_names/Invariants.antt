use Rattle.std.proofs.Common.{◌≡◌, ◌++◌, take}
use Rattle.plain_fj.specs.Found.{names}
use Rattle.plain_fj.proofs.SameNames.{own_names}
use Rattle.plain_fj.proofs.same_names.push_names.Given as goal

abbrev pub invariant-each : goal.invariant-each
invariant-each l = names l.found.items ≡ names l.initial.found.items ++ own_names (take l.field-index l.fields)
