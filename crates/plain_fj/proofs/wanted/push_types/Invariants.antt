use Rattle.std.proofs.Common.{◌≡◌, ◌++◌, take}
use Rattle.plain_fj.specs.Found.{names}
use Rattle.plain_fj.proofs.TypeLists.{own_types}
use Rattle.plain_fj.proofs.wanted.push_types.Given as goal

abbrev pub invariant-each : goal.invariant-each
invariant-each l = names l.types.items ≡ names l.initial.types.items ++ own_types (take l.field-index l.fields)
