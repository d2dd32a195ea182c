use Rattle.std.proofs.Common.{◌≡◌, ◌-◌, drop}
use Rattle.cfj_model.specs.LookUps.{fields_of}
use Rattle.class_table.specs.ByName.{seen}
use Rattle.plain_fj.specs.Found.{names}
use Rattle.plain_fj.proofs.TypeLists.{own_types}
use Rattle.plain_fj.proofs.wanted.field_types.Given as goal

abbrev pub invariant-each : goal.invariant-each
invariant-each l = names l.types.items ≡ own_types (fields_of (seen (drop (l.count - l.step) l.chain)))
