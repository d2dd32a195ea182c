use Rattle.std.proofs.Common.{◌≡◌, ◌-◌, drop}
use Rattle.cfj_model.specs.LookUps.{fields_of}
use Rattle.class_table.specs.ByName.{seen}
use Rattle.plain_fj.specs.Found.{names}
use Rattle.plain_fj.proofs.SameNames.{own_names}
use Rattle.plain_fj.proofs.same_names.field_names.Given as goal

abbrev pub invariant-each : goal.invariant-each
invariant-each l = names l.found.items ≡ own_names (fields_of (seen (drop (l.count - l.step) l.chain)))
