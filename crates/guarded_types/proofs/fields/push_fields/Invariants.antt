use Rattle.std.proofs.Common.{◌≡◌, ◌++◌, map, take}
use Rattle.guarded_types.specs.Along.{behind, read}
use Rattle.guarded_types.proofs.FieldTypes.{typed_in}
use Rattle.guarded_types.proofs.fields.push_fields.Given as goal

abbrev pub invariant-each : goal.invariant-each
invariant-each l = read l.found.items ≡ read l.fn.found.items ++ map (behind l.up) (typed_in l.fn.name (take l.field-index l.class.fields))
