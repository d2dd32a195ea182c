use Rattle.std.proofs.Common.{◌≡◌, ◌++◌, drop}
use Rattle.cfj_model.specs.Coloring.{no_colors}
use Rattle.class_table.specs.ByName.{seen}
use Rattle.guarded_types.specs.Along.{along, read, typed_fields}
use Rattle.guarded_types.proofs.fields.fields_along.Given as goal

abbrev pub invariant-each : goal.invariant-each
invariant-each l = read l.found.items ++ along (typed_fields l.name) l.up (seen (drop l.class-index l.chain)) ≡ along (typed_fields l.name) no_colors (seen l.chain)
