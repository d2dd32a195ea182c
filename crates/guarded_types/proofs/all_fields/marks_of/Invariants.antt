use Rattle.std.proofs.Common.{◌≡◌, drop}
use Rattle.cfj_model.specs.Coloring.{no_colors}
use Rattle.class_table.specs.ByName.{seen}
use Rattle.guarded_types.specs.Fields.{up_of}
use Rattle.guarded_types.proofs.all_fields.marks_of.Given as goal

abbrev pub invariant-each : goal.invariant-each
invariant-each l = up_of l.up (seen (drop l.class-index l.chain)) ≡ up_of no_colors (seen l.chain)
