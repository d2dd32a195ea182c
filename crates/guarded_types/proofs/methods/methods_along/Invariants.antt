use Rattle.std.proofs.Common.{◌≡◌, ◌++◌, drop}
use Rattle.cfj_model.specs.Coloring.{no_colors}
use Rattle.class_table.specs.ByName.{seen}
use Rattle.guarded_types.specs.Along.{along}
use Rattle.guarded_types.specs.Declarations.{named_methods, read}
use Rattle.guarded_types.proofs.methods.methods_along.Given as goal

abbrev pub invariant-each : goal.invariant-each
invariant-each l = read l.found.items ++ along (named_methods l.name) l.up (seen (drop l.class-index l.chain)) ≡ along (named_methods l.name) no_colors (seen l.chain)
