use Rattle.std.proofs.Common.{◌≡◌, take}
use Rattle.cfj_model.specs.LookUps.{without}
use Rattle.class_table.specs.ByName.{seen}
use Rattle.plain_fj.proofs.classes.ancestors.Given as goal

abbrev pub invariant-each : goal.invariant-each
invariant-each l = seen l.found.items ≡ without l.name (seen (take l.class-index l.chain))
