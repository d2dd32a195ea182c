use Rattle.cfj_model.specs.LookUps.{field_called}
use Rattle.class_table.proofs.Nearest.{IsNearing}
use Rattle.class_table.proofs.table.nearest_field.Given as goal

abbrev pub invariant-each : goal.invariant-each
invariant-each l = IsNearing (field_called l.name) l.chain l.class-index
