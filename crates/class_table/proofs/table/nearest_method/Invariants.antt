use Rattle.cfj_model.specs.LookUps.{method_called}
use Rattle.class_table.proofs.Nearest.{IsNearing}
use Rattle.class_table.proofs.table.nearest_method.Given as goal

abbrev pub invariant-each : goal.invariant-each
invariant-each l = IsNearing (method_called l.name) l.chain l.class-index
