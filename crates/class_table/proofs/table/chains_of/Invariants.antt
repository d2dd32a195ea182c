use Rattle.class_table.specs.ByName.{Knows, IsChainOf}
use Rattle.class_table.proofs.table.chains_of.Given as goal

abbrev pub invariant-each : goal.invariant-each
invariant-each l = Knows (IsChainOf l.project.classes) l.project.classes l.place l.chains.entries
