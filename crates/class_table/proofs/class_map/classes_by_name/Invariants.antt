use Rattle.class_table.specs.ByName.{Knows, IsClassOf}
use Rattle.class_table.proofs.class_map.classes_by_name.Given as goal

abbrev pub invariant-each : goal.invariant-each
invariant-each l = Knows (IsClassOf l.project.classes) l.project.classes l.place l.map.entries
