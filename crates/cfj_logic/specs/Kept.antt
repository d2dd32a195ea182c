-- The clauses of a log, wherever they are.
use Rattle.std.specs.Prelude.{List}
use Rattle.cfj_logic.specs.Sides.{Sides}
use Rattle.cfj_logic.specs.declared.log.Kept.{Kept}
use Rattle.cfj_logic.specs.declared.log.Kept.TheVariants as kept

abbrev pub clauses_kept : Kept → List Sides
clauses_kept (kept.Own clauses) = clauses.items
clauses_kept (kept.Shared clauses) = clauses
