-- Clauses that values falsify.
use Rattle.std.specs.Prelude.{◌≡◌, ℕ, List, slice_get, Some}
use Rattle.cfj_logic.specs.declared.clauses.Literal.{Literal}
use Rattle.cfj_logic.specs.UnitClauses.{Values, IsFalsified}

-- all literals of the clause at this place are false
pub record IsFalsifiedAt (cs : List (List Literal)) (vs : Values) (place : ℕ) : Type 0 where
  pub clause : List Literal
  pub there : slice_get cs place ≡ Some clause
  pub falsified : IsFalsified vs clause
