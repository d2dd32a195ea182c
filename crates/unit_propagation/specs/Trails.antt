-- Trails: the literals that were made true, in order, each with the place of the unit clause that it was of.
use Rattle.std.specs.Prelude.{◌≡◌, ℕ, List, [], ◌∷◌, ◌++◌, replicate, slice_get, Some, None}
use Rattle.cfj_logic.specs.declared.clauses.Literal.{Literal}
use Rattle.cfj_logic.specs.UnitClauses.{Values, with_true, IsUnit}
use Rattle.unit_propagation.specs.declared.trail.Step.{Step}

-- the values after the literals of the steps are made true, from these values on
abbrev pub values_from : Values → List Step → Values
values_from vs [] = vs
values_from vs (s ∷ t) = values_from (with_true vs s.literal) t

-- the values of so many variables, of which the steps alone have given some
abbrev pub values_after : ℕ → List Step → Values
values_after vars t = values_from (replicate vars None) t

-- unit clauses, each named by its place, lead from the first values and trail to the second
pub data Grows (cs : List (List Literal)) : Values → List Step → Values → List Step → Type 0 where
  still : (vs : Values) (t : List Step) → Grows cs vs t vs t
  by_unit_at : (vs ws : Values) (t u : List Step) (place : ℕ) (c : List Literal) (l : Literal) →
      slice_get cs place ≡ Some c → IsUnit vs c l →
      Grows cs (with_true vs l) (t ++ record { literal = l; cause = Some place } ∷ []) ws u → Grows cs vs t ws u
