-- Trails of decisions and of what follows from them.
use Rattle.std.specs.Prelude.{◌≡◌, ℕ, ◌+◌, ◌<◌, ◌≤◌, Bool, false, ◌⊎◌, List, take, slice_get, Some, None, All}
use Rattle.cfj_logic.specs.declared.clauses.Literal.{Literal}
use Rattle.cfj_logic.specs.UnitClauses.{Values, value_of, IsUnvalued, IsUnit}
use Rattle.cfj_logic.specs.Logs.{AreBelow}
use Rattle.unit_propagation.specs.declared.trail.Step.{Step}
use Rattle.unit_propagation.specs.Standings.{AreOpen}
use Rattle.unit_propagation.specs.Trails.{values_after}

-- the variable has a value
abbrev pub IsValued : Values → ℕ → Type 0
IsValued vs x = (b : Bool) × (value_of vs x ≡ Some b)

-- the first feature without a value isn't selected, where all clauses are open
pub record IsDecision (cs : List (List Literal)) (n : ℕ) (vs : Values) (s : Step) : Type 0 where
  pub cause : s.cause ≡ None
  pub off : s.literal.on ≡ false
  pub feature : s.literal.var < n
  pub unvalued : IsUnvalued vs s.literal
  pub first : (x : ℕ) → x < s.literal.var → IsValued vs x
  pub all : AreOpen cs vs

-- the literal of a unit clause is made true
pub record IsImplied (cs : List (List Literal)) (vs : Values) (s : Step) : Type 0 where
  pub place : ℕ
  pub cause : s.cause ≡ Some place
  pub clause : List Literal
  pub there : slice_get cs place ≡ Some clause
  pub unit : IsUnit vs clause s.literal

-- each step decides, or follows, under the values of those before it
abbrev pub AreSteps : List (List Literal) → ℕ → ℕ → List Step → Type 0
AreSteps cs n vars t =
    (k : ℕ) (s : Step) → slice_get t k ≡ Some s →
    IsDecision cs n (values_after vars (take k t)) s ⊎ IsImplied cs (values_after vars (take k t)) s

-- a trail over clauses with so many features and variables
pub record IsTrail (cs : List (List Literal)) (n vars : ℕ) (t : List Step) : Type 0 where
  pub features : n ≤ vars
  pub below : All (AreBelow vars) cs
  pub steps : AreSteps cs n vars t

-- all steps from this place on have a cause
abbrev pub AreCaused : List Step → ℕ → Type 0
AreCaused t k = (j : ℕ) (s : Step) → k ≤ j → slice_get t j ≡ Some s → s.cause ≡ None → ⊥

-- the last decision stands at this place
pub record IsLastDecision (t : List Step) (k : ℕ) : Type 0 where
  pub step : Step
  pub there : slice_get t k ≡ Some step
  pub decision : step.cause ≡ None
  pub later : AreCaused t (k + 1)

-- each step's variable is below this number
abbrev pub AreBelowIn : ℕ → List Step → Type 0
AreBelowIn vars t = (k : ℕ) (s : Step) → slice_get t k ≡ Some s → s.literal.var < vars
