-- No public contract cites this: it serves the proofs.
-- What a search keeps from step to step.
use Rattle.std.specs.Prelude.{◌≡◌, ℕ, ◌≤◌, false, Option, Some, None, IfSome, IfNone}
use Rattle.std.specs.Prelude.{List, [], ◌∷◌, ◌++◌, length, take, sum_by, slice_get}
use Rattle.std.specs.List.{list_any}
use Rattle.cfj_logic.specs.declared.clauses.Literal.{Literal}
use Rattle.cfj_logic.specs.declared.clauses.Clauses.{Clauses}
use Rattle.cfj_logic.specs.Sides.{Sides, is_empty}
use Rattle.cfj_logic.specs.UnitClauses.{Values, IsUnvalued, with_true}
use Rattle.cfj_logic.specs.Logs.{premises as premises_of, IsAccepted}
use Rattle.unit_propagation.specs.declared.trail.Step.{Step}
use Rattle.unit_propagation.specs.Falsified.{IsFalsifiedAt}
use Rattle.unit_propagation.specs.Standings.{AreOpen, unvalued}
use Rattle.unit_propagation.specs.Trails.{values_after}
use Rattle.clause_learning.specs.Decided.{IsTrail}

-- clauses as lists of literals
abbrev pub Premises : Type 0
Premises = List (List Literal)

-- the log is accepted, holds no empty clause, and these are the premises with its clauses
pub record IsLearned (clauses : Clauses) (log : List Sides) (premises : List (List Literal)) : Type 0 where
  pub premises_are : premises ≡ premises_of clauses log
  pub accepted : IsAccepted clauses log
  pub plain : list_any is_empty log ≡ false

-- the trail is one over the premises, and these are its values
pub record IsOnTrail (clauses : Clauses) (ps : List (List Literal)) (vs : Values) (t : List Step) : Type 0 where
  pub is_trail : IsTrail ps clauses.features clauses.vars t
  pub values_are : vs ≡ values_after clauses.vars t

-- what holds whenever the search goes on
pub record IsSearch (clauses : Clauses) (budget : ℕ) (log : List Sides) (ps : Premises) (vs : Values) (t : List Step) : Type 0 where
  pub known : IsLearned clauses log ps
  pub along : IsOnTrail clauses ps vs t
  pub within : length log ≤ budget

-- one more step, by which the feature isn't selected
pub record Decides (vs : Values) (t : List Step) (ws : Values) (u : List Step) (feature : ℕ) : Type 0 where
  pub values : ws ≡ with_true vs (record { var = feature; on = false })
  pub trail : u ≡ t ++ record { literal = record { var = feature; on = false }; cause = None } ∷ []

-- no step's variable has a value before it
abbrev pub AreFree : ℕ → List Step → Type 0
AreFree vars t =
    (k : ℕ) (s : Step) → slice_get t k ≡ Some s → IsUnvalued (values_after vars (take k t)) s.literal

-- what following a trail comes to: more values, and the place of a falsified clause, or that all clauses are open
pub record Follows (clauses : Clauses) (ps qs : Premises) (vs ws : Values) (u : List Step) (found : Option ℕ) : Type 0 where
  pub same : qs ≡ ps
  pub along : IsOnTrail clauses qs ws u
  pub fewer : sum_by unvalued ws ≤ sum_by unvalued vs
  pub falsified : IfSome found (λ place. IsFalsifiedAt qs ws place)
  pub opened : IfNone found (AreOpen qs ws)
