-- What marked variables deny.
use Rattle.std.specs.Prelude.{◌≡◌, ℕ, ◌+◌, ◌<◌, ◌≤◌, Bool, true, false, not, ◌⊎◌, if◌then◌else◌, bit_and}
use Rattle.std.specs.Prelude.{Option, Some, None, IfSome, IfNone}
use Rattle.std.specs.Prelude.{List, [], ◌∷◌, length, take, get_or, slice_get, slice_set}
use Rattle.cfj_logic.specs.declared.clauses.Literal.{Literal}
use Rattle.cfj_logic.specs.Selections.{has_bit}
use Rattle.cfj_logic.specs.Sides.{Sides, is_over}
use Rattle.cfj_words.specs.Lists.{Has}
use Rattle.cfj_logic.specs.UnitClauses.{Values, value_of, IsFalse, IsUnvalued, IsFalsified, IsUnit, Leads}
use Rattle.cfj_logic.specs.Logs.{literals, assumed}
use Rattle.unit_propagation.specs.declared.trail.Step.{Step}
use Rattle.unit_propagation.specs.Standings.{bool_eq, literal_eq, IsOpen}
use Rattle.unit_propagation.specs.Trails.{values_after}
use Rattle.clause_learning.specs.Decided.{IsValued}

-- clauses as lists of literals
abbrev pub Premises : Type 0
Premises = List (List Literal)

-- the variable is marked
abbrev pub IsMarked : List Bool → ℕ → Type 0
IsMarked marks x = get_or marks x false ≡ true

-- no step from the first place up to the second has a marked variable
abbrev pub AreUnmarked : List Bool → List Step → ℕ → ℕ → Type 0
AreUnmarked marks t from to =
    (k : ℕ) (s : Step) → from ≤ k → k < to → slice_get t k ≡ Some s → IsMarked marks s.literal.var → ⊥

-- this step is the last of those before a place whose variables are marked
pub record IsLastMarked (marks : List Bool) (t : List Step) (to place : ℕ) : Type 0 where
  pub within : place < to
  pub marked : (s : Step) → slice_get t place ≡ Some s → IsMarked marks s.literal.var
  pub later : AreUnmarked marks t (place + 1) to

-- the marks with the variables of a clause's literals
abbrev pub with_all : List Bool → List Literal → List Bool
with_all marks [] = marks
with_all marks (l ∷ c) = with_all (slice_set marks l.var true) c

-- the marks with a literal's variable, unless the literal is this one
abbrev pub with_other : Literal → List Bool → Literal → List Bool
with_other l marks m = if literal_eq m l then marks else slice_set marks m.var true

-- the marks with the variables of a clause's literals but this one
abbrev pub with_others : Literal → List Bool → List Literal → List Bool
with_others l marks [] = marks
with_others l marks (m ∷ c) = with_others l (with_other l marks m) c

-- each marked variable keeps its value
abbrev pub Keeps : Values → List Bool → Values → Type 0
Keeps vs marks ws = (x : ℕ) (b : Bool) → IsMarked marks x → value_of vs x ≡ Some b → value_of ws x ≡ Some b

-- from all values that keep those of the marked variables unit clauses lead to a falsified clause
pub record Denies (cs : List (List Literal)) (vs : Values) (marks : List Bool) : Type 0 where
  pub size : length marks ≡ length vs
  pub leads : (ws : Values) → length ws ≡ length vs → Keeps vs marks ws → Leads cs ws

-- one marked variable is a feature that had no value before the last decision; the others had one there
pub record LeavesOne (n vars : ℕ) (t : List Step) (k : ℕ) (marks : List Bool) : Type 0 where
  pub var : ℕ
  pub feature : var < n
  pub marked : IsMarked marks var
  pub valued : IsValued (values_after vars t) var
  pub free : value_of (values_after vars (take k t)) var ≡ None
  pub others : (x : ℕ) → IsMarked marks x → (x ≡ var) ⊎ IsValued (values_after vars (take k t)) x

-- the same, and all marked variables are features
pub record LeavesFeatures (n vars : ℕ) (t : List Step) (k : ℕ) (marks : List Bool) : Type 0 where
  pub one : LeavesOne n vars t k marks
  pub features : (x : ℕ) → IsMarked marks x → x < n

-- the clause has the marked features' literals that are false
pub record IsDenial (n : ℕ) (vs : Values) (marks : List Bool) (c : Sides) : Type 0 where
  pub over : is_over n c ≡ true
  pub once : bit_and c.on c.off ≡ 0
  pub denied : (m : Literal) → Has (literals c) m → IsMarked marks m.var × IsFalse vs m
  pub all : (x : ℕ) (b : Bool) → x < n → IsMarked marks x → value_of vs x ≡ Some b →
      Has (literals c) (record { var = x; on = not b })

-- a conflict taught this clause: one of its literals had no value before the last decision, and the others were false
-- there; the decision to go back to is the first before which the others are false, so that it is a unit clause there
pub record IsTaught (cs : Premises) (n vars : ℕ) (t : List Step) (k : ℕ) (c : Sides) (target : ℕ) : Type 0 where
  pub over : is_over n c ≡ true
  pub once : bit_and c.on c.off ≡ 0
  pub follows : Leads cs (assumed vars (literals c))
  pub falsified : IsFalsified (values_after vars t) (literals c)
  pub literal : Literal
  pub has : Has (literals c) literal
  pub free : IsUnvalued (values_after vars (take k t)) literal
  pub others : (m : Literal) → Has (literals c) m → (m ≡ literal) ⊎ IsFalse (values_after vars (take k t)) m
  pub open_before : (j : ℕ) (s : Step) → j < target → slice_get t j ≡ Some s → s.cause ≡ None →
      IsOpen (values_after vars (take j t)) (literals c)
  pub unit : IsUnit (values_after vars (take target t)) (literals c) literal
  pub decision : (s : Step) → slice_get t target ≡ Some s → s.cause ≡ None

-- the literal with the other value
abbrev pub negated : Literal → Literal
negated l = record { var = l.var; on = not l.on }

-- of the clause's literals other than the first, the second became false last: wherever it is false, all of them are
pub record IsLastFalse (vars : ℕ) (t : List Step) (k : ℕ) (c : Sides) (l m : Literal) : Type 0 where
  pub has : Has (literals c) m
  pub other : m ≡ l → ⊥
  pub falsified : IsFalse (values_after vars (take k t)) m
  pub last : (j : ℕ) → IsFalse (values_after vars (take j t)) m → (d : Literal) → Has (literals c) d →
      (d ≡ l) ⊎ IsFalse (values_after vars (take j t)) d

-- the first literal is the one of the clause that had no value before the last decision; the second became false last
-- of the others, if there are any
pub record AreToWatch (vars : ℕ) (t : List Step) (k : ℕ) (c : Sides) (first second : Option Literal) : Type 0 where
  pub literal : Literal
  pub is_first : first ≡ Some literal
  pub has : Has (literals c) literal
  pub free : IsUnvalued (values_after vars (take k t)) literal
  pub some : IfSome second (λ m. IsLastFalse vars t k c literal m)
  pub none : IfNone second ((m : Literal) → Has (literals c) m → m ≡ literal)

-- the value is there, and is this one
abbrev pub is_value : Bool → Option Bool → Bool
is_value b None = false
is_value b (Some c) = bool_eq b c

-- the variable's value, if it is marked
abbrev pub marked_value : List Bool → Values → ℕ → Option Bool
marked_value marks vs x = if get_or marks x false then value_of vs x else None

-- of the features below a number the set has those with this value, and no other
pub record Gathers (b : Bool) (n i : ℕ) (w : ℕ → Option Bool) : Type 0 where
  pub below : (f : ℕ) → f < i → has_bit n f ≡ is_value b (w f)
  pub past : (f : ℕ) → i ≤ f → has_bit n f ≡ false

-- the mark of the variable of the step at this place goes, and marks come of variables that had values before it
pub record Resolves (vars : ℕ) (t : List Step) (k : ℕ) (old new : List Bool) : Type 0 where
  pub source : (s : Step) → slice_get t k ≡ Some s → (y : ℕ) → IsMarked new y →
      (IsMarked old y × (y ≡ s.literal.var → ⊥)) ⊎ IsValued (values_after vars (take k t)) y
  pub kept : (s : Step) → slice_get t k ≡ Some s → (y : ℕ) → IsMarked old y →
      (y ≡ s.literal.var) ⊎ IsMarked new y
