-- No public contract cites this: it serves the proofs.
-- Values that are followed one by one.
use Rattle.std.specs.Prelude.{◌≡◌, ℕ, ◌≤◌, ◌⊎◌, Bool, List, length, slice_get, Some}
use Rattle.cfj_logic.specs.declared.clauses.Literal.{Literal}
use Rattle.cfj_logic.specs.UnitClauses.{Values, value_of}
use Rattle.cfj_words.specs.Lists.{Has}
use Rattle.unit_propagation.specs.declared.trail.Step.{Step}
use Rattle.unit_propagation.specs.declared.pair.Pair.{Pair}
use Rattle.unit_propagation.specs.Watched.{Handled, IsShort, IsTrueIn}

-- each value stays
abbrev pub IsWithin : Values → Values → Type 0
IsWithin vs ws = (x : ℕ) (b : Bool) → value_of vs x ≡ Some b → value_of ws x ≡ Some b

-- some of the values have been followed: the clauses that watch what they make false are true
pub record AreFollowed (cs : List (List Literal)) (ps : List Pair) (ds vs : Values) : Type 0 where
  pub size : length ds ≡ length vs
  pub within : IsWithin ds vs
  pub handled : Handled cs ps ds vs

-- one more variable's value has been followed, if it has one
pub record FollowsOne (cs : List (List Literal)) (ps : List Pair) (ds es vs : Values) (x : ℕ) : Type 0 where
  pub followed : AreFollowed cs ps es vs
  pub kept : IsWithin ds es
  pub done : (b : Bool) → value_of vs x ≡ Some b → value_of es x ≡ Some b

-- the variable's step is on the trail from this place on
pub record IsAwaited (t : List Step) (head x : ℕ) : Type 0 where
  pub place : ℕ
  pub step : Step
  pub behind : head ≤ place
  pub there : slice_get t place ≡ Some step
  pub var : step.literal.var ≡ x

-- each value has been followed, but for those of variables from `at` on and for those of steps from `head` on
abbrev pub AreFollowedBut : Values → Values → List Step → ℕ → ℕ → Type 0
AreFollowedBut ds vs t head at =
    (x : ℕ) (b : Bool) → value_of vs x ≡ Some b → (value_of ds x ≡ Some b) ⊎ (IsAwaited t head x ⊎ (at ≤ x))

-- the short clauses at these places are true
abbrev pub AreSettled : List (List Literal) → List ℕ → Values → Type 0
AreSettled cs short vs =
    (k : ℕ) → Has short k → (c : List Literal) → slice_get cs k ≡ Some c → IsShort c → IsTrueIn vs c
