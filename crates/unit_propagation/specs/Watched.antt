-- The literals of clauses that are watched.
use Rattle.std.specs.Prelude.{◌≡◌, ℕ, ◌≤◌, ◌⊎◌, List, length, slice_get, Some}
use Rattle.cfj_logic.specs.declared.clauses.Literal.{Literal}
use Rattle.cfj_logic.specs.UnitClauses.{Values, value_of, IsFalse}
use Rattle.cfj_words.specs.Lists.{Has}
use Rattle.unit_propagation.specs.declared.lists.Lists.{Lists}
use Rattle.unit_propagation.specs.declared.pair.Pair.{Pair}
use Rattle.unit_propagation.specs.declared.watches.Watches.{Watches}
use Rattle.unit_propagation.specs.Lists.{IsListed}

-- the literal is one of the two
abbrev pub IsOf : Literal → Pair → Type 0
IsOf m p = (m ≡ p.first) ⊎ (m ≡ p.second)

-- the two are different literals of the clause
pub record AreTwoOf (c : List Literal) (p : Pair) : Type 0 where
  pub first : Has c p.first
  pub second : Has c p.second
  pub differ : p.first ≡ p.second → ⊥

-- the clause has no two different literals
abbrev pub IsShort : List Literal → Type 0
IsShort c = (l m : Literal) → Has c l → Has c m → l ≡ m

-- the clause at this place is this one, and these two literals of it are watched
pub record AreWatchedAt (cs : List (List Literal)) (ps : List Pair) (k : ℕ) (c : List Literal) (p : Pair) : Type 0 where
  pub clause : slice_get cs k ≡ Some c
  pub pair : slice_get ps k ≡ Some p
  pub two : AreTwoOf c p

-- a literal of the clause is true
abbrev pub IsTrueIn : Values → List Literal → Type 0
IsTrueIn vs c = (l : Literal) × Has c l × (value_of vs l.var ≡ Some l.on)

-- each clause has two watched literals or is short, and stands where `At` says for each of the two
pub record Fits (cs : List (List Literal)) (ps : List Pair) (At : Literal → ℕ → Type 0) : Type 0 where
  pub long : length cs ≤ length ps
  pub paired : (k : ℕ) (c : List Literal) (p : Pair) → slice_get cs k ≡ Some c → slice_get ps k ≡ Some p →
      AreTwoOf c p ⊎ IsShort c
  pub listed : (k : ℕ) (c : List Literal) (p : Pair) → AreWatchedAt cs ps k c p → (m : Literal) → IsOf m p → At m k

-- the place is in the literal's list, or, for this literal, in the list that was taken out
abbrev pub IsListedBut : Lists → Literal → List ℕ → Literal → ℕ → Type 0
IsListedBut lists l list m k = ((m ≡ l → ⊥) × IsListed lists m k) ⊎ ((m ≡ l) × Has list k)

-- each clause is in the lists of its two watched literals
abbrev pub AreWatched : List (List Literal) → Watches → Type 0
AreWatched cs w = Fits cs w.pairs.items (IsListed w.lists)

-- each clause is in the lists of its two watched literals, where this is the list of this literal
abbrev pub AreWatchedBut : Literal → List ℕ → List (List Literal) → Watches → Type 0
AreWatchedBut l list cs w = Fits cs w.pairs.items (IsListedBut w.lists l list)

-- the list has the places of all short clauses
abbrev pub AreShortAt : List (List Literal) → List ℕ → Type 0
AreShortAt cs short = (k : ℕ) (c : List Literal) → slice_get cs k ≡ Some c → IsShort c → Has short k

-- the pair serves the clause at this place, which the list has if the clause is short
pub record IsNoted (c : List Literal) (p : Pair) (places : List ℕ) (place : ℕ) : Type 0 where
  pub pair : AreTwoOf c p ⊎ IsShort c
  pub noted : IsShort c → Has places place

-- the clauses are watched, and the list has the places of those that are short
pub record IsKept (cs : List (List Literal)) (w : Watches) (places : List ℕ) : Type 0 where
  pub watched : AreWatched cs w
  pub short : AreShortAt cs places

-- where a watched literal is one that these values make false, a literal of the clause is true
abbrev pub Handled : List (List Literal) → List Pair → Values → Values → Type 0
Handled cs ps ds vs =
    (k : ℕ) (c : List Literal) (p : Pair) → AreWatchedAt cs ps k c p → (m : Literal) → IsOf m p →
    IsFalse ds m → IsTrueIn vs c

-- the same, and where it is this literal
abbrev pub HandledWith : List (List Literal) → List Pair → Values → Literal → Values → Type 0
HandledWith cs ps ds l vs =
    (k : ℕ) (c : List Literal) (p : Pair) → AreWatchedAt cs ps k c p → (m : Literal) → IsOf m p →
    IsFalse ds m ⊎ (m ≡ l) → IsTrueIn vs c

-- the same, but for clauses that watch this literal and whose places are still to come
abbrev pub HandledBut : List (List Literal) → List Pair → Values → Literal → List ℕ → Values → Type 0
HandledBut cs ps ds l rest vs =
    (k : ℕ) (c : List Literal) (p : Pair) → AreWatchedAt cs ps k c p → (m : Literal) → IsOf m p →
    IsFalse ds m ⊎ (m ≡ l) → IsTrueIn vs c ⊎ ((m ≡ l) × Has rest k)
