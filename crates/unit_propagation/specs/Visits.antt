-- No public contract cites this: it serves the proofs.
-- What a look at a clause says.
use Rattle.std.specs.Prelude.{◌≡◌, ℕ, Bool, true, false, ◌⊎◌, List, slice_get, slice_set, Some}
use Rattle.cfj_logic.specs.declared.clauses.Literal.{Literal}
use Rattle.cfj_logic.specs.UnitClauses.{Values, IsFalse, IsUnvalued}
use Rattle.cfj_words.specs.Lists.{Has}
use Rattle.unit_propagation.specs.declared.lists.Lists.{Lists}
use Rattle.unit_propagation.specs.declared.pair.Pair.{Pair}
use Rattle.unit_propagation.specs.declared.watches.Visit.{Visit}
use Rattle.unit_propagation.specs.declared.watches.Visit.TheVariants.{Stays, Moves, Falsified}
use Rattle.unit_propagation.specs.Falsified.{IsFalsifiedAt}
use Rattle.unit_propagation.specs.Lists.{IsListed}
use Rattle.unit_propagation.specs.Watched.{IsOf, AreWatchedAt, IsTrueIn}

-- two literals of the clause have no value
pub record HasTwoUnvalued (vs : Values) (c : List Literal) : Type 0 where
  pub one : Literal
  pub two : Literal
  pub has_one : Has c one
  pub has_two : Has c two
  pub one_unvalued : IsUnvalued vs one
  pub two_unvalued : IsUnvalued vs two
  pub differ : one ≡ two → ⊥

-- a clause was settled: it is falsified, or one of its literals is true or two had no value
abbrev pub Settles : List (List Literal) → Values → Values → ℕ → Bool → Type 0
Settles cs vs ws place true = IsFalsifiedAt cs ws place
Settles cs vs ws place false = (c : List Literal) → slice_get cs place ≡ Some c → IsTrueIn ws c ⊎ HasTwoUnvalued vs c

-- the clause at this place now watches a literal that isn't false, in place of this one
pub record IsMoved (cs : List (List Literal)) (vs : Values) (ps qs : List Pair) (lists : Lists) (l : Literal)
    (place : ℕ) : Type 0
  where
    pub clause : List Literal
    pub pair : Pair
    pub other : Literal
    pub next : Literal
    pub there : slice_get cs place ≡ Some clause
    pub was : slice_get ps place ≡ Some pair
    pub watched : IsOf other pair
    pub leaves : (pair.first ≡ pair.second → ⊥) → other ≡ l → ⊥
    pub has : Has clause next
    pub differ : next ≡ other → ⊥
    pub not_false : IsFalse vs next → ⊥
    pub listed : IsListed lists next place
    pub now : qs ≡ slice_set ps place (record { first = other; second = next })

-- what the look at the clause at this place came to, a watched literal of which was false
abbrev pub Visits : List (List Literal) → Values → Values → List Pair → List Pair → Lists → Literal → ℕ → Visit → Type 0
Visits cs vs ws ps qs lists l place Stays =
    (qs ≡ ps) × ((c : List Literal) (p : Pair) → AreWatchedAt cs ps place c p → IsTrueIn ws c)
Visits cs vs ws ps qs lists l place Moves = IsMoved cs vs ps qs lists l place
Visits cs vs ws ps qs lists l place Falsified = (qs ≡ ps) × IsFalsifiedAt cs ws place
