-- Sets of feature numbers as numbers, selections, and their order.
use Rattle.std.specs.Prelude.{◌≡◌, ℕ, zero, suc, ◌+◌, ◌<◌, Bool, true, false, ◌==◌, List, [], ◌∷◌, bit_and}
use Rattle.std.specs.Int.{bit_at}

-- the set whose members are the bits of `n` has this member
abbrev pub has_bit : ℕ → ℕ → Bool
has_bit n f = bit_at n f == 1

-- each bit of `a` is one of `b`
abbrev pub is_subset : ℕ → ℕ → Bool
is_subset a b = bit_and a b == a

-- the features that are selected, as the bits of `on`, of a model with so many
pub record Chosen : Type 0 where
  pub features : ℕ
  pub on : ℕ

-- the feature is selected
abbrev pub is_on : Chosen → ℕ → Bool
is_on s f = has_bit s.on f

-- whether each of `n` features from `f` on is selected, in order
abbrev pub choices_from : Chosen → ℕ → ℕ → List Bool
choices_from s zero f = []
choices_from s (suc n) f = is_on s f ∷ choices_from s n (f + 1)

-- whether each feature is selected, in order
abbrev pub choices : Chosen → List Bool
choices s = choices_from s s.features 0

-- of two selections of one number of features, the first lacks the least feature where they differ
pub record IsEarlier (s t : Chosen) : Type 0 where
  pub features : s.features ≡ t.features
  pub feature : ℕ
  pub within : feature < s.features
  pub before : (g : ℕ) → g < feature → is_on s g ≡ is_on t g
  pub lacks : is_on s feature ≡ false
  pub has : is_on t feature ≡ true
