-- The selection that names spell, and the first name at fault.
use Rattle.std.specs.Prelude.{◌≡◌, ℕ, ◌+◌, ◌*◌, true, false, if◌then◌else◌, List, [], ◌∷◌, length, take, slice_get, Some}
use Rattle.std.specs.List.{list_all}
use Rattle.cfj_model.specs.ProductLines.{are_distinct}
use Rattle.cfj_words.specs.Names.{is_among}
use Rattle.cfj_logic.specs.Selections.{Chosen}
use Rattle.feature_model.specs.declared.names.NameFault.{NameFault}
use Rattle.feature_model.specs.declared.names.NameFault.TheVariants.{NoFeature, Twice}

-- each name is a feature's, and no two are the same
pub record AreDistinctFeatures (features names : List (List ℕ)) : Type 0 where
  pub known : list_all (is_among features) names ≡ true
  pub distinct : are_distinct names ≡ true

-- the features whose names are among these, as bits, the first feature's being the lowest
abbrev pub named_set : List (List ℕ) → List (List ℕ) → ℕ
named_set names [] = 0
named_set names (f ∷ fs) = (if is_among names f then 1 else 0) + 2 * named_set names fs

-- of each feature, whether its name is among these
unfoldable pub named_selection : List (List ℕ) → List (List ℕ) → Chosen
named_selection features names = record { features = length features; on = named_set names features }

-- the names are distinct features, and spell this selection
pub record IsSpelled (features names : List (List ℕ)) (s : Chosen) : Type 0 where
  pub named : AreDistinctFeatures features names
  pub selected : s ≡ named_selection features names

-- the first bad name stands here, and isn't a feature's
pub record IsNoFeature (features names : List (List ℕ)) (at : ℕ) : Type 0 where
  pub name : List ℕ
  pub there : slice_get names at ≡ Some name
  pub before : AreDistinctFeatures features (take at names)
  pub unknown : is_among features name ≡ false

-- the first bad name stands here: it is a feature's, and was named before
pub record IsNamedTwice (features names : List (List ℕ)) (at : ℕ) : Type 0 where
  pub name : List ℕ
  pub there : slice_get names at ≡ Some name
  pub before : AreDistinctFeatures features (take at names)
  pub known : is_among features name ≡ true
  pub repeated : is_among (take at names) name ≡ true

-- the first bad name, and what is wrong with it
abbrev pub IsFirstBad : List (List ℕ) → List (List ℕ) → NameFault → Type 0
IsFirstBad features names (NoFeature at) = IsNoFeature features names at
IsFirstBad features names (Twice at) = IsNamedTwice features names at
