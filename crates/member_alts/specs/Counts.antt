-- No public contract cites this: it serves the proofs.
-- How often names were counted.
use Rattle.std.specs.Prelude.{◌≡◌, ℕ, List, length, filter, map, unwrap_or}
use Rattle.std.specs.Borrow.{Bor}
use Rattle.std.specs.Str.{bytes_eq}
use Rattle.indexmap.specs.IndexMap.{IndexMap, get_by}
use Rattle.cfj_model.specs.Members.{namesakes, placed}

-- how often a map says that a name was counted
abbrev pub count_in : {S : Type 0} → IndexMap (Bor (List ℕ)) ℕ S → List ℕ → ℕ
count_in counts w = unwrap_or (get_by (λ k. bytes_eq w k.now) counts) 0

-- how many of these have a name
abbrev pub count_of : {A : Type 0} → (A → List ℕ) → List A → List ℕ → ℕ
count_of name_of xs w = length (filter (λ x. bytes_eq (name_of x) w) xs)

-- behind these, their names are counted, and their alts are found
pub record AreCounted {A : Type 0} (name_of : A → List ℕ) (xs : List A) (count : List ℕ → ℕ) (alts : List ℕ) : Type 0 where
  pub counts : (w : List ℕ) → count w ≡ count_of name_of xs w
  pub found : alts ≡ map (namesakes name_of) (placed xs)
