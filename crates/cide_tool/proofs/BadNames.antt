-- What is known of the first bad name where some texts are names and the next can't be one.
use Rattle.std.proofs.Common.{Bor, ◌≡◌, ℕ, zero, suc, ◌+◌, ◌<◌, Bool, true, false, ◌||◌, codes, List, [], ◌∷◌, ◌++◌, length, map, take, drop, slice_get, slice_index_or, Some, refl, sym, ap, subst, ◌∙◌}
use Rattle.std.specs.List.{list_all}
use Rattle.std.specs.Str.{bytes_eq}
use Rattle.std.proofs.lemmas.Bool.{and_parts}
use Rattle.std.proofs.lemmas.List.{drop_more}
use Rattle.std.proofs.lemmas.Slice.Eq.{bytes_eq-Decides}
use Rattle.cfj_words.specs.Names.{is_among, is_name, is_short_identifier}
use Rattle.feature_model.specs.declared.names.NameFault.{NameFault}
use Rattle.feature_model.specs.declared.names.NameFault.TheVariants.{NoFeature, Twice}
use Rattle.cfj_logic.specs.Selections.{Chosen}
use Rattle.feature_model.specs.NamedSelections.{named_selection, IsSpelled, AreDistinctFeatures, IsNoFeature, IsFirstBad}

named_if_short : (text : List ℕ) → is_short_identifier text ≡ true → is_name text ≡ true
named_if_short text e = ap (λ b. b || bytes_eq text (codes "this")) e

-- Each feature is a name, so a text that can't be a name is none.
pub no_feature : (features : List (List ℕ)) (part : List ℕ) → list_all is_short_identifier features ≡ true → is_name part ≡ false → is_among features part ≡ false
no_feature [] part e none = refl
no_feature (f ∷ fs) part e none =
    let parts = and_parts (is_short_identifier f) (list_all is_short_identifier fs) e in
    ap (λ b. b || is_among fs part) (other (bytes_eq f part) refl (named_if_short f parts.0)) ∙ no_feature fs part parts.1 none
  where
    other : (b : Bool) → bytes_eq f part ≡ b → is_name f ≡ true → bytes_eq f part ≡ false
    other false same named = same
    other true same named =
        let there = subst (λ (w : List ℕ). is_name w ≡ true) ((bytes_eq-Decides f part).0 same) named in
        absurd (let no : ⊥ = cc (there, none) in no)

module _ {A : Type 0} where
  get_before : (xs ys : List A) (i : ℕ) (x : A) → slice_get xs i ≡ Some x → slice_get (xs ++ ys) i ≡ Some x
  get_before [] ys i x e = absurd (let no : ⊥ = cc e in no)
  get_before (z ∷ xs) ys zero x e = e
  get_before (z ∷ xs) ys (suc i) x e = get_before xs ys i x e

  take_before : (xs ys : List A) (i : ℕ) (x : A) → slice_get xs i ≡ Some x → take i xs ≡ take i (xs ++ ys)
  take_before [] ys i x e = absurd (let no : ⊥ = cc e in no)
  take_before (z ∷ xs) ys zero x e = refl
  take_before (z ∷ xs) ys (suc i) x e = ap (λ w. z ∷ w) (take_before xs ys i x e)

  get_next : (xs ys : List A) (x : A) → slice_get (xs ++ x ∷ ys) (length xs) ≡ Some x
  get_next [] ys x = refl
  get_next (z ∷ xs) ys x = get_next xs ys x

  take_front : (xs ys : List A) → xs ≡ take (length xs) (xs ++ ys)
  take_front [] ys = refl
  take_front (z ∷ xs) ys = ap (λ w. z ∷ w) (take_front xs ys)

module _ (features names more : List (List ℕ)) where
  -- The first bad name stays the first one, whatever comes behind.
  pub still_first : (fault : NameFault) → IsFirstBad features names fault → IsFirstBad features (names ++ more) fault
  still_first (NoFeature at) h = record {
    name = h.name;
    there = get_before names more at h.name h.there;
    before = subst (AreDistinctFeatures features) (take_before names more at h.name h.there) h.before;
    unknown = h.unknown;
  }
  still_first (Twice at) h = record {
    name = h.name;
    there = get_before names more at h.name h.there;
    before = subst (AreDistinctFeatures features) (take_before names more at h.name h.there) h.before;
    known = h.known;
    repeated = subst (λ (w : List (List ℕ)). is_among w h.name ≡ true) (take_before names more at h.name h.there) h.repeated;
  }

-- Behind distinct features, a text that is no feature is the first bad name.
pub next_is_bad : (features names rest : List (List ℕ)) (part : List ℕ) → AreDistinctFeatures features names → is_among features part ≡ false → IsNoFeature features (names ++ part ∷ rest) (length names)
next_is_bad features names rest part h unknown = record {
  name = part;
  there = get_next names rest part;
  before = subst (AreDistinctFeatures features) (take_front names (part ∷ rest)) h;
  unknown = unknown;
}

-- The selection that names spell is one of these features.
pub of_its_features : (features names : List (List ℕ)) (s : Chosen) → IsSpelled features names s → s.features ≡ length features
unfolding named_selection
of_its_features features names s h = ap (λ (t : Chosen). t.features) h.selected

-- Where all texts before one are names, and that one can't be, the first bad name is the one that it is with that text behind.
pub first_of_parts : (features : List (List ℕ)) (parts : List (Bor (List ℕ))) (i : ℕ) (d : Bor (List ℕ)) (names : List (List ℕ)) (fault : NameFault) → i < length parts → names ++ map (λ part. part.now) (drop i parts) ≡ map (λ part. part.now) parts → list_all is_short_identifier features ≡ true → is_name (slice_index_or parts i d).now ≡ false → ((part : List ℕ) (rest : List (List ℕ)) → is_among features part ≡ false → IsFirstBad features (names ++ part ∷ rest) fault) → IsFirstBad features (map (λ part. part.now) parts) fault
first_of_parts features parts i d names fault lt split named none bad =
    let part = slice_index_or parts i d in
    let rest = map (λ (p : Bor (List ℕ)). p.now) (drop (i + 1) parts) in
    let same : names ++ part.now ∷ rest ≡ map (λ p. p.now) parts =
    ap (λ (w : List (Bor (List ℕ))). names ++ map (λ p. p.now) w) (sym (drop_more parts i d lt)) ∙ split in
    subst (λ (ns : List (List ℕ)). IsFirstBad features ns fault) same (bad part.now rest (no_feature features part.now named none))
