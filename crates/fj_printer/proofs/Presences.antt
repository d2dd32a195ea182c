-- The names that a presence has, one feature at a time.
use Rattle.std.proofs.Common.{◌≡◌, refl, sym, ap, ◌∙◌, ℕ, ◌+◌, ◌<◌, ◌≤◌, Bool, true, false, ◌||◌, if◌then◌else◌, List, [], ◌∷◌, ◌++◌, length, take, drop, slice_index_or, codes, flat_map, append-nil, zero-add, arith}
use Rattle.std.specs.List.{enumerate_from}
use Rattle.std.proofs.lemmas.List.{append_assoc, take-append-drop, take_more, drop_more, take_all}
use Rattle.std.proofs.lemmas.List.Concat.{flat_map-cons, flat_map-append}
use Rattle.std.proofs.lemmas.List.FromFn.{length-enumerate_from, get_or-enumerate_from}
use Rattle.cfj_logic.specs.Sides.{Sides}
use Rattle.cfj_model.specs.Coloring.{has_mark, is_marked}
use Rattle.cfj_model.specs.Print.{spaced_behind, spaced, signed_names}
use Rattle.fj_printer.specs.Parts.{spaced_on}

-- whether there are any
abbrev pub are_there : {A : Type 0} → List A → Bool
are_there [] = false
are_there (x ∷ xs) = true

behind_append : (xs ys : List (List ℕ)) → spaced_behind (xs ++ ys) ≡ spaced_behind xs ++ spaced_behind ys
behind_append [] ys = refl
behind_append (x ∷ xs) ys =
    ap (λ w. codes " " ++ (x ++ w)) (behind_append xs ys)
    ∙ ap (λ w. codes " " ++ w) (sym (append_assoc x (spaced_behind xs) (spaced_behind ys)))

-- some texts, and then others
pub spaced_append : (b : Bool) (xs ys : List (List ℕ)) → spaced_on b (xs ++ ys) ≡ spaced_on b xs ++ spaced_on (b || are_there xs) ys
spaced_append true xs ys = behind_append xs ys
spaced_append false [] ys = refl
spaced_append false (x ∷ xs) ys = ap (λ w. x ++ w) (behind_append xs ys) ∙ sym (append_assoc x (spaced_behind xs) (spaced_behind ys))

-- one text, where it is there
abbrev pub where_there : Bool → List ℕ → List (List ℕ)
where_there b x = if b then x ∷ [] else []

one_there : (b : Bool) (x : List ℕ) → are_there (where_there b x) ≡ b
one_there true x = refl
one_there false x = refl

-- both of one feature
pub both_spaced : (b w u : Bool) (x y : List ℕ) → spaced_on b (where_there w x ++ where_there u y) ≡ spaced_on b (where_there w x) ++ spaced_on (b || w) (where_there u y)
both_spaced b w u x y =
    spaced_append b (where_there w x) (where_there u y)
    ∙ ap (λ c. spaced_on b (where_there w x) ++ spaced_on (b || c) (where_there u y)) (one_there w x)

-- what is wanted of a feature, by the tests of its marks
pub signed_is : (b w u : Bool) (colors : Sides) (n : ℕ) (f : List ℕ) → w ≡ has_mark false n colors → u ≡ has_mark true n colors
    → spaced_on b (signed_names colors (n, f)) ≡ spaced_on b (where_there w f) ++ spaced_on (b || w) (where_there u (codes "!" ++ f))
signed_is b w u colors n f e k =
    ap (λ x. spaced_on b (where_there x f ++ where_there (has_mark true n colors) (codes "!" ++ f))) (sym e)
    ∙ ap (λ x. spaced_on b (where_there w f ++ where_there x (codes "!" ++ f))) (sym k)
    ∙ both_spaced b w u f (codes "!" ++ f)

there_both : (w u : Bool) (x y : List ℕ) → are_there (where_there w x ++ where_there u y) ≡ (w || u)
there_both true u x y = refl
there_both false true x y = refl
there_both false false x y = refl

there_append : {A : Type 0} (xs ys : List A) → are_there (xs ++ ys) ≡ (are_there xs || are_there ys)
there_append [] ys = refl
there_append (x ∷ xs) ys = refl

module _ (features : List (List ℕ)) (colors : Sides) where
  -- the names of the first features
  abbrev pub names_to : ℕ → List (List ℕ)
  names_to n = flat_map (signed_names colors) (take n (enumerate_from 0 features))

  abbrev pub all_names : List (List ℕ)
  all_names = flat_map (signed_names colors) (enumerate_from 0 features)

  pub names_whole : (n : ℕ) → length features ≤ n → names_to n ≡ all_names
  names_whole n le = ap (flat_map (signed_names colors)) (take_all n (enumerate_from 0 features) (omega (arith, length-enumerate_from 0 features)))

  module _ (i : ℕ) (feature : List ℕ) (lt : i < length features) (here : feature ≡ slice_index_or features i feature) where
    item : ℕ × List ℕ
    item = (i, feature)

    within : i < length (enumerate_from 0 features)
    within = omega (arith, length-enumerate_from 0 features)

    there : slice_index_or (enumerate_from 0 features) i (i, feature) ≡ (i, feature)
    there =
        get_or-enumerate_from 0 features i (i, feature) lt
        ∙ ap (λ n. (let p : ℕ × List ℕ = (n, slice_index_or features i feature) in p)) (zero-add i)
        ∙ ap (λ f. (let p : ℕ × List ℕ = (i, f) in p)) (sym here)

    abbrev behind : List (List ℕ)
    behind = flat_map (signed_names colors) (drop (i + 1) (enumerate_from 0 features))

    one_more : names_to (i + 1) ≡ names_to i ++ signed_names colors (i, feature)
    one_more =
        ap (flat_map (signed_names colors)) (take_more (enumerate_from 0 features) i (i, feature) within)
        ∙ flat_map-append (signed_names colors) (take i (enumerate_from 0 features)) (slice_index_or (enumerate_from 0 features) i (i, feature) ∷ [])
        ∙ ap (λ w. names_to i ++ w) (flat_map-cons (signed_names colors) (slice_index_or (enumerate_from 0 features) i (i, feature)) [] ∙ append-nil _ ∙ ap (signed_names colors) there)

    split : all_names ≡ names_to i ++ (signed_names colors (i, feature) ++ behind)
    split =
        ap (flat_map (signed_names colors)) (sym (take-append-drop i (enumerate_from 0 features)) ∙ ap (λ w. take i (enumerate_from 0 features) ++ w) (drop_more (enumerate_from 0 features) i (i, feature) within))
        ∙ flat_map-append (signed_names colors) (take i (enumerate_from 0 features)) (slice_index_or (enumerate_from 0 features) i (i, feature) ∷ drop (i + 1) (enumerate_from 0 features))
        ∙ ap (λ w. names_to i ++ w) (flat_map-cons (signed_names colors) (slice_index_or (enumerate_from 0 features) i (i, feature)) (drop (i + 1) (enumerate_from 0 features)) ∙ ap (λ x. signed_names colors x ++ behind) there)

    pub names_more : (begun : Bool) → begun ≡ are_there (names_to i) → spaced_on false (names_to (i + 1)) ≡ spaced_on false (names_to i) ++ spaced_on begun (signed_names colors (i, feature))
    names_more begun e =
        ap (spaced_on false) one_more ∙ spaced_append false (names_to i) (signed_names colors (i, feature))
        ∙ ap (λ b. spaced_on false (names_to i) ++ spaced_on b (signed_names colors (i, feature))) (sym e)

    abbrev pub rest_of_names : Bool → List ℕ
    rest_of_names begun = spaced_on (begun || are_there (signed_names colors (i, feature))) behind

    pub names_there : (begun : Bool) → begun ≡ are_there (names_to i) → spaced_on false all_names ≡ spaced_on false (names_to i) ++ (spaced_on begun (signed_names colors (i, feature)) ++ rest_of_names begun)
    names_there begun e =
        ap (spaced_on false) split ∙ spaced_append false (names_to i) (signed_names colors (i, feature) ++ behind)
        ∙ ap (λ b. spaced_on false (names_to i) ++ spaced_on b (signed_names colors (i, feature) ++ behind)) (sym e)
        ∙ ap (λ w. spaced_on false (names_to i) ++ w) (spaced_append begun (signed_names colors (i, feature)) behind)

    pub begun_more : (begun : Bool) → begun ≡ are_there (names_to i) → (begun || is_marked i colors) ≡ are_there (names_to (i + 1))
    begun_more begun e =
        ap (λ b. b || is_marked i colors) e
        ∙ ap (λ b. are_there (names_to i) || b) (sym (there_both (has_mark false i colors) (has_mark true i colors) feature (codes "!" ++ feature)))
        ∙ sym (there_append (names_to i) (signed_names colors (i, feature)))
        ∙ ap are_there (sym one_more)
