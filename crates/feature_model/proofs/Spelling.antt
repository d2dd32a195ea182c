-- How a list of names is read, one name after another.
use Rattle.std.proofs.Common.{◌≡◌, refl, sym, ap, ◌∙◌, ℕ, ◌+◌, ◌^◌, ◌<◌, true, false, not, List, [], ◌∷◌, ◌++◌, length, take, slice_get, slice_index_or, Some, bit_or, append-nil, arith}
use Rattle.std.specs.Str.{bytes_eq}
use Rattle.std.proofs.lemmas.Bool.{and_parts, and_from}
use Rattle.std.proofs.lemmas.List.{append_assoc, take_more}
use Rattle.std.proofs.lemmas.List.Folds.{list_any_at, list_all_more}
use Rattle.std.proofs.lemmas.Option.{get_or_from_slice_get, slice_get_read, slice_get_within}
use Rattle.std.proofs.lemmas.Slice.Eq.{bytes_eq-Decides}
use Rattle.cfj_model.specs.ProductLines.{are_new, are_distinct}
use Rattle.cfj_words.specs.Names.{is_among}
use Rattle.cfj_logic.specs.Selections.{Chosen, is_on, has_bit}
use Rattle.feature_model.specs.NamedSelections.{named_set, named_selection, IsSpelled, IsNoFeature, IsNamedTwice}
use Rattle.feature_model.proofs.NamedSets.{has_bit_named, named_set_more}

set_of_none : (fs : List (List ℕ)) → named_set [] fs ≡ 0
set_of_none [] = refl
set_of_none (f ∷ fs) = let rest = set_of_none fs in omega arith

new_behind : (before ns : List (List ℕ)) (n : List ℕ) → are_new before ns ≡ true → is_among (before ++ ns) n ≡ false → are_new before (ns ++ n ∷ []) ≡ true
new_behind before [] n e fresh =
    let here : is_among before n ≡ false = ap (λ w. is_among w n) (sym (append-nil before)) ∙ fresh in
    and_from (not (is_among before n)) true (ap not here) refl
new_behind before (m ∷ ms) n e fresh =
    let parts = and_parts (not (is_among before m)) (are_new (before ++ m ∷ []) ms) e in
    and_from (not (is_among before m)) (are_new (before ++ m ∷ []) (ms ++ n ∷ [])) parts.0
    (new_behind (before ++ m ∷ []) ms n parts.1 (ap (λ w. is_among w n) (append_assoc before (m ∷ []) ms) ∙ fresh))

pub is_feature : (features : List (List ℕ)) (f : ℕ) (name : List ℕ) → slice_get features f ≡ Some name → is_among features name ≡ true
is_feature features f name there =
    list_any_at (λ n. bytes_eq n name) features f name (slice_get_within features f name there)
    ((bytes_eq-Decides (slice_index_or features f name) name).1 (get_or_from_slice_get features f name name there))

module _ (features : List (List ℕ)) where
  pub spelled_nothing : (s : Chosen) → s ≡ record { features = length features; on = 0 } → IsSpelled features [] s
  unfolding named_selection
  spelled_nothing s e = record {
    named = record { known = refl; distinct = refl };
    selected = e ∙ ap (λ on. (let t : Chosen = record { features = length features; on = on } in t)) (sym (set_of_none features));
  }

  module _ (names : List (List ℕ)) (i : ℕ) (name : List ℕ) (s : Chosen) (so_far : IsSpelled features (take i names) s) (within : i < length names) (here : name ≡ slice_index_or names i name) where
    there : slice_get names i ≡ Some name
    there = slice_get_read names (length names) i name refl within here

    pub no_feature : is_among features name ≡ false → IsNoFeature features names i
    no_feature unknown = record { name = name; there = there; before = so_far.named; unknown = unknown }

    module _ (f : ℕ) (is : slice_get features f ≡ Some name) where
      pub feature_within : f < s.features
      unfolding named_selection
      feature_within = let same = ap (λ (w : Chosen). w.features) so_far.selected in let lt = slice_get_within features f name is in omega arith

      -- the feature is selected where its name was named before
      selected_before : is_on s f ≡ is_among (take i names) name
      unfolding named_selection
      selected_before =
          ap (λ (w : Chosen). has_bit w.on f) so_far.selected
          ∙ has_bit_named (take i names) features f name (slice_get_within features f name is)
          ∙ ap (λ n. is_among (take i names) n) (get_or_from_slice_get features f name name is)

      pub named_twice : is_on s f ≡ true → IsNamedTwice features names i
      named_twice on = record { name = name; there = there; before = so_far.named; known = is_feature features f name is; repeated = sym selected_before ∙ on }

      pub spelled_more : are_distinct features ≡ true → is_on s f ≡ false → (t : Chosen) → t ≡ record { features = s.features; on = bit_or s.on (2 ^ f) } → IsSpelled features (take (i + 1) names) t
      unfolding named_selection
      spelled_more distinct off t more =
          let next : take (i + 1) names ≡ take i names ++ name ∷ [] = take_more names i name within ∙ ap (λ n. take i names ++ n ∷ []) (sym here) in
          let fresh : is_among (take i names) name ≡ false = sym selected_before ∙ off in
          let lt = slice_get_within features f name is in
          let selected : t ≡ named_selection features (take i names ++ name ∷ []) =
          more
          ∙ ap (λ (w : Chosen). (let u : Chosen = record { features = w.features; on = bit_or w.on (2 ^ f) } in u)) so_far.selected
          ∙ ap (λ on. (let u : Chosen = record { features = length features; on = on } in u)) (named_set_more (take i names) features f name distinct lt (get_or_from_slice_get features f name name is)) in
          record {
            named = record {
              known = list_all_more (is_among features) names i name within ∙ and_from _ _ so_far.named.known (ap (is_among features) (sym here) ∙ is_feature features f name is);
              distinct = ap are_distinct next ∙ new_behind [] (take i names) name so_far.named.distinct fresh;
            };
            selected = selected ∙ ap (named_selection features) (sym next);
          }
