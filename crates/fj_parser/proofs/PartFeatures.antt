-- The features of a model, as they are met before a part that is read by itself.
use Rattle.std.proofs.Common.{◌≡◌, ℕ, zero, suc, ◌<◌, ◌≤◌, ◌⊎◌, inl, inr, Bool, true, false, not, List, [], ◌∷◌, ◌++◌, length, take, slice_get, Some, None, refl, sym, ap, ◌∙◌, append_assoc, append-nil, codes, bytes_eq, arith}
use Rattle.std.specs.Prelude.{nat_le}
use Rattle.std.proofs.lemmas.Bool.{and_parts, or_cases, leb-true, le-ltb, lt-leb, not-true, true≢false}
use Rattle.std.proofs.lemmas.List.{length-take-le}
use Rattle.std.proofs.lemmas.Slice.Eq.{bytes_eq-Decides}
use Rattle.std.proofs.lemmas.Option.{none-some, same_Some, slice_get_within}
use Rattle.cfj_model.specs.declared.fault.FaultKind.{FaultKind}
use Rattle.cfj_model.specs.declared.fault.FaultKind.TheVariants.{Twice, Limit}
use Rattle.cfj_model.specs.declared.fault.LimitKind.TheVariants as limit
use Rattle.cfj_words.specs.Names.{is_among, is_identifier, is_name, is_short_identifier, most_name_bytes}
use Rattle.cfj_model.specs.ProductLines.{are_new, are_distinct, most_features}
use Rattle.cfj_model.specs.Roles.{feature_name, broken_by, is_long, first_of}
use Rattle.cfj_model.specs.Languages.{with_features}
use Rattle.cfj_model.specs.declared.feature_model.Format.{Format}

-- of names of which each is new, one isn't among those before it
new_at : (before ns : List (List ℕ)) (i : ℕ) (w : List ℕ) → are_new before ns ≡ true → slice_get ns i ≡ Some w → is_among (before ++ take i ns) w ≡ false
new_at before [] i w e there = absurd (none-some w there)
new_at before (n ∷ ns) zero w e there =
    let parts = and_parts (not (is_among before n)) (are_new (before ++ n ∷ []) ns) e in
    let is : n ≡ w = same_Some n w there in
    ap (λ x. is_among x w) (append-nil before) ∙ ap (is_among before) (sym is) ∙ not-true (is_among before n) parts.0
new_at before (n ∷ ns) (suc i) w e there =
    let parts = and_parts (not (is_among before n)) (are_new (before ++ n ∷ []) ns) e in
    ap (λ x. is_among x w) (sym (append_assoc before (n ∷ []) (take i ns))) ∙ new_at (before ++ n ∷ []) ns i w parts.1 there

-- a name has no more bytes than a name may have
name_short : (w : List ℕ) → is_name w ≡ true → is_long w ≡ false
name_short w named = by (or_cases (is_short_identifier w) (bytes_eq w (codes "this")) named)
  where
    by : (is_short_identifier w ≡ true) ⊎ (bytes_eq w (codes "this") ≡ true) → is_long w ≡ false
    by (inl h) =
        let parts = and_parts (is_identifier w) (nat_le (length w) most_name_bytes) h in
        le-ltb _ _ (leb-true _ _ parts.1)
    by (inr h) = ap is_long ((bytes_eq-Decides w (codes "this")).0 h)

no_test : (a b c : Bool) (j k l : FaultKind) → a ≡ false → b ≡ false → c ≡ false → first_of ((a, j) ∷ ((b, k) ∷ ((c, l) ∷ []))) ≡ None
no_test false false false j k l p q r = refl
no_test true b c j k l p q r = absurd (true≢false p)
no_test a true c j k l p q r = absurd (true≢false q)
no_test a b true j k l p q r = absurd (true≢false r)

-- each of distinct features stands as one of a feature line does
pub feature_fits : (format : Format) (names : List (List ℕ)) (i : ℕ) (w : List ℕ) → nat_le (length names) most_features ≡ true → are_distinct names ≡ true → is_name w ≡ true → slice_get names i ≡ Some w → broken_by (with_features format (take i names)) (feature_name w) ≡ None
feature_fits format names i w few distinct named there =
    let within : i < length names = slice_get_within names i w there in
    let most : length names ≤ most_features = leb-true _ _ few in
    let long : length (take i names) ≡ i = length-take-le i names (omega arith) in
    no_test (is_long w) (is_among (take i names) w) (nat_le most_features (length (take i names))) (Limit limit.Name) (Twice w) (Limit limit.Features) (name_short w named) (new_at [] names i w distinct there) (lt-leb _ _ (omega arith))
