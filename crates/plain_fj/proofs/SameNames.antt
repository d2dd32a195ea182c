-- Lists of names that are compared place by place.
use Rattle.std.proofs.Common.{◌≡◌, ℕ, suc, ◌+◌, ◌<◌, ◌≤◌, Bool, true, false, ◌&&◌, List, [], ◌∷◌, ◌++◌, length, map, drop, slice_index_or, Bor, refl, sym, ◌∙◌, ap, ap₂, arith, add-one}
use Rattle.std.specs.Str.{bytes_eq}
use Rattle.cfj_model.specs.Judging.{are_same}
use Rattle.cfj_model.specs.LookUps.{fields_of}
use Rattle.cfj_model.specs.declared.class.Class.{Class}
use Rattle.cfj_model.specs.declared.class.Field.{Field}
use Rattle.class_table.specs.ByName.{seen}
use Rattle.plain_fj.specs.Found.{names}
use Rattle.plain_fj.proofs.TypeLists.{drop_at, drop_past}

pub same_differ : (xs ys : List (Bor (List ℕ))) → (length xs ≡ length ys → ⊥) → false ≡ are_same (names xs) (names ys)
same_differ [] [] differ = absurd (differ refl)
same_differ [] (y ∷ ys) differ = refl
same_differ (x ∷ xs) [] differ = refl
same_differ (x ∷ xs) (y ∷ ys) differ = either (bytes_eq x.now y.now) ∙ ap (λ b. bytes_eq x.now y.now && b) (same_differ xs ys (λ e. differ (ap suc e)))
  where
    either : (a : Bool) → false ≡ (a && false)
    either true = refl
    either false = refl

module _ (xs ys : List (Bor (List ℕ))) (i : ℕ) where
  -- the same before the place
  abbrev pub AreSameSoFar : Type 0
  AreSameSoFar = are_same (names (drop i xs)) (names (drop i ys)) ≡ are_same (names xs) (names ys)

  here : (x y : Bor (List ℕ)) → AreSameSoFar → length xs ≡ length ys → i < length xs → x ≡ slice_index_or xs i x → y ≡ slice_index_or ys i y
      → (bytes_eq x.now y.now && are_same (names (drop (i + 1) xs)) (names (drop (i + 1) ys))) ≡ are_same (names xs) (names ys)
  here x y so_far long lt at bt =
      let more : i < length ys = omega (arith, long, lt) in
      ap₂ (λ a b. are_same (names a) (names b)) (sym (drop_at xs i x lt at)) (sym (drop_at ys i y more bt)) ∙ so_far

  pub same_apart : (x y : Bor (List ℕ)) → AreSameSoFar → length xs ≡ length ys → i < length xs → x ≡ slice_index_or xs i x → y ≡ slice_index_or ys i y
      → bytes_eq x.now y.now ≡ false → false ≡ are_same (names xs) (names ys)
  same_apart x y so_far long lt at bt apart =
      ap (λ b. b && are_same (names (drop (i + 1) xs)) (names (drop (i + 1) ys))) (sym apart) ∙ here x y so_far long lt at bt

  pub same_on : (x y : Bor (List ℕ)) → AreSameSoFar → length xs ≡ length ys → i < length xs → x ≡ slice_index_or xs i x → y ≡ slice_index_or ys i y
      → bytes_eq x.now y.now ≡ true → are_same (names (drop (i + 1) xs)) (names (drop (i + 1) ys)) ≡ are_same (names xs) (names ys)
  same_on x y so_far long lt at bt same =
      ap (λ b. b && are_same (names (drop (i + 1) xs)) (names (drop (i + 1) ys))) (sym same) ∙ here x y so_far long lt at bt

  pub same_end : AreSameSoFar → length xs ≡ length ys → length xs ≤ i → true ≡ are_same (names xs) (names ys)
  same_end so_far long le =
      let past : length ys ≤ i = omega (arith, long, le) in
      ap₂ (λ a b. are_same (names a) (names b)) (sym (drop_past xs i le)) (sym (drop_past ys i past)) ∙ so_far

-- ---- the names of fields

map_append : {A B : Type 0} (f : A → B) (xs ys : List A) → map f (xs ++ ys) ≡ map f xs ++ map f ys
map_append f [] ys = refl
map_append f (x ∷ xs) ys = ap (λ zs. f x ∷ zs) (map_append f xs ys)

abbrev pub own_names : List Field → List (List ℕ)
own_names fs = map (λ f. f.name) fs

-- the fields of one more class of a chain, from its end on
pub names_of_more : (ks : List (Bor Class)) (left less : ℕ) (k : Bor Class) (ms ns : List (List ℕ)) → ns ≡ own_names (fields_of (seen (drop left ks))) → left ≡ suc less → less < length ks
    → k ≡ slice_index_or ks less k → ms ≡ ns ++ own_names k.now.fields → ms ≡ own_names (fields_of (seen (drop less ks)))
names_of_more ks left less k ms ns so_far e lt at more =
    more
    ∙ ap (λ z. z ++ own_names k.now.fields) (so_far ∙ ap (λ n. own_names (fields_of (seen (drop n ks)))) (e ∙ sym (add-one less)))
    ∙ sym (map_append (λ (f : Field). f.name) (fields_of (seen (drop (less + 1) ks))) k.now.fields)
    ∙ ap (λ z. own_names (fields_of (seen z))) (sym (drop_at ks less k lt at))
