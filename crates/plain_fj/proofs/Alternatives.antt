-- Items with those before them, and what alts tell of members.
use Rattle.std.proofs.Common.{◌≡◌, ℕ, zero, suc, ◌+◌, ◌<◌, ◌≤◌, Bool, true, false, not, ◌&&◌, ◌||◌, nat_lt, List, [], ◌∷◌, ◌++◌, length, map, drop, take, slice_get, slice_index_or, Some, refl, sym, ◌∙◌, ap, subst, arith}
use Rattle.std.specs.List.{list_all, list_any}
use Rattle.std.specs.Str.{bytes_eq}
use Rattle.std.proofs.lemmas.Bool.{and_parts, not-true, ltb-true}
use Rattle.std.proofs.lemmas.List.{append_assoc, append-nil, map-append}
use Rattle.cfj_words.specs.Names.{is_among}
use Rattle.cfj_model.specs.Members.{Placed, placed, placed_behind, is_again, alts_rise}
use Rattle.cfj_model.specs.ProductLines.{are_new, are_distinct}
use Rattle.class_table.proofs.Members.{unlike, drop_get, all_has, has_map, differs_back}
use Rattle.plain_fj.specs.Alternatives.{IsToldByAlt, behind}

-- ---- items with those before them

placed_behind_get : {A : Type 0} (before xs : List A) (i : ℕ) (x : A) → slice_get xs i ≡ Some x → slice_get (placed_behind before xs) i ≡ Some (behind (before ++ take i xs) x)
placed_behind_get before [] i x at = absurd (unlike at)
placed_behind_get before (y ∷ ys) zero x at =
    let same : y ≡ x = cc at in
    ap (λ z. Some (behind before z)) same ∙ ap (λ z. Some (behind z x)) (sym (append-nil before))
placed_behind_get before (y ∷ ys) (suc i) x at =
    placed_behind_get (before ++ y ∷ []) ys i x at ∙ ap (λ z. Some (behind z x)) (append_assoc before (y ∷ []) (take i ys))

-- at its place an item stands behind those before it
pub placed_get : {A : Type 0} (xs : List A) (i : ℕ) (x : A) → slice_get xs i ≡ Some x → slice_get (placed xs) i ≡ Some (behind (take i xs) x)
placed_get xs i x at = placed_behind_get [] xs i x at

placed_behind_length : {A : Type 0} (before xs : List A) → length (placed_behind before xs) ≡ length xs
placed_behind_length before [] = refl
placed_behind_length before (x ∷ xs) = ap suc (placed_behind_length (before ++ x ∷ []) xs)

pub placed_length : {A : Type 0} (xs : List A) → length (placed xs) ≡ length xs
placed_length xs = placed_behind_length [] xs

get_item : {A : Type 0} (xs : List A) (i : ℕ) (x : A) → i < length xs → x ≡ slice_index_or xs i x → slice_get xs i ≡ Some x
get_item [] i x lt at = absurd (omega arith)
get_item (y ∷ ys) zero x lt at = ap Some (sym at)
get_item (y ∷ ys) (suc i) x lt at = get_item ys i x (omega arith) at

module _ {A : Type 0} (xs ys : List A) (read : ys ≡ xs) (i : ℕ) where
  -- the same of items that are read
  pub placed_item : (x : A) → i < length ys → x ≡ slice_index_or ys i x → drop i (placed xs) ≡ behind (take i ys) x ∷ drop (i + 1) (placed xs)
  placed_item x lt at =
      drop_get (placed xs) i (behind (take i ys) x) (ap (λ zs. slice_get (placed zs) i) (sym read) ∙ placed_get ys i x (get_item ys i x lt at))

  pub placed_past : length ys ≤ i → length (placed xs) ≤ i
  placed_past past = subst (λ n. n ≤ i) (ap length read ∙ sym (placed_length xs)) past

-- ---- alts

-- the name is among those of these items
pub any_named : {A : Type 0} (name_of : A → List ℕ) (xs : List A) (n : List ℕ) → list_any (λ x. bytes_eq (name_of x) n) xs ≡ is_among (map name_of xs) n
any_named name_of [] n = refl
any_named name_of (x ∷ xs) n = ap (λ b. bytes_eq (name_of x) n || b) (any_named name_of xs n)

-- Where alts rise, a member of alt 0 is the first of its name.
pub first_by_alt : {A : Type 0} (name_of : A → List ℕ) (alt_of : A → ℕ) (xs : List A) (i : ℕ) (x : A) → alts_rise (map (λ y. (name_of y, alt_of y)) xs) ≡ true → slice_get xs i ≡ Some x
    → IsToldByAlt name_of (alt_of x) (behind (take i xs) x)
first_by_alt name_of alt_of [] i x rise at none = absurd (unlike at)
first_by_alt name_of alt_of (y ∷ ys) zero x rise at none = refl
first_by_alt {A = A} name_of alt_of (y ∷ ys) (suc i) x rise at none =
    ap (λ b. b || is_among (map name_of (take i ys)) (name_of x)) other ∙ first_by_alt name_of alt_of ys i x parts.1 at none
  where
    key : A → List ℕ × ℕ
    key z = (name_of z, alt_of z)

    above : List ℕ × ℕ → Bool
    above n = not (bytes_eq n.0 (name_of y)) || nat_lt (alt_of y) n.1

    parts : (list_all above (map key ys) ≡ true) × (alts_rise (map key ys) ≡ true)
    parts = and_parts (list_all above (map key ys)) (alts_rise (map key ys)) rise

    below_none : (n : ℕ) → nat_lt n 0 ≡ true → ⊥
    below_none n h = omega (arith, ltb-true n 0 h)

    unlike_later : (b : Bool) → b || nat_lt (alt_of y) 0 ≡ true → b ≡ true
    unlike_later true h = refl
    unlike_later false h = absurd (below_none (alt_of y) h)

    other : bytes_eq (name_of y) (name_of x) ≡ false
    other =
        let later : above (key x) ≡ true = all_has above (map key ys) parts.0 (key x) (has_map key ys x (i, at)) in
        differs_back (name_of x) (name_of y) (not-true (bytes_eq (name_of x) (name_of y))
        (unlike_later (not (bytes_eq (name_of x) (name_of y))) (ap (λ n. not (bytes_eq (name_of x) (name_of y)) || nat_lt (alt_of y) n) (sym none) ∙ later)))

pub first_read : {A : Type 0} (name_of : A → List ℕ) (alt_of : A → ℕ) (xs ys : List A) (i : ℕ) (x : A) → alts_rise (map (λ y. (name_of y, alt_of y)) xs) ≡ true → ys ≡ xs
    → i < length ys → x ≡ slice_index_or ys i x → IsToldByAlt name_of (alt_of x) (behind (take i ys) x)
first_read name_of alt_of xs ys i x rise read lt at =
    first_by_alt name_of alt_of ys i x (ap (λ zs. alts_rise (map (λ y. (name_of y, alt_of y)) zs)) read ∙ rise) (get_item ys i x lt at)

-- ---- members that are the first of their names

both_tests : (a b c d : Bool) → ((a && not b) && (c && d)) ≡ ((a && c) && (not b && d))
both_tests false b c d = refl
both_tests true true true d = refl
both_tests true true false d = refl
both_tests true false true d = refl
both_tests true false false d = refl

placed_tested : {A : Type 0} (name_of : A → List ℕ) (test : A → Bool) (before xs : List A)
    → list_all (λ (q : Placed A). test q.item && not (is_again name_of q)) (placed_behind before xs) ≡ (list_all test xs && are_new (map name_of before) (map name_of xs))
placed_tested name_of test before [] = refl
placed_tested {A = A} name_of test before (x ∷ xs) =
    ap (λ b. (test x && not (is_among (map name_of before) (name_of x))) && b)
    (placed_tested name_of test (before ++ x ∷ []) xs ∙ ap (λ ns. list_all test xs && are_new ns (map name_of xs)) (map-append name_of before (x ∷ [])))
    ∙ both_tests (test x) (is_among (map name_of before) (name_of x)) (list_all test xs) (are_new (map name_of before ++ name_of x ∷ []) (map name_of xs))

-- Each passes a test and is the first of its name exactly where each passes it and their names are distinct.
pub tested_apart : {A : Type 0} (name_of : A → List ℕ) (test : A → Bool) (xs : List A)
    → list_all (λ (q : Placed A). test q.item && not (is_again name_of q)) (placed xs) ≡ (list_all test xs && are_distinct (map name_of xs))
tested_apart name_of test xs = placed_tested name_of test [] xs
