-- The bits of the set of the features that are named.
use Rattle.std.proofs.Common.{◌≡◌, ◌≢◌, refl, sym, ap, ◌∙◌, subst, ℕ, zero, suc, ◌+◌, ◌*◌, ◌/◌, ◌%◌, ◌^◌, ◌<◌, ◌≤◌, max, Bool, true, false, not, ◌||◌, ◌==◌, cond, ◌⊎◌, inl, inr, List, [], ◌∷◌, ◌++◌, length, slice_index_or, bit_or, arith}
use Rattle.std.specs.Int.{bit_at}
use Rattle.std.specs.Str.{bytes_eq}
use Rattle.std.proofs.lemmas.Bool.{and_parts}
use Rattle.std.proofs.lemmas.List.Folds.{list_any-append}
use Rattle.std.proofs.lemmas.Nat.Bits.{bit_at_lowest, bit_at-suc, bit_at-zero, bit_at_or, bit_at-pow_same, bit_at-pow_other, bit_at-lt, same_from_bits}
use Rattle.std.proofs.lemmas.Slice.Eq.{bytes_eq-Decides}
use Rattle.cfj_model.specs.ProductLines.{are_new, are_distinct}
use Rattle.cfj_words.specs.Names.{is_among}
use Rattle.cfj_logic.specs.Selections.{has_bit}
use Rattle.feature_model.specs.NamedSelections.{named_set}

-- a truth value as a bit
abbrev bit : Bool → ℕ
bit b = cond b 1 0

bit_below : (b : Bool) → bit b < 2
bit_below true = omega arith
bit_below false = omega arith

bit_is_one : (b : Bool) → (bit b == 1) ≡ b
bit_is_one true = refl
bit_is_one false = refl

lowest : (b r : ℕ) → b < 2 → (b + 2 * r) % 2 ≡ b
lowest b r lt = omega arith

above : (b r : ℕ) → b < 2 → (b + 2 * r) / 2 ≡ r
above b r lt = omega arith

-- the bit of a feature says whether it is named
bit_named : (names fs : List (List ℕ)) (i : ℕ) (d : List ℕ) → i < length fs → bit_at (named_set names fs) i ≡ bit (is_among names (slice_index_or fs i d))
bit_named names [] i d lt = absurd (omega arith)
bit_named names (f ∷ fs) zero d lt = bit_at_lowest (named_set names (f ∷ fs)) ∙ lowest (bit (is_among names f)) (named_set names fs) (bit_below (is_among names f))
bit_named names (f ∷ fs) (suc i) d lt =
    bit_at-suc (named_set names (f ∷ fs)) i
    ∙ ap (λ n. bit_at n i) (above (bit (is_among names f)) (named_set names fs) (bit_below (is_among names f)))
    ∙ bit_named names fs i d (omega arith)

-- and no other bit is set
bit_past : (names fs : List (List ℕ)) (i : ℕ) → length fs ≤ i → bit_at (named_set names fs) i ≡ 0
bit_past names [] i le = bit_at-zero i
bit_past names (f ∷ fs) zero le = absurd (omega arith)
bit_past names (f ∷ fs) (suc i) le =
    bit_at-suc (named_set names (f ∷ fs)) i
    ∙ ap (λ n. bit_at n i) (above (bit (is_among names f)) (named_set names fs) (bit_below (is_among names f)))
    ∙ bit_past names fs i (omega arith)

pub has_bit_named : (names fs : List (List ℕ)) (i : ℕ) (d : List ℕ) → i < length fs → has_bit (named_set names fs) i ≡ is_among names (slice_index_or fs i d)
has_bit_named names fs i d lt = ap (λ n. n == 1) (bit_named names fs i d lt) ∙ bit_is_one (is_among names (slice_index_or fs i d))

-- one more name
has_more : (names : List (List ℕ)) (n x : List ℕ) → is_among (names ++ n ∷ []) x ≡ (is_among names x || bytes_eq n x)
has_more names n x = list_any-append (λ m. bytes_eq m x) names (n ∷ []) ∙ ap (λ b. is_among names x || b) (or_false (bytes_eq n x))
  where
    or_false : (b : Bool) → (b || false) ≡ b
    or_false true = refl
    or_false false = refl

same_bytes : (n : List ℕ) → bytes_eq n n ≡ true
same_bytes n = (bytes_eq-Decides n n).1 refl

-- of distinct names, no later one is this one before them
new_after : (before ns : List (List ℕ)) (y : List ℕ) (j : ℕ) (d : List ℕ) → are_new before ns ≡ true → is_among before y ≡ true → j < length ns → bytes_eq y (slice_index_or ns j d) ≡ false
new_after before [] y j d e h lt = absurd (omega arith)
new_after before (n ∷ ns) y zero d e h lt = differ (bytes_eq y n) refl
  where
    fresh : not (is_among before n) ≡ true
    fresh = (and_parts (not (is_among before n)) (are_new (before ++ n ∷ []) ns) e).0

    differ : (b : Bool) → bytes_eq y n ≡ b → bytes_eq y n ≡ false
    differ false same = same
    differ true same =
        let there : is_among before n ≡ true = subst (λ (w : List ℕ). is_among before w ≡ true) ((bytes_eq-Decides y n).0 same) h in
        absurd (let no : ⊥ = cc (ap not there, fresh) in no)
new_after before (n ∷ ns) y (suc j) d e h lt =
    let parts = and_parts (not (is_among before n)) (are_new (before ++ n ∷ []) ns) e in
    let here : is_among (before ++ n ∷ []) y ≡ true = has_more before n y ∙ ap (λ b. b || bytes_eq n y) h in
    new_after (before ++ n ∷ []) ns y j d parts.1 here (omega arith)

has_last : (names : List (List ℕ)) (n : List ℕ) → is_among (names ++ n ∷ []) n ≡ true
has_last names n = has_more names n n ∙ ap (λ b. is_among names n || b) (same_bytes n) ∙ or_true (is_among names n)
  where
    or_true : (b : Bool) → (b || true) ≡ true
    or_true true = refl
    or_true false = refl

differ_after : (before ns : List (List ℕ)) (i j : ℕ) (d : List ℕ) → are_new before ns ≡ true → i < j → j < length ns → bytes_eq (slice_index_or ns i d) (slice_index_or ns j d) ≡ false
differ_after before [] i j d e lt within = absurd (omega arith)
differ_after before (n ∷ ns) i zero d e lt within = absurd (omega arith)
differ_after before (n ∷ ns) zero (suc j) d e lt within =
    let parts = and_parts (not (is_among before n)) (are_new (before ++ n ∷ []) ns) e in
    new_after (before ++ n ∷ []) ns n j d parts.1 (has_last before n) (omega arith)
differ_after before (n ∷ ns) (suc i) (suc j) d e lt within =
    let parts = and_parts (not (is_among before n)) (are_new (before ++ n ∷ []) ns) e in
    differ_after (before ++ n ∷ []) ns i j d parts.1 (omega arith) (omega arith)

other_way : (x y : List ℕ) → bytes_eq x y ≡ false → bytes_eq y x ≡ false
other_way x y e = go (bytes_eq y x) refl
  where
    go : (b : Bool) → bytes_eq y x ≡ b → bytes_eq y x ≡ false
    go false same = same
    go true same =
        let swapped : bytes_eq x y ≡ true = (bytes_eq-Decides x y).1 (sym ((bytes_eq-Decides y x).0 same)) in
        absurd (let no : ⊥ = cc (swapped, e) in no)

-- of distinct features, only one has this name
differ : (fs : List (List ℕ)) (i j : ℕ) (d : List ℕ) → are_distinct fs ≡ true → i ≢ j → i < length fs → j < length fs → bytes_eq (slice_index_or fs i d) (slice_index_or fs j d) ≡ false
differ fs i j d e apart li lj = go (lt_or_gt i j apart)
  where
    lt_or_gt : (a b : ℕ) → a ≢ b → (a < b) ⊎ (b < a)
    lt_or_gt a b ne = grind arith

    go : (i < j) ⊎ (j < i) → bytes_eq (slice_index_or fs i d) (slice_index_or fs j d) ≡ false
    go (inl lt) = differ_after [] fs i j d e lt lj
    go (inr gt) = other_way (slice_index_or fs j d) (slice_index_or fs i d) (differ_after [] fs j i d e gt li)

-- one more name sets the bit of its feature
pub named_set_more : (names fs : List (List ℕ)) (f : ℕ) (n : List ℕ) → are_distinct fs ≡ true → f < length fs → slice_index_or fs f n ≡ n → bit_or (named_set names fs) (2 ^ f) ≡ named_set (names ++ n ∷ []) fs
named_set_more names fs f n distinct lt here = same_from_bits (bit_or (named_set names fs) (2 ^ f)) (named_set (names ++ n ∷ []) fs) (λ i. bit_at_or (named_set names fs) (2 ^ f) i ∙ each i (decided i f))
  where
    decided : (i f : ℕ) → (i ≡ f) ⊎ (i ≢ f)
    decided i f = grind arith

    with_one : (b x : ℕ) → b < 2 → x ≡ 1 → max b x ≡ 1
    with_one b x lt e = omega arith

    with_none : (b x : ℕ) → x ≡ 0 → max b x ≡ b
    with_none b x e = omega arith

    or_none : (b c : Bool) → c ≡ false → (b || c) ≡ b
    or_none true c e = refl
    or_none false c e = e

    inside : (i : ℕ) → i ≢ f → (i < length fs) ⊎ (length fs ≤ i) → bit_at (named_set names fs) i ≡ bit_at (named_set (names ++ n ∷ []) fs) i
    inside i apart (inl li) =
        let other : bytes_eq n (slice_index_or fs i n) ≡ false = subst (λ (w : List ℕ). bytes_eq w (slice_index_or fs i n) ≡ false) here (differ fs f i n distinct (λ e. apart (sym e)) lt li) in
        bit_named names fs i n li
        ∙ ap bit (sym (has_more names n (slice_index_or fs i n) ∙ or_none (is_among names (slice_index_or fs i n)) (bytes_eq n (slice_index_or fs i n)) other))
        ∙ sym (bit_named (names ++ n ∷ []) fs i n li)
    inside i apart (inr past) = bit_past names fs i past ∙ sym (bit_past (names ++ n ∷ []) fs i past)

    lt_or_ge : (a b : ℕ) → (a < b) ⊎ (b ≤ a)
    lt_or_ge a b = grind arith

    each : (i : ℕ) → (i ≡ f) ⊎ (i ≢ f) → max (bit_at (named_set names fs) i) (bit_at (2 ^ f) i) ≡ bit_at (named_set (names ++ n ∷ []) fs) i
    each i (inl e) =
        with_one (bit_at (named_set names fs) i) (bit_at (2 ^ f) i) (bit_at-lt (named_set names fs) i) (ap (λ k. bit_at (2 ^ f) k) e ∙ bit_at-pow_same f)
        ∙ sym (ap (λ k. bit_at (named_set (names ++ n ∷ []) fs) k) e ∙ bit_named (names ++ n ∷ []) fs f n lt ∙ ap (λ w. bit (is_among (names ++ n ∷ []) w)) here ∙ ap bit (has_last names n))
    each i (inr apart) = with_none (bit_at (named_set names fs) i) (bit_at (2 ^ f) i) (bit_at-pow_other f i apart) ∙ inside i apart (lt_or_ge i (length fs))
