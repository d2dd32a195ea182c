-- Members of one name are numbered anew: what stays, and that alts rise.
use Rattle.std.proofs.Common.{◌≡◌, ℕ, zero, suc, ◌+◌, ◌<◌, ◌≤◌, Bool, true, false, not, cond, ◌&&◌, ◌||◌, ◌==◌, List, [], ◌∷◌, ◌++◌, length, map, filter, get_or, nat_lt, set, refl, sym, ap, subst, ◌∙◌, length-append, arith}
use Rattle.std.specs.List.{list_all, position_or_len, sum_by}
use Rattle.std.specs.Str.{bytes_eq}
use Rattle.std.proofs.lemmas.Bool.{and_from, and_parts, lt-ltb}
use Rattle.std.proofs.lemmas.List.Elements.{filter-append}
use Rattle.std.proofs.lemmas.List.Sums.{sum_by-cons}
use Rattle.std.proofs.lemmas.Slice.Eq.{bytes_eq-Decides}
use Rattle.cfj_model.specs.Members.{alts_rise, namesakes, placed_behind}
use Rattle.edit_ops.specs.Members.{Kind, is_member, fields, methods, renumbered}

-- a name equals itself
same_name : (w : List ℕ) → bytes_eq w w ≡ true
same_name w = (bytes_eq-Decides w w).1 refl

-- these numbers rise, each below all behind it
abbrev rise : List ℕ → Bool
rise [] = true
rise (a ∷ more) = list_all (nat_lt a) more && rise more

-- what another alt leaves: the name; and it is the alt
pub record IsKind {A : Type 0} (kind : Kind A) : Type 0 where
  pub named : (x : A) (n : ℕ) → kind.name_of (kind.with_alt x n) ≡ kind.name_of x
  pub given : (x : A) (n : ℕ) → kind.alt_of (kind.with_alt x n) ≡ n

pub fields_are : IsKind fields
fields_are = record { named = λ f n. refl; given = λ f n. refl }

pub methods_are : IsKind methods
methods_are = record { named = λ m n. refl; given = λ m n. refl }

module _ {A : Type 0} (kind : Kind A) where
  -- ---- by a count

  -- members of this name have the numbers from `k` on
  abbrev pub numbered_from : List ℕ → ℕ → List A → List A
  numbered_from n k [] = []
  numbered_from n k (x ∷ xs) = cond (bytes_eq (kind.name_of x) n) (kind.with_alt x k ∷ numbered_from n (suc k) xs) (x ∷ numbered_from n k xs)

  -- how many have a name
  abbrev count : List ℕ → List A → ℕ
  count n xs = length (filter (λ x. bytes_eq (kind.name_of x) n) xs)

  count_push : (n : List ℕ) (xs : List A) (x : A) → count n (xs ++ x ∷ []) ≡ count n xs + length (cond (bytes_eq (kind.name_of x) n) (x ∷ []) [])
  count_push n xs x =
      ap length (filter-append (λ y. bytes_eq (kind.name_of y) n) xs (x ∷ []))
      ∙ length-append (filter (λ y. bytes_eq (kind.name_of y) n) xs) (cond (bytes_eq (kind.name_of x) n) (x ∷ []) [])

  behind_count : (n : List ℕ) (before xs : List A)
      → map (λ p. cond (bytes_eq (kind.name_of p.item) n) (kind.with_alt p.item (namesakes kind.name_of p)) p.item) (placed_behind before xs) ≡ numbered_from n (count n before) xs
  behind_count n before [] = refl
  behind_count n before (x ∷ xs) = by (behind_count n (before ++ x ∷ []) xs) (bytes_eq (kind.name_of x) n) refl
    where
      others : List A
      others = map (λ p. cond (bytes_eq (kind.name_of p.item) n) (kind.with_alt p.item (namesakes kind.name_of p)) p.item) (placed_behind (before ++ x ∷ []) xs)

      by : others ≡ numbered_from n (count n (before ++ x ∷ [])) xs → (b : Bool) → bytes_eq (kind.name_of x) n ≡ b
          → cond b (kind.with_alt x (namesakes kind.name_of (record { before = before; item = x }))) x ∷ others
          ≡ cond b (kind.with_alt x (count n before) ∷ numbered_from n (suc (count n before)) xs) (x ∷ numbered_from n (count n before) xs)
      by rest true e =
          let named : kind.name_of x ≡ n = (bytes_eq-Decides (kind.name_of x) n).0 e in
          let push = count_push n before x in
          let one : length (cond (bytes_eq (kind.name_of x) n) (x ∷ []) []) ≡ 1 = ap (λ b. length (cond b (x ∷ []) [])) e in
          let more : count n (before ++ x ∷ []) ≡ suc (count n before) = omega (arith, push, one) in
          ap (λ w. kind.with_alt x (length (filter (λ y. bytes_eq (kind.name_of y) w) before)) ∷ others) named
          ∙ ap (λ ys. kind.with_alt x (count n before) ∷ ys) (rest ∙ ap (λ m. numbered_from n m xs) more)
      by rest false e =
          let push = count_push n before x in
          let none : length (cond (bytes_eq (kind.name_of x) n) (x ∷ []) []) ≡ 0 = ap (λ b. length (cond b (x ∷ []) [])) e in
          let same : count n (before ++ x ∷ []) ≡ count n before = omega (arith, push, none) in
          ap (λ ys. x ∷ ys) (rest ∙ ap (λ m. numbered_from n m xs) same)

  pub by_count : (n : List ℕ) (xs : List A) → renumbered kind n xs ≡ numbered_from n 0 xs
  by_count n xs = behind_count n [] xs

  -- ---- one after the other

  -- those behind the first `i` are numbered from `k` on
  abbrev pub rest_numbered : List ℕ → ℕ → ℕ → List A → List A
  rest_numbered n zero k xs = numbered_from n k xs
  rest_numbered n (suc i) k [] = []
  rest_numbered n (suc i) k (x ∷ xs) = x ∷ rest_numbered n i k xs

  pub rest_first : (n : List ℕ) (xs : List A) → rest_numbered n 0 0 xs ≡ numbered_from n 0 xs
  rest_first n xs = refl

  pub rest_named : (n : List ℕ) (i k : ℕ) (xs : List A) (d : A) → i < length xs → bytes_eq (kind.name_of (get_or xs i d)) n ≡ true
      → rest_numbered n i k xs ≡ rest_numbered n (suc i) (suc k) (set xs i (kind.with_alt (get_or xs i d) k))
  rest_named n i k [] d within is = absurd (omega (arith, within))
  rest_named n zero k (x ∷ xs) d within is = ap (λ b. cond b (kind.with_alt x k ∷ numbered_from n (suc k) xs) (x ∷ numbered_from n k xs)) is
  rest_named n (suc i) k (x ∷ xs) d within is = ap (λ ys. x ∷ ys) (rest_named n i k xs d (omega (arith, within)) is)

  pub rest_other : (n : List ℕ) (i k : ℕ) (xs : List A) (d : A) → i < length xs → bytes_eq (kind.name_of (get_or xs i d)) n ≡ false
      → rest_numbered n i k xs ≡ rest_numbered n (suc i) k xs
  rest_other n i k [] d within is = absurd (omega (arith, within))
  rest_other n zero k (x ∷ xs) d within is = ap (λ b. cond b (kind.with_alt x k ∷ numbered_from n (suc k) xs) (x ∷ numbered_from n k xs)) is
  rest_other n (suc i) k (x ∷ xs) d within is = ap (λ ys. x ∷ ys) (rest_other n i k xs d (omega (arith, within)) is)

  pub rest_none : (n : List ℕ) (i k : ℕ) (xs : List A) → length xs ≤ i → rest_numbered n i k xs ≡ xs
  rest_none n zero k [] past = refl
  rest_none n zero k (x ∷ xs) past = absurd (omega (arith, past))
  rest_none n (suc i) k [] past = refl
  rest_none n (suc i) k (x ∷ xs) past = ap (λ ys. x ∷ ys) (rest_none n i k xs (omega (arith, past)))

  -- ---- what stays

  pub numbered_length : (n : List ℕ) (k : ℕ) (xs : List A) → length (numbered_from n k xs) ≡ length xs
  numbered_length n k [] = refl
  numbered_length n k (x ∷ xs) = by (numbered_length n (suc k) xs) (numbered_length n k xs) (bytes_eq (kind.name_of x) n)
    where
      by : length (numbered_from n (suc k) xs) ≡ length xs → length (numbered_from n k xs) ≡ length xs → (b : Bool)
          → length (cond b (kind.with_alt x k ∷ numbered_from n (suc k) xs) (x ∷ numbered_from n k xs)) ≡ suc (length xs)
      by next same true = ap suc next
      by next same false = ap suc same

  -- a test that doesn't look at alts
  pub numbered_all : (test : A → Bool) → ((x : A) (m : ℕ) → test (kind.with_alt x m) ≡ test x) → (n : List ℕ) (k : ℕ) (xs : List A)
      → list_all test (numbered_from n k xs) ≡ list_all test xs
  numbered_all test same n k [] = refl
  numbered_all test same n k (x ∷ xs) = by (numbered_all test same n (suc k) xs) (numbered_all test same n k xs) (bytes_eq (kind.name_of x) n)
    where
      by : list_all test (numbered_from n (suc k) xs) ≡ list_all test xs → list_all test (numbered_from n k xs) ≡ list_all test xs → (b : Bool)
          → list_all test (cond b (kind.with_alt x k ∷ numbered_from n (suc k) xs) (x ∷ numbered_from n k xs)) ≡ (test x && list_all test xs)
      by next rest true = ap (λ b. b && list_all test (numbered_from n (suc k) xs)) (same x k) ∙ ap (λ b. test x && b) next
      by next rest false = ap (λ b. test x && b) rest

  -- a sum that doesn't look at them
  pub numbered_sum : (f : A → ℕ) → ((x : A) (m : ℕ) → f (kind.with_alt x m) ≡ f x) → (n : List ℕ) (k : ℕ) (xs : List A)
      → sum_by f (numbered_from n k xs) ≡ sum_by f xs
  numbered_sum f same n k [] = refl
  numbered_sum f same n k (x ∷ xs) = by (numbered_sum f same n (suc k) xs) (numbered_sum f same n k xs) (bytes_eq (kind.name_of x) n)
    where
      by : sum_by f (numbered_from n (suc k) xs) ≡ sum_by f xs → sum_by f (numbered_from n k xs) ≡ sum_by f xs → (b : Bool)
          → sum_by f (cond b (kind.with_alt x k ∷ numbered_from n (suc k) xs) (x ∷ numbered_from n k xs)) ≡ sum_by f (x ∷ xs)
      by next rest true =
          let l = sum_by-cons f (kind.with_alt x k) (numbered_from n (suc k) xs) in
          let r = sum_by-cons f x xs in
          omega (arith, l, r, same x k, next)
      by next rest false =
          let l = sum_by-cons f x (numbered_from n k xs) in
          let r = sum_by-cons f x xs in
          omega (arith, l, r, rest)

  -- ---- alts, name by name

  abbrev pub alts_of : List ℕ → List A → List ℕ
  alts_of w [] = []
  alts_of w (x ∷ xs) = cond (bytes_eq (kind.name_of x) w) (kind.alt_of x ∷ alts_of w xs) (alts_of w xs)

  -- the alts of this name rise
  abbrev pub Rises : List ℕ → List A → Type 0
  Rises w xs = rise (alts_of w xs) ≡ true

  abbrev pub names_and_alts : List A → List (List ℕ × ℕ)
  names_and_alts xs = map (λ x. (kind.name_of x, kind.alt_of x)) xs

  later : (w : List ℕ) (a : ℕ) (xs : List A) → list_all (λ m. not (bytes_eq m.0 w) || nat_lt a m.1) (names_and_alts xs) ≡ list_all (nat_lt a) (alts_of w xs)
  later w a [] = refl
  later w a (x ∷ xs) = by (later w a xs) (bytes_eq (kind.name_of x) w)
    where
      by : list_all (λ m. not (bytes_eq m.0 w) || nat_lt a m.1) (names_and_alts xs) ≡ list_all (nat_lt a) (alts_of w xs) → (b : Bool)
          → ((not b || nat_lt a (kind.alt_of x)) && list_all (λ m. not (bytes_eq m.0 w) || nat_lt a m.1) (names_and_alts xs))
          ≡ list_all (nat_lt a) (cond b (kind.alt_of x ∷ alts_of w xs) (alts_of w xs))
      by rest true = ap (λ b. nat_lt a (kind.alt_of x) && b) rest
      by rest false = rest

  pub to_each : (xs : List A) → alts_rise (names_and_alts xs) ≡ true → (w : List ℕ) → Rises w xs
  to_each [] all w = refl
  to_each (x ∷ xs) all w =
      let parts = and_parts (list_all (λ m. not (bytes_eq m.0 (kind.name_of x)) || nat_lt (kind.alt_of x) m.1) (names_and_alts xs)) (alts_rise (names_and_alts xs)) all in
      by parts.0 (to_each xs parts.1 w) (bytes_eq (kind.name_of x) w) refl
    where
      by : list_all (λ m. not (bytes_eq m.0 (kind.name_of x)) || nat_lt (kind.alt_of x) m.1) (names_and_alts xs) ≡ true → rise (alts_of w xs) ≡ true
          → (b : Bool) → bytes_eq (kind.name_of x) w ≡ b → rise (cond b (kind.alt_of x ∷ alts_of w xs) (alts_of w xs)) ≡ true
      by here rest true e =
          let named : kind.name_of x ≡ w = (bytes_eq-Decides (kind.name_of x) w).0 e in
          and_from (list_all (nat_lt (kind.alt_of x)) (alts_of w xs)) (rise (alts_of w xs))
          (ap (λ v. list_all (nat_lt (kind.alt_of x)) (alts_of v xs)) (sym named) ∙ sym (later (kind.name_of x) (kind.alt_of x) xs) ∙ here)
          rest
      by here rest false e = rest

  pub from_each : (xs : List A) → ((w : List ℕ) → Rises w xs) → alts_rise (names_and_alts xs) ≡ true
  from_each [] each = refl
  from_each (x ∷ xs) each =
      let own = ap (λ b. rise (cond b (kind.alt_of x ∷ alts_of (kind.name_of x) xs) (alts_of (kind.name_of x) xs))) (sym (same_name (kind.name_of x))) ∙ each (kind.name_of x) in
      let parts = and_parts (list_all (nat_lt (kind.alt_of x)) (alts_of (kind.name_of x) xs)) (rise (alts_of (kind.name_of x) xs)) own in
      and_from (list_all (λ m. not (bytes_eq m.0 (kind.name_of x)) || nat_lt (kind.alt_of x) m.1) (names_and_alts xs)) (alts_rise (names_and_alts xs))
      (later (kind.name_of x) (kind.alt_of x) xs ∙ parts.0)
      (from_each xs (λ w. behind w (bytes_eq (kind.name_of x) w) (each w)))
    where
      behind : (w : List ℕ) (b : Bool) → rise (cond b (kind.alt_of x ∷ alts_of w xs) (alts_of w xs)) ≡ true → rise (alts_of w xs) ≡ true
      behind w true h = (and_parts (list_all (nat_lt (kind.alt_of x)) (alts_of w xs)) (rise (alts_of w xs)) h).1
      behind w false h = h

  module _ (is : IsKind kind) where
    -- the alts of other names stay
    others_stay : (n w : List ℕ) (k : ℕ) (xs : List A) → bytes_eq n w ≡ false → alts_of w (numbered_from n k xs) ≡ alts_of w xs
    others_stay n w k [] apart = refl
    others_stay n w k (x ∷ xs) apart = by (others_stay n w (suc k) xs apart) (others_stay n w k xs apart) (bytes_eq (kind.name_of x) n) refl
      where
        by : alts_of w (numbered_from n (suc k) xs) ≡ alts_of w xs → alts_of w (numbered_from n k xs) ≡ alts_of w xs → (b : Bool) → bytes_eq (kind.name_of x) n ≡ b
            → alts_of w (cond b (kind.with_alt x k ∷ numbered_from n (suc k) xs) (x ∷ numbered_from n k xs))
            ≡ cond (bytes_eq (kind.name_of x) w) (kind.alt_of x ∷ alts_of w xs) (alts_of w xs)
        by next rest true e =
            let named : kind.name_of x ≡ n = (bytes_eq-Decides (kind.name_of x) n).0 e in
            let other : bytes_eq (kind.name_of x) w ≡ false = ap (λ v. bytes_eq v w) named ∙ apart in
            let new_other : bytes_eq (kind.name_of (kind.with_alt x k)) w ≡ false = ap (λ v. bytes_eq v w) (is.named x k) ∙ other in
            let numbered = alts_of w (numbered_from n (suc k) xs) in
            ap (λ b. cond b (kind.alt_of (kind.with_alt x k) ∷ numbered) numbered) new_other
            ∙ next
            ∙ ap (λ b. cond b (kind.alt_of x ∷ alts_of w xs) (alts_of w xs)) (sym other)
        by next rest false e = ap (λ more. cond (bytes_eq (kind.name_of x) w) (kind.alt_of x ∷ more) more) rest

    -- and those of the name itself are numbers from `k` on
    all_above : (n : List ℕ) (j k : ℕ) (xs : List A) → j < k → list_all (nat_lt j) (alts_of n (numbered_from n k xs)) ≡ true
    all_above n j k [] below = refl
    all_above n j k (x ∷ xs) below = by (all_above n j (suc k) xs (omega (arith, below))) (all_above n j k xs below) (bytes_eq (kind.name_of x) n) refl
      where
        by : list_all (nat_lt j) (alts_of n (numbered_from n (suc k) xs)) ≡ true → list_all (nat_lt j) (alts_of n (numbered_from n k xs)) ≡ true → (b : Bool) → bytes_eq (kind.name_of x) n ≡ b
            → list_all (nat_lt j) (alts_of n (cond b (kind.with_alt x k ∷ numbered_from n (suc k) xs) (x ∷ numbered_from n k xs))) ≡ true
        by next rest true e =
            let numbered = alts_of n (numbered_from n (suc k) xs) in
            ap (λ b. list_all (nat_lt j) (cond b (kind.alt_of (kind.with_alt x k) ∷ numbered) numbered)) (ap (λ v. bytes_eq v n) (is.named x k) ∙ e)
            ∙ and_from (nat_lt j (kind.alt_of (kind.with_alt x k))) (list_all (nat_lt j) numbered)
            (lt-ltb j (kind.alt_of (kind.with_alt x k)) (subst (λ m. j < m) (sym (is.given x k)) below))
            next
        by next rest false e =
            let numbered = alts_of n (numbered_from n k xs) in
            ap (λ b. list_all (nat_lt j) (cond b (kind.alt_of x ∷ numbered) numbered)) e ∙ rest

    own_rise : (n : List ℕ) (k : ℕ) (xs : List A) → Rises n (numbered_from n k xs)
    own_rise n k [] = refl
    own_rise n k (x ∷ xs) = by (own_rise n (suc k) xs) (own_rise n k xs) (bytes_eq (kind.name_of x) n) refl
      where
        by : Rises n (numbered_from n (suc k) xs) → Rises n (numbered_from n k xs) → (b : Bool) → bytes_eq (kind.name_of x) n ≡ b
            → rise (alts_of n (cond b (kind.with_alt x k ∷ numbered_from n (suc k) xs) (x ∷ numbered_from n k xs))) ≡ true
        by next rest true e =
            let numbered = alts_of n (numbered_from n (suc k) xs) in
            ap (λ b. rise (cond b (kind.alt_of (kind.with_alt x k) ∷ numbered) numbered)) (ap (λ v. bytes_eq v n) (is.named x k) ∙ e)
            ∙ and_from (list_all (nat_lt (kind.alt_of (kind.with_alt x k))) numbered) (rise numbered)
            (ap (λ m. list_all (nat_lt m) numbered) (is.given x k) ∙ all_above n k (suc k) xs (omega arith))
            next
        by next rest false e =
            let numbered = alts_of n (numbered_from n k xs) in
            ap (λ b. rise (cond b (kind.alt_of x ∷ numbered) numbered)) e ∙ rest

    -- where the alts of the other names rise, all rise
    pub renumbered_rises : (n w : List ℕ) (xs : List A) → (bytes_eq n w ≡ false → Rises w xs) → Rises w (renumbered kind n xs)
    renumbered_rises n w xs rises = by (bytes_eq n w) refl
      where
        by : (b : Bool) → bytes_eq n w ≡ b → Rises w (renumbered kind n xs)
        by true e =
            let named : n ≡ w = (bytes_eq-Decides n w).0 e in
            subst (λ v. Rises v (renumbered kind n xs)) named (ap (λ ys. rise (alts_of n ys)) (by_count n xs) ∙ own_rise n 0 xs)
        by false e = ap (λ ys. rise (alts_of w ys)) (by_count n xs) ∙ ap rise (others_stay n w 0 xs e) ∙ rises e

  -- ---- fewer members

  all_fewer : (test : ℕ → Bool) (w : List ℕ) (keeps : A → Bool) (xs : List A) → list_all test (alts_of w xs) ≡ true → list_all test (alts_of w (filter keeps xs)) ≡ true
  all_fewer test w keeps [] all = refl
  all_fewer test w keeps (x ∷ xs) all = by (all_fewer test w keeps xs) (keeps x) (bytes_eq (kind.name_of x) w) refl all
    where
      by : (list_all test (alts_of w xs) ≡ true → list_all test (alts_of w (filter keeps xs)) ≡ true)
          → (kept b : Bool) → bytes_eq (kind.name_of x) w ≡ b → list_all test (cond b (kind.alt_of x ∷ alts_of w xs) (alts_of w xs)) ≡ true
          → list_all test (alts_of w (cond kept (x ∷ filter keeps xs) (filter keeps xs))) ≡ true
      by rest true true e h =
          let parts = and_parts (test (kind.alt_of x)) (list_all test (alts_of w xs)) h in
          ap (λ b. list_all test (cond b (kind.alt_of x ∷ alts_of w (filter keeps xs)) (alts_of w (filter keeps xs)))) e
          ∙ and_from (test (kind.alt_of x)) (list_all test (alts_of w (filter keeps xs))) parts.0 (rest parts.1)
      by rest true false e h = ap (λ b. list_all test (cond b (kind.alt_of x ∷ alts_of w (filter keeps xs)) (alts_of w (filter keeps xs)))) e ∙ rest h
      by rest false true e h = rest (and_parts (test (kind.alt_of x)) (list_all test (alts_of w xs)) h).1
      by rest false false e h = rest h

  pub fewer_rise : (w : List ℕ) (keeps : A → Bool) (xs : List A) → Rises w xs → Rises w (filter keeps xs)
  fewer_rise w keeps [] rises = refl
  fewer_rise w keeps (x ∷ xs) rises = by (fewer_rise w keeps xs) (keeps x) (bytes_eq (kind.name_of x) w) refl rises
    where
      by : (Rises w xs → Rises w (filter keeps xs)) → (kept b : Bool) → bytes_eq (kind.name_of x) w ≡ b → rise (cond b (kind.alt_of x ∷ alts_of w xs) (alts_of w xs)) ≡ true
          → rise (alts_of w (cond kept (x ∷ filter keeps xs) (filter keeps xs))) ≡ true
      by rest true true e h =
          let parts = and_parts (list_all (nat_lt (kind.alt_of x)) (alts_of w xs)) (rise (alts_of w xs)) h in
          ap (λ b. rise (cond b (kind.alt_of x ∷ alts_of w (filter keeps xs)) (alts_of w (filter keeps xs)))) e
          ∙ and_from (list_all (nat_lt (kind.alt_of x)) (alts_of w (filter keeps xs))) (rise (alts_of w (filter keeps xs)))
          (all_fewer (nat_lt (kind.alt_of x)) w keeps xs parts.0) (rest parts.1)
      by rest true false e h = ap (λ b. rise (cond b (kind.alt_of x ∷ alts_of w (filter keeps xs)) (alts_of w (filter keeps xs)))) e ∙ rest h
      by rest false true e h = rest (and_parts (list_all (nat_lt (kind.alt_of x)) (alts_of w xs)) (rise (alts_of w xs)) h).1
      by rest false false e h = rest h

  -- ---- one more member

  pub more_rise : (w : List ℕ) (xs : List A) (x : A) → bytes_eq (kind.name_of x) w ≡ false → Rises w xs → Rises w (xs ++ x ∷ [])
  more_rise w xs x other rises = ap rise (same xs) ∙ rises
    where
      same : (ys : List A) → alts_of w (ys ++ x ∷ []) ≡ alts_of w ys
      same [] = ap (λ b. cond b (kind.alt_of x ∷ []) []) other
      same (y ∷ ys) = ap (λ more. cond (bytes_eq (kind.name_of y) w) (kind.alt_of y ∷ more) more) (same ys)

  -- ---- another member

  pub other_alts : (w n : List ℕ) (alt : ℕ) (x : A) → bytes_eq n w ≡ false → bytes_eq (kind.name_of x) w ≡ false
      → (xs : List A) (place : ℕ) → position_or_len (is_member kind n alt) xs ≡ place → alts_of w (set xs place x) ≡ alts_of w xs
  other_alts w n alt x apart other [] place first = refl
  other_alts w n alt x apart other (y ∷ ys) place first = by (other_alts w n alt x apart other ys) (is_member kind n alt y) refl place first
    where
      by : ((p : ℕ) → position_or_len (is_member kind n alt) ys ≡ p → alts_of w (set ys p x) ≡ alts_of w ys)
          → (b : Bool) → is_member kind n alt y ≡ b → (p : ℕ) → cond (not b) (1 + position_or_len (is_member kind n alt) ys) 0 ≡ p
          → alts_of w (set (y ∷ ys) p x) ≡ cond (bytes_eq (kind.name_of y) w) (kind.alt_of y ∷ alts_of w ys) (alts_of w ys)
      by rest true e zero is =
          let named : kind.name_of y ≡ n = (bytes_eq-Decides (kind.name_of y) n).0 (and_parts (bytes_eq (kind.name_of y) n) (kind.alt_of y == alt) e).0 in
          ap (λ b. cond b (kind.alt_of x ∷ alts_of w ys) (alts_of w ys)) other
          ∙ ap (λ b. cond b (kind.alt_of y ∷ alts_of w ys) (alts_of w ys)) (sym (ap (λ v. bytes_eq v w) named ∙ apart))
      by rest true e (suc p) is = absurd (let no : ⊥ = omega (arith, is) in no)
      by rest false e zero is = absurd (let no : ⊥ = omega (arith, is) in no)
      by rest false e (suc p) is =
          let behind : position_or_len (is_member kind n alt) ys ≡ p = omega (arith, is) in
          ap (λ more. cond (bytes_eq (kind.name_of y) w) (kind.alt_of y ∷ more) more) (rest p behind)

  pub rises_alike : (w : List ℕ) (xs ys : List A) → alts_of w xs ≡ alts_of w ys → Rises w ys → Rises w xs
  rises_alike w xs ys same rises = ap rise same ∙ rises
