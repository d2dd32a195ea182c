-- Where an item of a list stands among its stretches.
use Rattle.std.proofs.Common.{◌≡◌, ℕ, zero, suc, ◌+◌, ◌-◌, ◌*◌, ◌/◌, ◌%◌, ◌<◌, ◌≤◌, ◌==◌, Bool, true, false, ◌&&◌, List, [], ◌∷◌, ◌++◌, length, get_or, Some, slice_get, slice_set, slice_range, take, drop, append-nil, refl, sym, ◌∙◌, ap, subst, arith, length-append, append_assoc}
use Rattle.std.proofs.lemmas.Bool.{eqb-true}
use Rattle.std.proofs.lemmas.Option.{slice_get_read}
use Rattle.shared_list.specs.Stretches.{are_full, joined}

both_true : (x y : Bool) → (x && y) ≡ true → (x ≡ true) × (y ≡ true)
both_true true true e = (refl, refl)
both_true true false e = absurd (let no : ⊥ = cc e in no)
both_true false y e = absurd (let no : ⊥ = cc e in no)

module _ {A : Type 0} where
  get_before : (xs ys : List A) (n : ℕ) (x : A) → slice_get xs n ≡ Some x → slice_get (xs ++ ys) n ≡ Some x
  get_before [] ys n x e = absurd (let no : ⊥ = cc e in no)
  get_before (z ∷ xs) ys zero x e = e
  get_before (z ∷ xs) ys (suc n) x e = get_before xs ys n x e

  get_behind : (xs ys : List A) (n m : ℕ) → n ≡ length xs + m → slice_get (xs ++ ys) n ≡ slice_get ys m
  get_behind [] ys n m e = let same : n ≡ m = omega (arith, e) in ap (slice_get ys) same
  get_behind (z ∷ xs) ys zero m e = absurd (let no : ⊥ = omega (arith, e) in no)
  get_behind (z ∷ xs) ys (suc n) m e = get_behind xs ys n m (omega (arith, e))

  set_before : (xs ys : List A) (n : ℕ) (x : A) → n < length xs → slice_set (xs ++ ys) n x ≡ slice_set xs n x ++ ys
  set_before [] ys n x within = absurd (let no : ⊥ = omega arith in no)
  set_before (z ∷ xs) ys zero x within = refl
  set_before (z ∷ xs) ys (suc n) x within = ap (λ w. z ∷ w) (set_before xs ys n x (omega (arith, within)))

  set_behind : (xs ys : List A) (n m : ℕ) (x : A) → n ≡ length xs + m → slice_set (xs ++ ys) n x ≡ xs ++ slice_set ys m x
  set_behind [] ys n m x e = let same : n ≡ m = omega (arith, e) in ap (λ k. slice_set ys k x) same
  set_behind (z ∷ xs) ys zero m x e = absurd (let no : ⊥ = omega (arith, e) in no)
  set_behind (z ∷ xs) ys (suc n) m x e = ap (λ w. z ∷ w) (set_behind xs ys n m x (omega (arith, e)))

  first_full : (c : List A) (cs : List (List A)) → are_full (c ∷ cs) ≡ true → length c ≡ 32
  first_full c cs full = eqb-true (length c) 32 (both_true (length c == 32) (are_full cs) full).0

  others_full : (c : List A) (cs : List (List A)) → are_full (c ∷ cs) ≡ true → are_full cs ≡ true
  others_full c cs full = (both_true (length c == 32) (are_full cs) full).1

  -- each stretch that stands in a place is full
  pub full_at : (cs : List (List A)) (k : ℕ) (c : List A) → are_full cs ≡ true → slice_get cs k ≡ Some c → length c ≡ 32
  full_at [] k c full at = absurd (let no : ⊥ = cc at in no)
  full_at (d ∷ cs) zero c full at = let same : d ≡ c = cc at in subst (λ z. length z ≡ 32) same (first_full d cs full)
  full_at (d ∷ cs) (suc k) c full at = full_at cs k c (others_full d cs full) at

  joined_length : (cs : List (List A)) → are_full cs ≡ true → length (joined cs) ≡ 32 * length cs
  joined_length [] full = refl
  joined_length (c ∷ cs) full =
      let first = first_full c cs full in
      let rest = joined_length cs (others_full c cs full) in
      length-append c (joined cs) ∙ omega (arith, first, rest)

  -- an item of a stretch
  at_stretch : (cs : List (List A)) (more : List A) (n k r : ℕ) (c : List A) (x : A) → are_full cs ≡ true → n ≡ 32 * k + r
      → slice_get cs k ≡ Some c → slice_get c r ≡ Some x → slice_get (joined cs ++ more) n ≡ Some x
  at_stretch [] more n k r c x full is at there = absurd (let no : ⊥ = cc at in no)
  at_stretch (d ∷ cs) more n zero r c x full is at there =
      let same : d ≡ c = cc at in
      let here : slice_get d r ≡ Some x = subst (λ z. slice_get z r ≡ Some x) (sym same) there in
      let place : r ≡ n = omega (arith, is) in
      get_before (d ++ joined cs) more n x (get_before d (joined cs) n x (subst (λ m. slice_get d m ≡ Some x) place here))
  at_stretch (d ∷ cs) more n (suc k) r c x full is at there =
      let first = first_full d cs full in
      let behind = at_stretch cs more (32 * k + r) k r c x (others_full d cs full) refl at there in
      let place : n ≡ length d + (32 * k + r) = omega (arith, is, first) in
      ap (λ xs. slice_get xs n) (append_assoc d (joined cs) more) ∙ get_behind d (joined cs ++ more) n (32 * k + r) place ∙ behind

  pub in_stretch : (cs : List (List A)) (more : List A) (n : ℕ) (c : List A) (x : A) → are_full cs ≡ true → n / 32 < length cs
      → c ≡ get_or cs (n / 32) c → x ≡ get_or c (n % 32) x → slice_get (joined cs ++ more) n ≡ Some x
  in_stretch cs more n c x full within at there =
      let stands = slice_get_read cs (length cs) (n / 32) c refl within at in
      let count = full_at cs (n / 32) c full stands in
      at_stretch cs more n (n / 32) (n % 32) c x full (omega arith) stands (slice_get_read c (length c) (n % 32) x refl (omega (arith, count)) there)

  -- a place behind all stretches
  pub last_place : (cs : List (List A)) (more : List A) (n : ℕ) → are_full cs ≡ true → length cs ≤ n / 32 → n < length (joined cs ++ more) → length more < 32
      → (n % 32 < length more) × (n ≡ length (joined cs) + n % 32)
  last_place cs more n full past within few =
      let stretches = joined_length cs full in
      let whole = length-append (joined cs) more in
      (omega (arith, stretches, whole, past, within, few), omega (arith, stretches, whole, past, within, few))

  pub in_last : (cs : List (List A)) (more : List A) (n : ℕ) (x : A) → are_full cs ≡ true → length cs ≤ n / 32 → n < length (joined cs ++ more) → length more < 32
      → x ≡ get_or more (n % 32) x → slice_get (joined cs ++ more) n ≡ Some x
  in_last cs more n x full past within few there =
      let place = last_place cs more n full past within few in
      get_behind (joined cs) more n (n % 32) place.1 ∙ slice_get_read more (length more) (n % 32) x refl place.0 there

  -- ---- one more item at the end

  pub pushed_last : (cs : List (List A)) (last : List A) (x : A) → joined cs ++ (last ++ x ∷ []) ≡ (joined cs ++ last) ++ x ∷ []
  pushed_last cs last x = sym (append_assoc (joined cs) last (x ∷ []))

  joined_last : (cs : List (List A)) (c : List A) → joined (cs ++ c ∷ []) ≡ joined cs ++ c
  joined_last [] c = append-nil c
  joined_last (d ∷ cs) c = ap (λ xs. d ++ xs) (joined_last cs c) ∙ sym (append_assoc d (joined cs) c)

  pub pushed_stretch : (cs : List (List A)) (last : List A) (x : A) → joined (cs ++ (last ++ x ∷ []) ∷ []) ++ [] ≡ (joined cs ++ last) ++ x ∷ []
  pushed_stretch cs last x = append-nil (joined (cs ++ (last ++ x ∷ []) ∷ [])) ∙ joined_last cs (last ++ x ∷ []) ∙ pushed_last cs last x

  pub full_pushed : (cs : List (List A)) (c : List A) → are_full cs ≡ true → length c ≡ 32 → are_full (cs ++ c ∷ []) ≡ true
  full_pushed [] c full count = subst (λ n. ((n == 32) && true) ≡ true) (sym count) refl
  full_pushed (d ∷ cs) c full count =
      let first = (both_true (length d == 32) (are_full cs) full).0 in
      subst (λ b. (b && are_full (cs ++ c ∷ [])) ≡ true) (sym first) (full_pushed cs c (others_full d cs full) count)

  -- ---- one item in place of another

  length_set : (xs : List A) (n : ℕ) (x : A) → length (slice_set xs n x) ≡ length xs
  length_set [] n x = refl
  length_set (z ∷ xs) zero x = refl
  length_set (z ∷ xs) (suc n) x = ap suc (length_set xs n x)

  full_set : (cs : List (List A)) (k : ℕ) (c : List A) → are_full cs ≡ true → length c ≡ 32 → are_full (slice_set cs k c) ≡ true
  full_set [] k c full count = refl
  full_set (d ∷ cs) zero c full count = subst (λ n. ((n == 32) && are_full cs) ≡ true) (sym count) (others_full d cs full)
  full_set (d ∷ cs) (suc k) c full count =
      let first = (both_true (length d == 32) (are_full cs) full).0 in
      subst (λ b. (b && are_full (slice_set cs k c)) ≡ true) (sym first) (full_set cs k c (others_full d cs full) count)

  set_at : (cs : List (List A)) (n k r : ℕ) (c : List A) (x : A) → are_full cs ≡ true → n ≡ 32 * k + r → r < 32 → slice_get cs k ≡ Some c
      → joined (slice_set cs k (slice_set c r x)) ≡ slice_set (joined cs) n x
  set_at [] n k r c x full is few at = absurd (let no : ⊥ = cc at in no)
  set_at (d ∷ cs) n zero r c x full is few at =
      let same : d ≡ c = cc at in
      let first = first_full d cs full in
      let place : r ≡ n = omega (arith, is) in
      let here : slice_set d n x ++ joined cs ≡ slice_set (d ++ joined cs) n x = sym (set_before d (joined cs) n x (omega (arith, first, few, place))) in
      subst (λ z. slice_set z r x ++ joined cs ≡ slice_set (d ++ joined cs) n x) same (subst (λ m. slice_set d m x ++ joined cs ≡ slice_set (d ++ joined cs) n x) (sym place) here)
  set_at (d ∷ cs) n (suc k) r c x full is few at =
      let first = first_full d cs full in
      let behind = set_at cs (32 * k + r) k r c x (others_full d cs full) refl few at in
      ap (λ xs. d ++ xs) behind ∙ sym (set_behind d (joined cs) n (32 * k + r) x (omega (arith, is, first)))

  -- the stretch with this item, in place of the stretch
  pub set_in_stretch : (cs : List (List A)) (n : ℕ) (c : List A) (x : A) → are_full cs ≡ true → n / 32 < length cs → c ≡ get_or cs (n / 32) c
      → joined (slice_set cs (n / 32) (slice_set c (n % 32) x)) ≡ slice_set (joined cs) n x
  set_in_stretch cs n c x full within at =
      set_at cs n (n / 32) (n % 32) c x full (omega arith) (omega arith) (slice_get_read cs (length cs) (n / 32) c refl within at)

  pub full_in_stretch : (cs : List (List A)) (n : ℕ) (c : List A) (x : A) → are_full cs ≡ true → n / 32 < length cs → c ≡ get_or cs (n / 32) c
      → are_full (slice_set cs (n / 32) (slice_set c (n % 32) x)) ≡ true
  full_in_stretch cs n c x full within at =
      let count = full_at cs (n / 32) c full (slice_get_read cs (length cs) (n / 32) c refl within at) in
      full_set cs (n / 32) (slice_set c (n % 32) x) full (length_set c (n % 32) x ∙ count)

  pub stretch_length : (cs : List (List A)) (n : ℕ) (c : List A) → are_full cs ≡ true → n / 32 < length cs → c ≡ get_or cs (n / 32) c → length c ≡ 32
  stretch_length cs n c full within at = full_at cs (n / 32) c full (slice_get_read cs (length cs) (n / 32) c refl within at)

  pub set_among : (cs : List (List A)) (last : List A) (n : ℕ) (x : A) → are_full cs ≡ true → n / 32 < length cs → slice_set (joined cs) n x ++ last ≡ slice_set (joined cs ++ last) n x
  set_among cs last n x full within =
      let stretches = joined_length cs full in
      sym (set_before (joined cs) last n x (omega (arith, stretches, within)))

  pub set_last : (cs : List (List A)) (last : List A) (n : ℕ) (x : A) → are_full cs ≡ true → length cs ≤ n / 32 → n < length (joined cs ++ last) → length last < 32
      → joined cs ++ slice_set last (n % 32) x ≡ slice_set (joined cs ++ last) n x
  set_last cs last n x full past within few =
      let place = last_place cs last n full past within few in
      sym (set_behind (joined cs) last n (n % 32) x place.1)

  pub count_set : (xs : List A) (n : ℕ) (x : A) (count : ℕ) → count ≡ length xs → count ≡ length (slice_set xs n x)
  count_set xs n x count is = is ∙ sym (length_set xs n x)

  -- ---- stretches of a list by their ends

  take_next : (xs : List A) (n : ℕ) (x : A) → slice_get xs n ≡ Some x → take (suc n) xs ≡ take n xs ++ x ∷ []
  take_next [] n x at = absurd (let no : ⊥ = cc at in no)
  take_next (z ∷ xs) zero x at = let same : z ≡ x = cc at in ap (λ y. y ∷ []) same
  take_next (z ∷ xs) (suc n) x at = ap (λ w. z ∷ w) (take_next xs n x at)

  get_dropped : (xs : List A) (from n k : ℕ) → n ≡ from + k → slice_get (drop from xs) k ≡ slice_get xs n
  get_dropped xs zero n k is = let same : k ≡ n = omega (arith, is) in ap (slice_get xs) same
  get_dropped [] (suc from) n k is = refl
  get_dropped (z ∷ xs) (suc from) zero k is = absurd (let no : ⊥ = omega (arith, is) in no)
  get_dropped (z ∷ xs) (suc from) (suc n) k is = get_dropped xs from n k (omega (arith, is))

  pub range_next : (xs : List A) (from n : ℕ) (x : A) → from ≤ n → slice_get xs n ≡ Some x → slice_range xs from (n + 1) ≡ slice_range xs from n ++ x ∷ []
  range_next xs from n x within at =
      let more : n + 1 - from ≡ suc (n - from) = omega (arith, within) in
      let place : n ≡ from + (n - from) = omega (arith, within) in
      ap (λ k. take k (drop from xs)) more ∙ take_next (drop from xs) (n - from) x (get_dropped xs from n (n - from) place ∙ at)

  take_all : (xs : List A) (n : ℕ) → length xs ≤ n → take n xs ≡ xs
  take_all [] zero past = refl
  take_all [] (suc n) past = refl
  take_all (z ∷ xs) zero past = absurd (let no : ⊥ = omega (arith, past) in no)
  take_all (z ∷ xs) (suc n) past = ap (λ w. z ∷ w) (take_all xs n (omega (arith, past)))

  dropped_length : (xs : List A) (n : ℕ) → length (drop n xs) ≡ length xs - n
  dropped_length xs zero = omega arith
  dropped_length [] (suc n) = omega arith
  dropped_length (z ∷ xs) (suc n) = let rest = dropped_length xs n in omega (arith, rest)

  -- all but one place
  pub ranges_around : (xs : List A) (n count : ℕ) → count ≡ length xs
      → slice_range xs 0 n ++ slice_range xs (n + 1) count ≡ take n xs ++ drop (n + 1) xs
  ranges_around xs n count is =
      let front : n - 0 ≡ n = omega arith in
      let left = dropped_length xs (n + 1) in
      let back : take (count - (n + 1)) (drop (n + 1) xs) ≡ drop (n + 1) xs = take_all (drop (n + 1) xs) (count - (n + 1)) (omega (arith, left, is)) in
      ap (λ k. take k xs ++ slice_range xs (n + 1) count) front ∙ ap (λ ys. take n xs ++ ys) back
