-- What remains of sequences: how two of them differ, by their items one after another.
use Rattle.std.proofs.Common.{◌≡◌, ℕ, ◌<◌, ◌≤◌, Bool, true, false, not, ◌&&◌, ◌||◌, ◌==◌, cond, List, [], ◌∷◌, ◌++◌, length, map, filter, take, drop, Some, slice_get, refl, sym, ◌∙◌, ap, ap₂, arith, append_assoc, zero, suc}
use Rattle.std.proofs.lemmas.Bool.{eqb-true}
use Rattle.std.proofs.lemmas.List.{append-nil, map-append, take-append-drop}
use Rattle.std.proofs.lemmas.List.Elements.{filter-append}
use Rattle.std.specs.Cmp.Lexicographic.{pointwise}
use Rattle.guarded_seq.specs.declared.guarded.Guarded.{Guarded}
use Rattle.guarded_seq.specs.Rows.{first_value, next_value, is_same}
use Rattle.guarded_seq.specs.Sequences.{present, labels_differ}

-- ---- truth tables

or_true : (a : Bool) → true ≡ (a || true)
or_true true = refl
or_true false = refl

or_false : (a : Bool) → a ≡ (a || false)
or_false true = refl
or_false false = refl

and_true : (a : Bool) → (a && true) ≡ a
and_true true = refl
and_true false = refl

and_false : (a : Bool) → (a && false) ≡ false
and_false true = refl
and_false false = refl

and_assoc : (a b c : Bool) → (a && (b && c)) ≡ ((a && b) && c)
and_assoc true b c = refl
and_assoc false b c = refl

-- where two items are added, the lists differ if the items or the lists do
differ_more : (a b : Bool) → not (a && b) ≡ (not b || not a)
differ_more true true = refl
differ_more true false = refl
differ_more false true = refl
differ_more false false = refl

pub first_of : (a b : Bool) → (a && b) ≡ true → a ≡ true
first_of true b h = refl
first_of false b h = absurd (let none : ⊥ = cc h in none)

pub second_of : (a b : Bool) → (a && b) ≡ true → b ≡ true
second_of true b h = h
second_of false b h = absurd (let none : ⊥ = cc h in none)

-- ---- lists compared pair by pair

module _ {A B : Type 0} (E : A → B → Bool) where
  none_snoc : (ys : List B) (y : B) → pointwise E [] (ys ++ y ∷ []) ≡ false
  none_snoc [] y = refl
  none_snoc (b ∷ ys) y = refl

  snoc_none : (xs : List A) (x : A) → pointwise E (xs ++ x ∷ []) [] ≡ false
  snoc_none [] x = refl
  snoc_none (a ∷ xs) x = refl

  pub pointwise_snoc : (xs : List A) (ys : List B) (x : A) (y : B) → pointwise E (xs ++ x ∷ []) (ys ++ y ∷ []) ≡ (pointwise E xs ys && E x y)
  pointwise_snoc [] [] x y = and_true (E x y)
  pointwise_snoc [] (b ∷ ys) x y = ap (λ r. E x b && r) (none_snoc ys y) ∙ and_false (E x b)
  pointwise_snoc (a ∷ xs) [] x y = ap (λ r. E a y && r) (snoc_none xs x) ∙ and_false (E a y)
  pointwise_snoc (a ∷ xs) (b ∷ ys) x y = ap (λ r. E a b && r) (pointwise_snoc xs ys x y) ∙ and_assoc (E a b) (pointwise E xs ys) (E x y)

  -- one more item on both sides, each of which may be absent
  both_more : (xs : List A) (ys : List B) (x : A) (y : B) (g h : Bool) →
      not (pointwise E (xs ++ cond g (x ∷ []) []) (ys ++ cond h (y ∷ []) []))
      ≡ cond g (cond h (not (E x y) || not (pointwise E xs ys)) (not (pointwise E (xs ++ cond g (x ∷ []) []) ys))) (not (pointwise E xs (ys ++ cond h (y ∷ []) [])))
  both_more xs ys x y true true = ap not (pointwise_snoc xs ys x y) ∙ differ_more (pointwise E xs ys) (E x y)
  both_more xs ys x y true false = ap (λ r. not (pointwise E (xs ++ x ∷ []) r)) (append-nil ys)
  both_more xs ys x y false h = ap (λ r. not (pointwise E r (ys ++ cond h (y ∷ []) []))) (append-nil xs)

  -- one more on the left, and none on the right
  left_more : (xs : List A) (x : A) (g : Bool) → not (pointwise E (xs ++ cond g (x ∷ []) []) []) ≡ (not (pointwise E xs []) || g)
  left_more xs x true = ap not (snoc_none xs x) ∙ or_true (not (pointwise E xs []))
  left_more xs x false = ap (λ r. not (pointwise E r [])) (append-nil xs) ∙ or_false (not (pointwise E xs []))

  right_more : (ys : List B) (y : B) (h : Bool) → not (pointwise E [] (ys ++ cond h (y ∷ []) [])) ≡ (not (pointwise E [] ys) || h)
  right_more ys y true = ap not (none_snoc ys y) ∙ or_true (not (pointwise E [] ys))
  right_more ys y false = ap (λ r. not (pointwise E [] r)) (append-nil ys) ∙ or_false (not (pointwise E [] ys))

-- ---- what remains

pub take_snoc : {T : Type 0} (xs : List T) (i : ℕ) (x : T) → slice_get xs i ≡ Some x → take (suc i) xs ≡ take i xs ++ x ∷ []
take_snoc [] i x is = absurd (let none : ⊥ = cc is in none)
take_snoc (y ∷ ys) zero x is = let same : y ≡ x = cc is in ap (λ z. z ∷ []) same
take_snoc (y ∷ ys) (suc i) x is = ap (λ r. y ∷ r) (take_snoc ys i x is)

-- below its length a list has an item
pub there : {T : Type 0} (xs : List T) (i : ℕ) → i < length xs → (x : T) × (slice_get xs i ≡ Some x)
there [] i below = absurd (let none : ⊥ = omega (arith, below) in none)
there (x ∷ xs) zero below = (x, refl)
there (x ∷ xs) (suc i) below = there xs i (omega (arith, below))

module _ {T : Type 0} (on : ℕ → Bool) where
  pub present_append : (xs ys : List (Guarded T)) → present on (xs ++ ys) ≡ present on xs ++ present on ys
  present_append xs ys = ap (λ (r : List (Guarded T)). map (λ g. g.item) r) (filter-append (λ (g : Guarded T). on g.gate) xs ys) ∙ map-append (λ (g : Guarded T). g.item) (filter (λ (g : Guarded T). on g.gate) xs) (filter (λ (g : Guarded T). on g.gate) ys)

  one_kept : (b : Bool) (x : Guarded T) → map (λ (g : Guarded T). g.item) (cond b (x ∷ []) []) ≡ cond b (x.item ∷ []) []
  one_kept true x = refl
  one_kept false x = refl

  more_kept : (b : Bool) (x : Guarded T) (xs : List (Guarded T)) → map (λ (g : Guarded T). g.item) (cond b (x ∷ xs) xs) ≡ cond b (x.item ∷ map (λ (g : Guarded T). g.item) xs) (map (λ (g : Guarded T). g.item) xs)
  more_kept true x xs = refl
  more_kept false x xs = refl

  present_one : (x : Guarded T) → present on (x ∷ []) ≡ cond (on x.gate) (x.item ∷ []) []
  present_one x = one_kept (on x.gate) x

  pub present_cons : (x : Guarded T) (xs : List (Guarded T)) → present on (x ∷ xs) ≡ cond (on x.gate) (x.item ∷ present on xs) (present on xs)
  present_cons x xs = more_kept (on x.gate) x (filter (λ (g : Guarded T). on g.gate) xs)

  present_snoc : (xs : List (Guarded T)) (x : Guarded T) → present on (xs ++ x ∷ []) ≡ present on xs ++ cond (on x.gate) (x.item ∷ []) []
  present_snoc xs x = present_append xs (x ∷ []) ∙ ap (λ r. present on xs ++ r) (present_one x)

  pub present_more : (xs : List (Guarded T)) (i : ℕ) (x : Guarded T) → slice_get xs i ≡ Some x → present on (take (suc i) xs) ≡ present on (take i xs) ++ cond (on x.gate) (x.item ∷ []) []
  present_more xs i x is = ap (present on) (take_snoc xs i x is) ∙ present_snoc (take i xs) x

-- ---- the table of differences

module _ {T : Type 0} (E : T → T → Bool) (on : ℕ → Bool) (left right : List (Guarded T)) where
  -- whether the first i and the first j items differ
  abbrev differ : ℕ → ℕ → Bool
  differ i j = labels_differ E on (take i left) (take j right)

  differ_edge : (i : ℕ) (x : Guarded T) → slice_get left i ≡ Some x → differ (suc i) 0 ≡ (differ i 0 || on x.gate)
  differ_edge i x is = ap (λ r. not (pointwise E r [])) (present_more on left i x is) ∙ left_more E (present on (take i left)) x.item (on x.gate)

  differ_first : (j : ℕ) (y : Guarded T) → slice_get right j ≡ Some y → differ 0 (suc j) ≡ (differ 0 j || on y.gate)
  differ_first j y is = ap (λ r. not (pointwise E [] r)) (present_more on right j y is) ∙ right_more E (present on (take j right)) y.item (on y.gate)

  differ_cell : (i j : ℕ) (x y : Guarded T) → slice_get left i ≡ Some x → slice_get right j ≡ Some y →
      differ (suc i) (suc j) ≡ cond (on x.gate) (cond (on y.gate) (not (E x.item y.item) || differ i j) (differ (suc i) j)) (differ i (suc j))
  differ_cell i j x y is also =
      let a = present on (take i left) in
      let b = present on (take j right) in
      let p = present_more on left i x is in
      let q = present_more on right j y also in
      ap₂ (λ v w. not (pointwise E v w)) p q
      ∙ both_more E a b x.item y.item (on x.gate) (on y.gate)
      ∙ ap₂ (λ v w. cond (on x.gate) (cond (on y.gate) (not (E x.item y.item) || not (pointwise E a b)) (not (pointwise E v b))) (not (pointwise E a w))) (sym p) (sym q)

  pub first_law : (h : ℕ → Bool) → ((k : ℕ) (y : Guarded T) → slice_get right k ≡ Some y → h k ≡ on y.gate) → (j : ℕ) → j ≤ length right → first_value h j ≡ differ 0 j
  first_law h same zero le = refl
  first_law h same (suc j) le =
      let y = there right j (omega (arith, le)) in
      ap₂ (λ v w. v || w) (first_law h same j (omega (arith, le))) (same j y.0 y.1) ∙ sym (differ_first j y.0 y.1)

  pub next_law : (i : ℕ) (x : Guarded T) → slice_get left i ≡ Some x → (g : Bool) (h e above : ℕ → Bool) → g ≡ on x.gate →
      ((k : ℕ) (y : Guarded T) → slice_get right k ≡ Some y → h k ≡ on y.gate) →
      ((k : ℕ) (y : Guarded T) → slice_get right k ≡ Some y → e k ≡ E x.item y.item) →
      ((k : ℕ) → k ≤ length right → above k ≡ differ i k) → (j : ℕ) → j ≤ length right → next_value g h e above j ≡ differ (suc i) j
  next_law i x is g h e above here gates labels up zero le = ap₂ (λ v w. v || w) (up 0 le) here ∙ sym (differ_edge i x is)
  next_law i x is g h e above here gates labels up (suc j) le =
      let y = there right j (omega (arith, le)) in
      let low : j ≤ length right = omega (arith, le) in
      let rest = next_law i x is g h e above here gates labels up j low in
      (λ k. cond (here k) (cond (gates j y.0 y.1 k) (not (labels j y.0 y.1 k) || up j low k) (rest k)) (up (suc j) le k))
      ∙ sym (differ_cell i j x y.0 is y.1)

-- ---- common ends

module _ {T : Type 0} (E : T → T → Bool) (on : ℕ → Bool) where
  cons_same : (b : Bool) (x y : T) (xs ys : List T) → E x y ≡ true → not (pointwise E (cond b (x ∷ xs) xs) (cond b (y ∷ ys) ys)) ≡ not (pointwise E xs ys)
  cons_same true x y xs ys same = ap (λ r. not (r && pointwise E xs ys)) same
  cons_same false x y xs ys same = refl

  strip_front : (xs ys us vs : List (Guarded T)) → pointwise (is_same E) xs ys ≡ true → labels_differ E on (xs ++ us) (ys ++ vs) ≡ labels_differ E on us vs
  strip_front [] [] us vs same = refl
  strip_front [] (y ∷ ys) us vs same = absurd (let none : ⊥ = cc same in none)
  strip_front (x ∷ xs) [] us vs same = absurd (let none : ⊥ = cc same in none)
  strip_front (x ∷ xs) (y ∷ ys) us vs same =
      let here = first_of (is_same E x y) (pointwise (is_same E) xs ys) same in
      let gates : x.gate ≡ y.gate = eqb-true x.gate y.gate (first_of (x.gate == y.gate) (E x.item y.item) here) in
      ap₂ (λ v w. not (pointwise E v w)) (present_cons on x (xs ++ us)) (present_cons on y (ys ++ vs) ∙ ap (λ g. cond (on g) (y.item ∷ present on (ys ++ vs)) (present on (ys ++ vs))) (sym gates))
      ∙ cons_same (on x.gate) x.item y.item (present on (xs ++ us)) (present on (ys ++ vs)) (second_of (x.gate == y.gate) (E x.item y.item) here)
      ∙ strip_front xs ys us vs (second_of (is_same E x y) (pointwise (is_same E) xs ys) same)

  snoc_same : (b : Bool) (x y : T) (xs ys : List T) → E x y ≡ true → not (pointwise E (xs ++ cond b (x ∷ []) []) (ys ++ cond b (y ∷ []) [])) ≡ not (pointwise E xs ys)
  snoc_same true x y xs ys same = ap not (pointwise_snoc E xs ys x y ∙ ap (λ r. pointwise E xs ys && r) same ∙ and_true (pointwise E xs ys))
  snoc_same false x y xs ys same = ap₂ (λ v w. not (pointwise E v w)) (append-nil xs) (append-nil ys)

  strip_back : (us vs xs ys : List (Guarded T)) → pointwise (is_same E) xs ys ≡ true → labels_differ E on (us ++ xs) (vs ++ ys) ≡ labels_differ E on us vs
  strip_back us vs [] [] same = ap₂ (labels_differ E on) (append-nil us) (append-nil vs)
  strip_back us vs [] (y ∷ ys) same = absurd (let none : ⊥ = cc same in none)
  strip_back us vs (x ∷ xs) [] same = absurd (let none : ⊥ = cc same in none)
  strip_back us vs (x ∷ xs) (y ∷ ys) same =
      let here = first_of (is_same E x y) (pointwise (is_same E) xs ys) same in
      let gates : x.gate ≡ y.gate = eqb-true x.gate y.gate (first_of (x.gate == y.gate) (E x.item y.item) here) in
      ap₂ (labels_differ E on) (sym (append_assoc us (x ∷ []) xs)) (sym (append_assoc vs (y ∷ []) ys))
      ∙ strip_back (us ++ x ∷ []) (vs ++ y ∷ []) xs ys (second_of (is_same E x y) (pointwise (is_same E) xs ys) same)
      ∙ ap₂ (λ v w. not (pointwise E v w)) (present_snoc on us x) (present_snoc on vs y ∙ ap (λ g. present on vs ++ cond (on g) (y.item ∷ []) []) (sym gates))
      ∙ snoc_same (on x.gate) x.item y.item (present on us) (present on vs) (second_of (x.gate == y.gate) (E x.item y.item) here)

  pub front_law : (n : ℕ) (left right : List (Guarded T)) → pointwise (is_same E) (take n left) (take n right) ≡ true → labels_differ E on left right ≡ labels_differ E on (drop n left) (drop n right)
  front_law n left right same =
      ap₂ (labels_differ E on) (sym (take-append-drop n left)) (sym (take-append-drop n right))
      ∙ strip_front (take n left) (take n right) (drop n left) (drop n right) same

  pub back_law : (n m : ℕ) (left right : List (Guarded T)) → pointwise (is_same E) (drop n left) (drop m right) ≡ true → labels_differ E on left right ≡ labels_differ E on (take n left) (take m right)
  back_law n m left right same =
      ap₂ (labels_differ E on) (sym (take-append-drop n left)) (sym (take-append-drop m right))
      ∙ strip_back (take n left) (take m right) (drop n left) (drop m right) same
