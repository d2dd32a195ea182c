-- Lengths and ranks: sequences without labels, and what a common front means for them.
use Rattle.std.proofs.Common.{◌≡◌, ℕ, ◌+◌, ◌-◌, ◌<◌, ◌≤◌, Bool, true, false, not, ◌&&◌, ◌==◌, cond, ◌⊎◌, inl, inr, List, [], ◌∷◌, ◌++◌, length, map, filter, take, drop, get_or, Some, slice_get, refl, sym, ◌∙◌, ap, ap₂, subst, arith, length-append, zero, suc}
use Rattle.std.proofs.Math.Dec.{eqb-suc-zero, eqb-zero-suc, eqb-suc-suc}
use Rattle.std.proofs.lemmas.Bool.{ne_eqb}
use Rattle.std.proofs.lemmas.Bool.Decides.{eqb_tells}
use Rattle.std.proofs.lemmas.List.{take-append-drop, drop-take, take-map, get_or-take}
use Rattle.std.proofs.lemmas.List.Elements.{filter-append, All-map}
use Rattle.std.proofs.lemmas.List.Filters.{length-filter_more}
use Rattle.std.specs.Cmp.Lexicographic.{pointwise}
use Rattle.cond_circuit.specs.Gates.{Gates}
use Rattle.guarded_seq.specs.declared.guarded.Guarded.{Guarded}
use Rattle.guarded_seq.specs.Rows.{blank}
use Rattle.guarded_seq.specs.Sequences.{AreInside, present, gates_of, labels_differ, lengths_differ, rank, is_matched}
use Rattle.guarded_seq.proofs.SequenceLaws.{present_cons}

-- ---- lengths

counted : {T : Type 0} (b : Bool) (x : T) (g : ℕ) (xs : List T) (gs : List ℕ) → length xs ≡ length gs → length (cond b (x ∷ xs) xs) ≡ length (cond b (g ∷ gs) gs)
counted true x g xs gs same = ap suc same
counted false x g xs gs same = same

-- so many items are present as gates are true
pub length_present : {T : Type 0} (on : ℕ → Bool) (xs : List (Guarded T)) → length (present on xs) ≡ length (filter on (gates_of xs))
length_present on [] = refl
length_present on (x ∷ xs) = ap length (present_cons on x xs) ∙ counted (on x.gate) x.item x.gate (present on xs) (filter on (gates_of xs)) (length_present on xs)

-- without labels lists are equal where their lengths are
all_alike : {A B : Type 0} (xs : List A) (ys : List B) → pointwise (λ _ _. true) xs ys ≡ (length xs == length ys)
all_alike [] [] = refl
all_alike [] (y ∷ ys) = sym (eqb-zero-suc (length ys))
all_alike (x ∷ xs) [] = sym (eqb-suc-zero (length xs))
all_alike (x ∷ xs) (y ∷ ys) = all_alike xs ys ∙ sym (eqb-suc-suc (length xs) (length ys))

pub gates_blank : {T : Type 0} (xs : List (Guarded T)) → gates_of (map blank xs) ≡ gates_of xs
gates_blank [] = refl
gates_blank (x ∷ xs) = ap (λ gs. x.gate ∷ gs) (gates_blank xs)

blank_length : {T : Type 0} (on : ℕ → Bool) (xs : List (Guarded T)) → length (present on (map blank xs)) ≡ length (present on xs)
blank_length on xs = length_present on (map blank xs) ∙ ap (λ gs. length (filter on gs)) (gates_blank xs) ∙ sym (length_present on xs)

pub blanks_law : {A B : Type 0} (on : ℕ → Bool) (left : List (Guarded A)) (right : List (Guarded B)) → labels_differ (λ _ _. true) on (map blank left) (map blank right) ≡ lengths_differ on left right
blanks_law on left right =
    ap not (all_alike (present on (map blank left)) (present on (map blank right)) ∙ ap₂ (λ n m. n == m) (blank_length on left) (blank_length on right))

-- items without labels have their gates
pub inside_blanks : {T : Type 0} (c : Gates) (items : List (Guarded T)) → AreInside c items → AreInside c (map blank items)
inside_blanks c items inside = All-map (λ (g : Guarded Unit). g.gate < length c.parts) blank items inside

-- ---- ranks

rank_present : {T : Type 0} (on : ℕ → Bool) (xs : List (Guarded T)) (i : ℕ) → length (present on (take i xs)) ≡ rank on (gates_of xs) i
rank_present {T} on xs i = length_present on (take i xs) ∙ ap (λ gs. length (filter on gs)) (sym (take-map (λ (g : Guarded T). g.gate) i xs))

-- a cell of the table of sequences without labels compares two ranks
pub ranks_law : (on : ℕ → Bool) (left right : List (Guarded Unit)) (i k : ℕ) → labels_differ (λ _ _. true) on (take i left) (take k right) ≡ not (rank on (gates_of left) i == rank on (gates_of right) k)
ranks_law on left right i k = ap not (all_alike (present on (take i left)) (present on (take k right)) ∙ ap₂ (λ n m. n == m) (rank_present on left i) (rank_present on right k))

item_behind : {T : Type 0} (b : Bool) (y : T) (g : ℕ) (ys : List T) (gs : List ℕ) (x : T) → slice_get ys (length gs) ≡ Some x → slice_get (cond b (y ∷ ys) ys) (length (cond b (g ∷ gs) gs)) ≡ Some x
item_behind true y g ys gs x is = is
item_behind false y g ys gs x is = is

-- a present item stands at its rank in the sequence that remains
pub item_at_rank : {T : Type 0} (on : ℕ → Bool) (xs : List (Guarded T)) (i : ℕ) (x : Guarded T) → slice_get xs i ≡ Some x → on x.gate ≡ true → slice_get (present on xs) (rank on (gates_of xs) i) ≡ Some x.item
item_at_rank on [] i x is here = absurd (let none : ⊥ = cc is in none)
item_at_rank {T} on (y ∷ ys) zero x is here =
    let same : y ≡ x = cc is in
    ap (λ r. slice_get r 0) (present_cons on y ys ∙ ap (λ b. cond b (y.item ∷ present on ys) (present on ys)) (ap (λ (g : Guarded T). on g.gate) same ∙ here))
    ∙ ap (λ (g : Guarded T). Some g.item) same
item_at_rank on (y ∷ ys) (suc i) x is here =
    ap (λ r. slice_get r (rank on (gates_of (y ∷ ys)) (suc i))) (present_cons on y ys)
    ∙ item_behind (on y.gate) y.item y.gate (present on ys) (filter on (take i (gates_of ys))) x.item (item_at_rank on ys i x is here)

-- ---- a common front

pub take_take : {A : Type 0} (i n : ℕ) (xs : List A) → i ≤ n → take i (take n xs) ≡ take i xs
take_take zero n xs le = refl
take_take (suc i) zero xs le = absurd (let none : ⊥ = omega (arith, le) in none)
take_take (suc i) (suc n) [] le = refl
take_take (suc i) (suc n) (x ∷ xs) le = ap (λ r. x ∷ r) (take_take i n xs (omega (arith, le)))

eqb_shift : (a x y : ℕ) → ((a + x) == (a + y)) ≡ (x == y)
eqb_shift a x y = elim (eqb_tells x y) as (λ _. ((a + x) == (a + y)) ≡ (x == y)) [
  | inl same ↦ ap (λ z. (a + x) == (a + z)) (sym same.1) ∙ eqb_same (a + x) ∙ sym same.0
  | inr apart ↦ ne_eqb (a + x) (a + y) (λ e. apart.1 (omega (arith, e))) ∙ sym apart.0
]
  where
    eqb_same : (n : ℕ) → (n == n) ≡ true
    eqb_same n = elim (eqb_tells n n) as (λ _. (n == n) ≡ true) [
      | inl same ↦ same.0
      | inr apart ↦ absurd (apart.1 refl)
    ]

pub self_equal : (a b : ℕ) → a ≡ b → (a == b) ≡ true
self_equal a b same = elim (eqb_tells a b) as (λ _. (a == b) ≡ true) [
  | inl h ↦ h.0
  | inr apart ↦ absurd (apart.1 same)
]

-- a rank behind a place counts what is before the place too
rank_behind : (on : ℕ → Bool) (gates : List ℕ) (f j : ℕ) → rank on gates (f + j) ≡ length (filter on (take f gates)) + rank on (drop f gates) j
rank_behind on gates f j =
    let split : take (f + j) gates ≡ take f gates ++ take j (drop f gates) =
    sym (take-append-drop f (take (f + j) gates)) ∙ ap₂ (λ v w. v ++ w) (take_take f (f + j) gates (omega arith)) (drop-take f j gates) in
    ap (λ r. length (filter on r)) split
    ∙ ap length (filter-append on (take f gates) (take j (drop f gates)))
    ∙ length-append (filter on (take f gates)) (filter on (take j (drop f gates)))

-- behind a common front ranks are compared without it
pub front_ranks : (on : ℕ → Bool) (left right : List ℕ) (f i k : ℕ) → take f left ≡ take f right →
    (rank on left (f + i) == rank on right (f + k)) ≡ (rank on (drop f left) i == rank on (drop f right) k)
front_ranks on left right f i k same =
    ap₂ (λ n m. n == m) (rank_behind on left f i) (rank_behind on right f k ∙ ap (λ r. length (filter on r) + rank on (drop f right) k) (sym same))
    ∙ eqb_shift (length (filter on (take f left))) (rank on (drop f left) i) (rank on (drop f right) k)

rank_rises : (on : ℕ → Bool) (gates : List ℕ) (i j : ℕ) → rank on gates i ≤ rank on gates (i + j)
rank_rises on gates i j = omega (arith, rank_behind on gates i j)

-- behind a present item the rank is higher
rank_above : (on : ℕ → Bool) (gates : List ℕ) (i k : ℕ) → i < length gates → i < k → on (get_or gates i 0) ≡ true → rank on gates i < rank on gates k
rank_above on gates i k inside below here =
    let more : rank on gates (i + 1) ≡ rank on gates i + 1 = length-filter_more on gates i 0 inside ∙ ap (λ b. rank on gates i + cond b 1 0) here in
    let rest : (i + 1) + (k - (i + 1)) ≡ k = omega arith in
    let rises : rank on gates (i + 1) ≤ rank on gates k = subst (λ n. rank on gates (i + 1) ≤ rank on gates n) rest (rank_rises on gates (i + 1) (k - (i + 1))) in
    omega (arith, more, rises)

both_off : (b c : Bool) → b ≡ false → ((b && c) ≡ false)
both_off b c off = ap (λ x. x && c) off

last_off : (b c : Bool) → c ≡ false → ((b && c) ≡ false)
last_off true c off = off
last_off false c off = refl

module _ (left right : List ℕ) (f : ℕ) (same : take f left ≡ take f right) where
  pub gates_same : (i : ℕ) → i < f → get_or left i 0 ≡ get_or right i 0
  gates_same i below = sym (get_or-take f left i 0 below) ∙ ap (λ r. get_or r i 0) same ∙ get_or-take f right i 0 below

  takes_same : (i : ℕ) → i ≤ f → take i left ≡ take i right
  takes_same i le = sym (take_take i f left le) ∙ ap (take i) same ∙ take_take i f right le

  -- at one place of the front both items match where they are present
  pub front_together : (on : ℕ → Bool) (i : ℕ) → i < f → on (get_or left i 0) ≡ is_matched on left i right i
  front_together on i below = go (on (get_or left i 0)) (ap on (gates_same i below))
    where
      ranks : (rank on left i == rank on right i) ≡ true
      ranks = self_equal (rank on left i) (rank on right i) (ap (λ r. length (filter on r)) (takes_same i (omega (arith, below))))

      go : (b : Bool) → b ≡ on (get_or right i 0) → b ≡ ((b && on (get_or right i 0)) && (rank on left i == rank on right i))
      go true e = ap₂ (λ v w. v && w) e (sym ranks)
      go false e = refl

  -- at two places of which one lies in the front no items match
  front_left : (on : ℕ → Bool) (i k : ℕ) → i < f → i < k → f ≤ length right → is_matched on left i right k ≡ false
  front_left on i k low below within = go (on (get_or left i 0)) refl
    where
      go : (b : Bool) → on (get_or left i 0) ≡ b → ((b && on (get_or right k 0)) && (rank on left i == rank on right k)) ≡ false
      go false e = refl
      go true e =
          let here : on (get_or right i 0) ≡ true = ap on (sym (gates_same i low)) ∙ e in
          let level : rank on left i ≡ rank on right i = ap (λ r. length (filter on r)) (takes_same i (omega (arith, low))) in
          let above : rank on right i < rank on right k = rank_above on right i k (omega (arith, low, within)) below here in
          last_off (on (get_or right k 0)) (rank on left i == rank on right k) (ne_eqb (rank on left i) (rank on right k) (λ same_rank. omega (arith, level, above, same_rank)))

  front_right : (on : ℕ → Bool) (i k : ℕ) → k < f → k < i → f ≤ length left → is_matched on left i right k ≡ false
  front_right on i k low below within = go (on (get_or right k 0)) refl
    where
      go : (b : Bool) → on (get_or right k 0) ≡ b → ((on (get_or left i 0) && b) && (rank on left i == rank on right k)) ≡ false
      go false e = both_off (on (get_or left i 0) && false) (rank on left i == rank on right k) (last_off (on (get_or left i 0)) false refl)
      go true e =
          let here : on (get_or left k 0) ≡ true = ap on (gates_same k low) ∙ e in
          let level : rank on left k ≡ rank on right k = ap (λ r. length (filter on r)) (takes_same k (omega (arith, low))) in
          let above : rank on left k < rank on left i = rank_above on left k i (omega (arith, low, within)) below here in
          last_off (on (get_or left i 0) && true) (rank on left i == rank on right k) (ne_eqb (rank on left i) (rank on right k) (λ same_rank. omega (arith, level, above, same_rank)))

  pub front_apart : (on : ℕ → Bool) (i k : ℕ) → (i ≡ k → ⊥) → (i < f) ⊎ (k < f) → f ≤ length left → f ≤ length right → is_matched on left i right k ≡ false
  front_apart on i k apart low in_left in_right = elim (lt_or_ge i k) as (λ _. is_matched on left i right k ≡ false) [
    | inl below ↦ front_left on i k (elim low as (λ _. i < f) [ inl a ↦ a | inr b ↦ omega (arith, below, b) ]) below in_right
    | inr above ↦ front_right on i k (elim low as (λ _. k < f) [ inl a ↦ omega (arith, above, a) | inr b ↦ b ]) (grind arith) in_left
  ]
    where
      lt_or_ge : (a b : ℕ) → (a < b) ⊎ (b ≤ a)
      lt_or_ge a b = grind arith
