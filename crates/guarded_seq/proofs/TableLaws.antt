-- Tables of ranks: that rows make one, that it stays one while gates are added, and what its cells say of matches.
use Rattle.std.proofs.Common.{◌≡◌, ℕ, ◌+◌, ◌-◌, ◌<◌, ◌≤◌, Bool, true, false, not, ◌&&◌, ◌==◌, cond, min, ◌⊎◌, inl, inr, List, [], ◌∷◌, length, map, filter, take, drop, ◌++◌, get_or, All, Result, IfOk, refl, sym, ◌∙◌, ap, ap₂, subst, arith, length-append, zero, suc}
use Rattle.std.proofs.Math.Seq.{get_or-append_seam}
use Rattle.std.proofs.lemmas.Bool.{eqb-true}
use Rattle.std.proofs.lemmas.List.{take-map, get_or-map, get_or-take, get_or_default, get_or_append_left, map-append, length-map, length-drop}
use Rattle.std.proofs.lemmas.List.Elements.{All-take, All-map}
use Rattle.std.specs.Cmp.Lexicographic.{pointwise}
use Rattle.cfj_logic.specs.Selections.{Chosen}
use Rattle.cond_circuit.specs.Gates.{Gates, Grown, Is, value}
use Rattle.cond_circuit.proofs.FormulaGates.{same_worth}
use Rattle.cond_circuit.proofs.ValueLemmas.{Grown-value, Grown-inside, Is-grown}
use Rattle.guarded_seq.specs.declared.guarded.Guarded.{Guarded}
use Rattle.guarded_seq.specs.Ranks.{Ranks, AreRanks, rank_cell}
use Rattle.guarded_seq.specs.Rows.{AreRows, IsRow, is_same}
use Rattle.guarded_seq.specs.Sequences.{AreInside, gates_of, labels_differ, rank, is_matched}
use Rattle.guarded_seq.proofs.CellLaws.{before_or_last, cells_grown}
use Rattle.guarded_seq.proofs.RankLaws.{ranks_law, front_ranks, front_together, front_apart, take_take}
use Rattle.guarded_seq.proofs.SequenceLaws.{first_of, second_of}

-- each gate of the list is one of the circuit
abbrev Inside : Gates → List ℕ → Type 0
Inside c gates = All (λ g. g < length c.parts) gates

pub inside_gates : {T : Type 0} (c : Gates) (items : List (Guarded T)) → AreInside c items → Inside c (gates_of items)
inside_gates {T} c items inside = All-map (λ (g : ℕ). g < length c.parts) (λ (g : Guarded T). g.gate) items inside

pub inside_grown : {T : Type 0} (old new : Gates) (items : List (Guarded T)) → Grown old new → AreInside old items → AreInside new items
inside_grown old new items grown inside = λ k d below. Grown-inside old new (get_or items k d).gate grown (inside k d below)

-- ---- the values of gates stay

filter_same : (p q : ℕ → Bool) (xs : List ℕ) → All (λ x. p x ≡ q x) xs → filter p xs ≡ filter q xs
filter_same p q [] same = refl
filter_same p q (x ∷ xs) same =
    let here : p x ≡ q x = same 0 x (omega arith) in
    let rest = filter_same p q xs (λ k d below. same (suc k) d (omega (arith, below))) in
    λ i. cond (here i) (x ∷ rest i) (rest i)

module _ (old new : Gates) (grown : Grown old new) (s : Chosen) where
  values_same : (gates : List ℕ) → Inside old gates → All (λ g. value s new.parts g ≡ value s old.parts g) gates
  values_same gates inside = λ k d below. Grown-value old new s (get_or gates k d) grown (inside k d below)

  pub rank_same : (gates : List ℕ) (i : ℕ) → Inside old gates → rank (value s new.parts) gates i ≡ rank (value s old.parts) gates i
  rank_same gates i inside =
      ap length (filter_same (value s new.parts) (value s old.parts) (take i gates) (values_same (take i gates) (All-take (λ (g : ℕ). g < length old.parts) i gates inside)))

  pub matched_same : (left right : List ℕ) (i k : ℕ) → Inside old left → Inside old right → i < length left → k < length right →
      is_matched (value s new.parts) left i right k ≡ is_matched (value s old.parts) left i right k
  matched_same left right i k in_left in_right here there = λ j.
      (values_same left in_left i 0 here j && values_same right in_right k 0 there j) && (rank_same left i in_left j == rank_same right k in_right j)

pub AreRanks-grown : (old new : Gates) (t : Ranks) → Grown old new → AreRanks old t → AreRanks new t
AreRanks-grown old new t grown is = record {
  left = λ k d below. Grown-inside old new (get_or t.left k d) grown (is.left k d below);
  right = λ k d below. Grown-inside old new (get_or t.right k d) grown (is.right k d below);
  front = is.front;
  short = is.short;
  many = is.many;
  wide = is.wide;
  cells = λ i k from_i in_left from_k in_right.
      let cell = Is-grown old new (rank_cell t i k) (λ s. not (rank (value s old.parts) t.left i == rank (value s old.parts) t.right k)) grown (is.cells i k from_i in_left from_k in_right) in
      record {
        inside = cell.inside;
        worth = λ s. cell.worth s ∙ ap₂ (λ n m. not (n == m)) (sym (rank_same old new grown s t.left i is.left)) (sym (rank_same old new grown s t.right k is.right));
      };
}

-- ---- rows make a table

drop-map : {A B : Type 0} (f : A → B) (n : ℕ) (xs : List A) → drop n (map f xs) ≡ map f (drop n xs)
drop-map f zero xs = refl
drop-map f (suc n) [] = refl
drop-map f (suc n) (x ∷ xs) = drop-map f n xs

same_gates : {T : Type 0} (E : T → T → Bool) (xs ys : List (Guarded T)) → pointwise (is_same E) xs ys ≡ true → gates_of xs ≡ gates_of ys
same_gates E [] [] same = refl
same_gates E [] (y ∷ ys) same = absurd (let none : ⊥ = cc same in none)
same_gates E (x ∷ xs) [] same = absurd (let none : ⊥ = cc same in none)
same_gates E (x ∷ xs) (y ∷ ys) same =
    let here = first_of (is_same E x y) (pointwise (is_same E) xs ys) same in
    ap₂ (λ v w. v ∷ w) (eqb-true x.gate y.gate (first_of (x.gate == y.gate) (E x.item y.item) here))
    (same_gates E xs ys (second_of (is_same E x y) (pointwise (is_same E) xs ys) same))

pub table_made : (first now : Gates) (left right : List (Guarded Unit)) (f : ℕ) (rows : List (List ℕ)) → Grown first now → AreInside first left → AreInside first right →
    f ≤ length left → f ≤ length right → pointwise (is_same (λ _ _. true)) (take f left) (take f right) ≡ true → length (drop f left) ≤ length rows →
    AreRows first now (drop f left) (drop f right) rows →
    AreRanks now (record { left = gates_of left; right = gates_of right; front = f; rows = rows })
table_made first now left right f rows grown in_left in_right short_left short_right same many made = record {
  left = λ k d below. Grown-inside first now (get_or (gates_of left) k d) grown (inside_gates first left in_left k d below);
  right = λ k d below. Grown-inside first now (get_or (gates_of right) k d) grown (inside_gates first right in_right k d below);
  front = front;
  short = (omega (arith, short_left, many_left), omega (arith, short_right, many_right));
  many = omega (arith, many, many_left, length-drop f left);
  wide = λ k d below.
      let long = (made.each k below).long in
      let wide : length (gates_of right) ≤ f + length (get_or rows k []) = omega (arith, long, many_right, length-drop f right) in
      subst (λ (row : List ℕ). length (gates_of right) ≤ f + length row) (get_or_default rows k [] d below) wide;
  cells = λ i k from_i below_i from_k below_k.
      let in_rows : i - f < length rows = omega (arith, from_i, below_i, many, many_left, length-drop f left) in
      let row = made.each (i - f) in_rows in
      let in_row : k - f < length (get_or rows (i - f) []) = omega (arith, from_k, below_k, row.long, many_right, length-drop f right) in
      let cell = row.each (k - f) in_row in
      let at_i : f + (i - f) ≡ i = omega (arith, from_i) in
      let at_k : f + (k - f) ≡ k = omega (arith, from_k) in
      record {
        inside = cell.inside;
        worth = λ s.
            let on = value s first.parts in
            cell.worth s
            ∙ ranks_law on (drop f left) (drop f right) (i - f) (k - f)
            ∙ ap₂ (λ v w. not (rank on v (i - f) == rank on w (k - f))) (sym (drop-map (λ (g : Guarded Unit). g.gate) f left)) (sym (drop-map (λ (g : Guarded Unit). g.gate) f right))
            ∙ ap not (sym (front_ranks on (gates_of left) (gates_of right) f (i - f) (k - f) front))
            ∙ ap₂ (λ n m. not (rank on (gates_of left) n == rank on (gates_of right) m)) at_i at_k
            ∙ ap₂ (λ n m. not (n == m)) (sym (rank_same first now grown s (gates_of left) i (inside_gates first left in_left))) (sym (rank_same first now grown s (gates_of right) k (inside_gates first right in_right)));
      };
}
  where
    many_left : length (gates_of left) ≡ length left
    many_left = length-map left (λ g. g.gate)

    many_right : length (gates_of right) ≡ length right
    many_right = length-map right (λ g. g.gate)

    front : take f (gates_of left) ≡ take f (gates_of right)
    front =
        take-map (λ (g : Guarded Unit). g.gate) f left
        ∙ same_gates (λ _ _. true) (take f left) (take f right) same
        ∙ sym (take-map (λ (g : Guarded Unit). g.gate) f right)

-- the same, where the facts are of lists that are equal to these
pub table_from : (first now : Gates) (left right a b d e : List (Guarded Unit)) (f n : ℕ) (rows : List (List ℕ)) → Grown first now → AreInside first left → AreInside first right →
    a ≡ left → b ≡ right → d ≡ drop f left → e ≡ drop f right → n ≡ length rows → f ≤ length a → f ≤ length b → pointwise (is_same (λ _ _. true)) (take f a) (take f b) ≡ true →
    length d ≤ n → AreRows first now d e rows → AreRanks now (record { left = gates_of left; right = gates_of right; front = f; rows = rows })
table_from first now left right a b d e f n rows grown in_left in_right a_is b_is d_is e_is n_is short_a short_b same many made =
    table_made first now left right f rows grown in_left in_right (subst (λ (xs : List (Guarded Unit)). f ≤ length xs) a_is short_a) (subst (λ (xs : List (Guarded Unit)). f ≤ length xs) b_is short_b)
    (ap₂ (λ xs ys. pointwise (is_same (λ _ _. true)) (take f xs) (take f ys)) (sym a_is) (sym b_is) ∙ same)
    (subst (λ (xs : List (Guarded Unit)). length xs ≤ length rows) d_is (subst (λ (m : ℕ). length d ≤ m) n_is many))
    (subst (λ (xs : List (Guarded Unit)). AreRows first now xs (drop f right) rows) d_is (subst (λ (ys : List (Guarded Unit)). AreRows first now d ys rows) e_is made))

-- ---- lists of rows

module _ (first now : Gates) (left right : List (Guarded Unit)) where
  -- a row of the table of sequences without labels
  abbrev Row : ℕ → List ℕ → Type 0
  Row i row = IsRow (λ _ _. true) first now left i right row

  rows_push : (rows : List (List ℕ)) (row : List ℕ) → AreRows first now left right rows → Row (length rows) row → AreRows first now left right (rows ++ row ∷ [])
  rows_push rows row above last = record { each = λ i below. go i (before_or_last i (length rows) (omega (arith, below, length-append rows (row ∷ [])))) }
    where
      go : (i : ℕ) → (i < length rows) ⊎ (i ≡ length rows) → Row i (get_or (rows ++ row ∷ []) i [])
      go i (inl front) = subst (λ (r : List ℕ). Row i r) (sym (get_or_append_left rows (row ∷ []) [] i front)) (above.each i front)
      go i (inr end) =
          subst (λ (n : ℕ). Row n (get_or (rows ++ row ∷ []) n [])) (sym end) (subst (λ (r : List ℕ). Row (length rows) r) (sym (get_or-append_seam rows row [] [])) last)

  pub rows_first : {V : Type 0} (items : V → List ℕ) (rows : List V) (v : V) → rows ≡ v ∷ [] → Row 0 (items v) → AreRows first now left right (map items rows)
  rows_first {V} items rows v is row = subst (λ (vs : List V). AreRows first now left right (map items vs)) (sym is) (record { each = go })
    where
      go : (i : ℕ) → i < 1 → Row i (get_or (items v ∷ []) i [])
      go zero below = row
      go (suc i) below = absurd (let none : ⊥ = omega (arith, below) in none)

  pub rows_next : {V : Type 0} (items : V → List ℕ) (old : Gates) (rows more : List V) (v : V) (i : ℕ) → Grown old now → more ≡ rows ++ v ∷ [] → length rows ≡ i + 1 →
      AreRows first old left right (map items rows) → Row (i + 1) (items v) → AreRows first now left right (map items more)
  rows_next {V} items old rows more v i grown is many above row =
      let kept : AreRows first now left right (map items rows) = record {
        each = λ k below. cells_grown old now (get_or (map items rows) k []) (length right + 1) (λ j s. labels_differ (λ _ _. true) (value s first.parts) (take k left) (take j right)) grown (above.each k below);
      } in
      let count : i + 1 ≡ length (map items rows) = sym (length-map rows items ∙ many) in
      subst (λ (rs : List (List ℕ)). AreRows first now left right rs) (sym (ap (map items) is ∙ map-append items rows (v ∷ [])))
      (rows_push (map items rows) (items v) kept (subst (λ (n : ℕ). Row n (items v)) count row))

  pub row_read : {V : Type 0} (items : V → List ℕ) (rows : List V) (i : ℕ) (v : V) → i < length rows → v ≡ get_or rows i v → AreRows first now left right (map items rows) → Row i (items v)
  row_read items rows i v below is above =
      subst (λ (r : List ℕ). Row i r) (get_or-map items rows i v [] below ∙ ap items (sym is)) (above.each i (omega (arith, below, length-map rows items)))

-- ---- matches

-- a match looks at nothing behind its places
pub matched_take : (on : ℕ → Bool) (left right : List ℕ) (i k : ℕ) → is_matched on (take (i + 1) left) i (take (k + 1) right) k ≡ is_matched on left i right k
matched_take on left right i k = λ j.
    (on (get_or-take (i + 1) left i 0 (omega arith) j) && on (get_or-take (k + 1) right k 0 (omega arith) j))
    && (length (filter on (take_take i (i + 1) left (omega arith) j)) == length (filter on (take_take k (k + 1) right (omega arith) j)))

not_not : (b : Bool) → not (not b) ≡ b
not_not true = refl
not_not false = refl

-- behind the front: both items, and a cell that isn't true
pub matched_worth : {E : Type 0} (r : Result ℕ E) (old new : Gates) (t : Ranks) (i k g h cell : ℕ) → AreRanks old t → t.front ≤ i → i < length t.left → t.front ≤ k → k < length t.right →
    g ≡ get_or t.left i 0 → h ≡ get_or t.right k 0 → cell ≡ rank_cell t i k →
    IfOk r (λ m. Is new m (λ s. (value s old.parts g && value s old.parts h) && not (value s old.parts cell))) →
    IfOk r (λ m. Is new m (λ s. is_matched (value s old.parts) t.left i t.right k))
matched_worth r old new t i k g h cell is from_i in_left from_k in_right is_g is_h is_cell =
    same_worth r new (λ s. (value s old.parts g && value s old.parts h) && not (value s old.parts cell)) (λ s. is_matched (value s old.parts) t.left i t.right k)
    (λ s.
    let level = rank (value s old.parts) t.left i == rank (value s old.parts) t.right k in
    let apart : value s old.parts cell ≡ not level = ap (value s old.parts) is_cell ∙ (is.cells i k from_i in_left from_k in_right).worth s in
    (λ j. (value s old.parts (is_g j) && value s old.parts (is_h j)) && not (apart j))
    ∙ ap (λ b. (value s old.parts (get_or t.left i 0) && value s old.parts (get_or t.right k 0)) && b) (not_not level))

-- in the front: the item itself
pub front_here : (c : Gates) (t : Ranks) (i k g : ℕ) → AreRanks c t → i ≡ k → min i k < t.front → i < length t.left → g ≡ get_or t.left i 0 →
    Is c g (λ s. is_matched (value s c.parts) t.left i t.right k)
front_here c t i k g is same low inside gate =
    let below : i < t.front = omega (arith, same, low) in
    record {
      inside = subst (λ (h : ℕ). h < length c.parts) (sym gate) (is.left i 0 inside);
      worth = λ s.
          ap (value s c.parts) gate
          ∙ front_together t.left t.right t.front is.front (value s c.parts) i below
          ∙ ap (λ n. is_matched (value s c.parts) t.left i t.right n) same;
    }

-- the lower of two places is one of them
lower : (i k f : ℕ) → min i k < f → (i < f) ⊎ (k < f)
lower i k f low = grind arith

-- and nothing else
pub front_none : (c : Gates) (t : Ranks) (i k g : ℕ) → AreRanks c t → (i ≡ k → ⊥) → min i k < t.front → Is c g (λ s. false) →
    Is c g (λ s. is_matched (value s c.parts) t.left i t.right k)
front_none c t i k g is apart low none = record {
  inside = none.inside;
  worth = λ s. none.worth s ∙ sym (front_apart t.left t.right t.front is.front (value s c.parts) i k apart (lower i k t.front low) is.short.0 is.short.1);
}

-- the places of a cell are in the table
pub cell_inside : (c : Gates) (t : Ranks) (i k : ℕ) → AreRanks c t → t.front ≤ i → i < length t.left → t.front ≤ k → k < length t.right →
    (i - t.front < length t.rows) × (k - t.front < length (get_or t.rows (i - t.front) []))
cell_inside c t i k is from_i in_left from_k in_right =
    let row : i - t.front < length t.rows = omega (arith, from_i, in_left, is.many) in
    let wide = is.wide (i - t.front) [] row in
    (row, omega (arith, from_k, in_right, wide))
