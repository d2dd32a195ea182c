-- Gates of cells: how they are made, and lists of them.
use Rattle.std.proofs.Common.{◌≡◌, ℕ, ◌+◌, ◌<◌, Bool, true, false, not, ◌&&◌, ◌||◌, cond, ◌⊎◌, inl, inr, List, [], ◌∷◌, ◌++◌, length, get_or, All, Result, IfOk, refl, sym, ◌∙◌, ap, ap₂, subst, arith, length-append, zero, suc}
use Rattle.std.proofs.Math.Numerals.{suc-eq-add-one}
use Rattle.std.proofs.Math.Seq.{get_or-append_seam}
use Rattle.std.proofs.lemmas.List.{get_or_append_left, get_or_default}
use Rattle.cfj_logic.specs.Selections.{Chosen}
use Rattle.cond_circuit.specs.Gates.{Gates, Grown, Is, value}
use Rattle.cond_circuit.proofs.FormulaGates.{same_worth}
use Rattle.cond_circuit.proofs.ValueLemmas.{Grown-trans, Grown-value, Is-grown}
use Rattle.guarded_seq.specs.Rows.{AreCells, first_cells, next_cells}

cond_same : (b c : Bool) → c ≡ cond b c c
cond_same true c = refl
cond_same false c = refl

cond_table : (b c d : Bool) → ((b && c) || (not b && d)) ≡ cond b c d
cond_table true true d = refl
cond_table true false true = refl
cond_table true false false = refl
cond_table false c d = refl

-- one of two equal gates is chosen
pub same_chosen : (c : Gates) (t y n : ℕ) → y < length c.parts → y ≡ n → Is c y (λ s. cond (value s c.parts t) (value s c.parts y) (value s c.parts n))
same_chosen c t y n inside same = record {
  inside = inside;
  worth = λ s. cond_same (value s c.parts t) (value s c.parts y) ∙ ap (λ g. cond (value s c.parts t) (value s c.parts y) (value s c.parts g)) same;
}

pub choose_worth : {E : Type 0} (r : Result ℕ E) (c0 c1 c2 c3 new : Gates) (t y n both fails other : ℕ) → t < length c0.parts → n < length c0.parts →
    Grown c0 c1 → Grown c1 c2 → Grown c2 c3 →
    Is c1 both (λ s. value s c0.parts t && value s c0.parts y) → Is c2 fails (λ s. not (value s c1.parts t)) → Is c3 other (λ s. value s c2.parts fails && value s c2.parts n) →
    IfOk r (λ g. Is new g (λ s. value s c3.parts both || value s c3.parts other)) → IfOk r (λ g. Is new g (λ s. cond (value s c0.parts t) (value s c0.parts y) (value s c0.parts n)))
choose_worth r c0 c1 c2 c3 new t y n both fails other lt ln g1 g2 g3 w1 w2 w3 =
    same_worth r new (λ s. value s c3.parts both || value s c3.parts other) (λ s. cond (value s c0.parts t) (value s c0.parts y) (value s c0.parts n))
    (λ s.
    let holds : value s c3.parts both ≡ (value s c0.parts t && value s c0.parts y) = Grown-value c1 c3 s both (Grown-trans c1 c2 c3 g2 g3) w1.inside ∙ w1.worth s in
    let not_t : value s c2.parts fails ≡ not (value s c0.parts t) = w2.worth s ∙ ap not (Grown-value c0 c1 s t g1 lt) in
    let keeps : value s c2.parts n ≡ value s c0.parts n = Grown-value c0 c2 s n (Grown-trans c0 c1 c2 g1 g2) ln in
    let else_ : value s c3.parts other ≡ (not (value s c0.parts t) && value s c0.parts n) = w3.worth s ∙ ap₂ (λ a b. a && b) not_t keeps in
    ap₂ (λ a b. a || b) holds else_ ∙ cond_table (value s c0.parts t) (value s c0.parts y) (value s c0.parts n))

pub cell_worth : {E : Type 0} (r : Result ℕ E) (c0 c1 new : Gates) (left right : ℕ) (alike : Bool) (corner beside above both here : ℕ) → left < length c0.parts → above < length c0.parts →
    Grown c0 c1 → Is c0 both (λ s. not alike || value s c0.parts corner) → Is c1 here (λ s. cond (value s c0.parts right) (value s c0.parts both) (value s c0.parts beside)) →
    IfOk r (λ g. Is new g (λ s. cond (value s c1.parts left) (value s c1.parts here) (value s c1.parts above))) →
    IfOk r (λ g. Is new g (λ s. cond (value s c0.parts left) (cond (value s c0.parts right) (not alike || value s c0.parts corner) (value s c0.parts beside)) (value s c0.parts above)))
cell_worth r c0 c1 new left right alike corner beside above both here ll la grown wb wh =
    same_worth r new (λ s. cond (value s c1.parts left) (value s c1.parts here) (value s c1.parts above))
    (λ s. cond (value s c0.parts left) (cond (value s c0.parts right) (not alike || value s c0.parts corner) (value s c0.parts beside)) (value s c0.parts above))
    (λ s i. cond (Grown-value c0 c1 s left grown ll i) ((wh.worth s ∙ ap (λ b. cond (value s c0.parts right) b (value s c0.parts beside)) (wb.worth s)) i) (Grown-value c0 c1 s above grown la i))

pub without_worth : {E : Type 0} (r : Result ℕ E) (c0 c1 c2 new : Gates) (left right apart both level : ℕ) → apart < length c0.parts → Grown c0 c1 → Grown c1 c2 →
    Is c1 both (λ s. value s c0.parts left && value s c0.parts right) → Is c2 level (λ s. not (value s c1.parts apart)) →
    IfOk r (λ g. Is new g (λ s. value s c2.parts both && value s c2.parts level)) →
    IfOk r (λ g. Is new g (λ s. (value s c0.parts left && value s c0.parts right) && not (value s c0.parts apart)))
without_worth r c0 c1 c2 new left right apart both level la g1 g2 w1 w2 =
    same_worth r new (λ s. value s c2.parts both && value s c2.parts level) (λ s. (value s c0.parts left && value s c0.parts right) && not (value s c0.parts apart))
    (λ s. ap₂ (λ a b. a && b) (Grown-value c1 c2 s both g2 w1.inside ∙ w1.worth s) (w2.worth s ∙ ap not (Grown-value c0 c1 s apart g1 la)))

-- ---- lists of cells

pub cells_grown : (old new : Gates) (cells : List ℕ) (n : ℕ) (v : ℕ → Chosen → Bool) → Grown old new → AreCells old cells n v → AreCells new cells n v
cells_grown old new cells n v grown is = record { long = is.long; each = λ j below. Is-grown old new (get_or cells j 0) (v j) grown (is.each j below) }

pub cells_one : (c : Gates) (g : ℕ) (v : ℕ → Chosen → Bool) → Is c g (v 0) → AreCells c (g ∷ []) 1 v
cells_one c g v is = record { long = refl; each = go }
  where
    go : (j : ℕ) → j < 1 → Is c (get_or (g ∷ []) j 0) (v j)
    go zero below = is
    go (suc j) below = absurd (let none : ⊥ = omega (arith, below) in none)

pub before_or_last : (a b : ℕ) → a < b + 1 → (a < b) ⊎ (a ≡ b)
before_or_last a b less = grind arith

pub cells_push : (c : Gates) (cells : List ℕ) (n : ℕ) (v : ℕ → Chosen → Bool) (g : ℕ) → AreCells c cells n v → Is c g (v n) → AreCells c (cells ++ g ∷ []) (n + 1) v
cells_push c cells n v g cs is = record { long = length-append cells (g ∷ []) ∙ ap (λ m. m + 1) cs.long; each = λ j below. go j below (place j below) }
  where
    place : (j : ℕ) → j < length (cells ++ g ∷ []) → (j < length cells) ⊎ (j ≡ length cells)
    place j below =
        let long : length (cells ++ g ∷ []) ≡ length cells + 1 = length-append cells (g ∷ []) in
        before_or_last j (length cells) (omega (arith, below, long))

    go : (j : ℕ) → j < length (cells ++ g ∷ []) → (j < length cells) ⊎ (j ≡ length cells) → Is c (get_or (cells ++ g ∷ []) j 0) (v j)
    go j below (inl front) = subst (λ (h : ℕ). Is c h (v j)) (sym (get_or_append_left cells (g ∷ []) 0 j front)) (cs.each j front)
    go j below (inr last) =
        subst (λ (k : ℕ). Is c (get_or (cells ++ g ∷ []) k 0) (v k)) (sym last)
        (subst (λ (h : ℕ). Is c h (v (length cells))) (sym (get_or-append_seam cells g [] 0)) (subst (λ (k : ℕ). Is c g (v k)) (sym cs.long) is))

pub cells_inside : (c : Gates) (cells : List ℕ) (n : ℕ) (v : ℕ → Chosen → Bool) → AreCells c cells n v → All (λ g. g < length c.parts) cells
cells_inside c cells n v is = λ k d below. subst (λ (g : ℕ). g < length c.parts) (get_or_default cells k 0 d below) (is.each k below).inside

-- the next cell of the first row
pub first_more : (c0 mid new : Gates) (right : List ℕ) (i some next : ℕ) → Grown c0 mid → Grown mid new → get_or right i 0 < length c0.parts → Is mid some (first_cells c0 right i) →
    Is new next (λ s. value s mid.parts some || value s mid.parts (get_or right i 0)) → Is new next (first_cells c0 right (i + 1))
first_more c0 mid new right i some next g1 g2 inside is made = record {
  inside = made.inside;
  worth = λ s. made.worth s
      ∙ ap₂ (λ a b. a || b) (is.worth s) (Grown-value c0 mid s (get_or right i 0) g1 inside)
      ∙ ap (λ n. first_cells c0 right n s) (suc-eq-add-one i);
}

-- the first cell of the next row
pub edge_is : (c0 new : Gates) (gate : ℕ) (right : List ℕ) (alike : List Bool) (row : List ℕ) (g : ℕ) → Is new g (λ s. value s c0.parts (get_or row 0 0) || value s c0.parts gate) → Is new g (next_cells c0 gate right alike row 0)
edge_is c0 new gate right alike row g is = record { inside = is.inside; worth = is.worth }

-- and each further one
pub next_more : (c0 mid new : Gates) (gate : ℕ) (right : List ℕ) (alike : List Bool) (row cells : List ℕ) (j beside made : ℕ) → beside ≡ get_or cells j 0 → Grown c0 mid → gate < length c0.parts → get_or right j 0 < length c0.parts →
    All (λ g. g < length c0.parts) row → j + 1 < length row → AreCells mid cells (j + 1) (next_cells c0 gate right alike row) →
    Is new made (λ s. cond (value s mid.parts gate) (cond (value s mid.parts (get_or right j 0)) (not (get_or alike j false) || value s mid.parts (get_or row j 0)) (value s mid.parts beside)) (value s mid.parts (get_or row (j + 1) 0))) →
    Is new made (next_cells c0 gate right alike row (j + 1))
next_more c0 mid new gate right alike row cells j beside made read grown lg lr inside long cs is = record {
  inside = is.inside;
  worth = λ s. is.worth s
      ∙ (λ i. cond (Grown-value c0 mid s gate grown lg i)
      (cond (Grown-value c0 mid s (get_or right j 0) grown lr i) (not (get_or alike j false) || Grown-value c0 mid s (get_or row j 0) grown (inside j 0 (omega (arith, long))) i) ((ap (value s mid.parts) read ∙ (cs.each j (omega (arith, cs.long))).worth s) i))
      (Grown-value c0 mid s (get_or row (j + 1) 0) grown (inside (j + 1) 0 long) i))
      ∙ ap (λ n. cond (value s c0.parts gate) (cond (value s c0.parts (get_or right j 0)) (not (get_or alike j false) || value s c0.parts (get_or row j 0)) (next_cells c0 gate right alike row j s)) (value s c0.parts (get_or row n 0))) (sym (suc-eq-add-one j))
      ∙ ap (λ n. next_cells c0 gate right alike row n s) (suc-eq-add-one j);
}
