-- Rows of gates, and the sequences that their cells compare.
use Rattle.std.proofs.Common.{◌≡◌, ℕ, ◌+◌, ◌<◌, ◌≤◌, Bool, false, List, length, map, take, get_or, All, Some, slice_get, sym, ◌∙◌, ap, ap₂, subst, arith}
use Rattle.std.proofs.Math.Numerals.{suc-eq-add-one}
use Rattle.std.proofs.lemmas.List.{get_or-map, length-map, take_all}
use Rattle.std.proofs.lemmas.List.Elements.{All-map}
use Rattle.std.proofs.lemmas.Option.{slice_get_within, get_or_from_slice_get}
use Rattle.cfj_logic.specs.Selections.{Chosen}
use Rattle.cond_circuit.specs.Gates.{Gates, Grown, Is, value}
use Rattle.cond_circuit.proofs.ValueLemmas.{Grown-value, Grown-inside}
use Rattle.guarded_seq.specs.declared.guarded.Guarded.{Guarded}
use Rattle.guarded_seq.specs.Rows.{AreCells, first_cells, next_cells, IsRow}
use Rattle.guarded_seq.specs.Sequences.{AreInside, gates_of, labels_differ}
use Rattle.guarded_seq.proofs.SequenceLaws.{first_law, next_law}

module _ {T : Type 0} (items : List (Guarded T)) (k : ℕ) (y : Guarded T) (is : slice_get items k ≡ Some y) where
  pub gate_there : get_or (gates_of items) k 0 ≡ y.gate
  gate_there = get_or-map (λ (g : Guarded T). g.gate) items k y 0 (slice_get_within items k y is) ∙ ap (λ (g : Guarded T). g.gate) (get_or_from_slice_get items k y y is)

  pub inside_there : (c : Gates) → AreInside c items → y.gate < length c.parts
  inside_there c inside = subst (λ (g : Guarded T). g.gate < length c.parts) (get_or_from_slice_get items k y y is) (inside k y (slice_get_within items k y is))

  label_there : (E : T → T → Bool) (x : T) → get_or (map (λ (g : Guarded T). E x g.item) items) k false ≡ E x y.item
  label_there E x = get_or-map (λ (g : Guarded T). E x g.item) items k y false (slice_get_within items k y is) ∙ ap (λ (g : Guarded T). E x g.item) (get_or_from_slice_get items k y y is)

  -- a gate of the list has kept its value
  value_there : (first old : Gates) (gates : List ℕ) (s : Chosen) → gates ≡ gates_of items → Grown first old → AreInside first items → value s old.parts (get_or gates k 0) ≡ value s first.parts y.gate
  value_there first old gates s same grown inside =
      ap (λ gs. value s old.parts (get_or gs k 0)) same ∙ ap (value s old.parts) gate_there ∙ Grown-value first old s y.gate grown (inside_there first inside)

-- gates of items that the circuit had are gates of it still
pub gates_inside : {T : Type 0} (items : List (Guarded T)) (first old : Gates) (gates : List ℕ) → gates ≡ gates_of items → Grown first old → AreInside first items → All (λ g. g < length old.parts) gates
gates_inside {T} items first old gates same grown inside =
    subst (λ (gs : List ℕ). All (λ g. g < length old.parts) gs) (sym same)
    (All-map (λ (g : ℕ). g < length old.parts) (λ (g : Guarded T). g.gate) items (λ k d below. Grown-inside first old (get_or items k d).gate grown (inside k d below)))

module _ {T : Type 0} (E : T → T → Bool) (first : Gates) (left right : List (Guarded T)) where
  -- the values of a row
  abbrev differs : ℕ → ℕ → Chosen → Bool
  differs i j s = labels_differ E (value s first.parts) (take i left) (take j right)

  pub first_row_is : (old new : Gates) (gates row : List ℕ) → gates ≡ gates_of right → Grown first old → AreInside first right → AreCells new row (length gates + 1) (first_cells old gates) → IsRow E first new left 0 right row
  first_row_is old new gates row same grown inside is =
      let many : length gates ≡ length right = ap length same ∙ length-map right (λ g. g.gate) in
      record {
        long = is.long ∙ ap (λ n. n + 1) many;
        each = λ j below.
            let cell = is.each j below in
            record {
              inside = cell.inside;
              worth = λ s. cell.worth s
                  ∙ first_law E (value s first.parts) left right (λ k. value s old.parts (get_or gates k 0)) (λ k y there. value_there right k y there first old gates s same grown inside) j
                  (omega (arith, below, is.long, many));
            };
      }

  pub next_row_is : (old new : Gates) (i : ℕ) (x : Guarded T) (gates : List ℕ) (alike : List Bool) (row next : List ℕ) → slice_get left i ≡ Some x → gates ≡ gates_of right →
      alike ≡ map (λ g. E x.item g.item) right → Grown first old → AreInside first left → AreInside first right → IsRow E first old left i right row →
      AreCells new next (length gates + 1) (next_cells old x.gate gates alike row) → IsRow E first new left (i + 1) right next
  next_row_is old new i x gates alike row next is same labels grown in_left in_right above below =
      let many : length gates ≡ length right = ap length same ∙ length-map right (λ g. g.gate) in
      record {
        long = below.long ∙ ap (λ n. n + 1) many;
        each = λ j inside.
            let cell = below.each j inside in
            let low : j ≤ length right = omega (arith, inside, below.long, many) in
            record {
              inside = cell.inside;
              worth = λ s. cell.worth s
                  ∙ next_law E (value s first.parts) left right i x is (value s old.parts x.gate) (λ k. value s old.parts (get_or gates k 0)) (λ k. get_or alike k false) (λ k. value s old.parts (get_or row k 0))
                  (Grown-value first old s x.gate grown (inside_there left i x is first in_left))
                  (λ k y there. value_there right k y there first old gates s same grown in_right)
                  (λ k y there. ap (λ bs. get_or bs k false) labels ∙ label_there right k y there E x.item)
                  (λ k few. (above.each k (omega (arith, few, above.long))).worth s) j low
                  ∙ ap (λ n. differs n j s) (suc-eq-add-one i);
            };
      }

  -- the last cell of the last row compares the whole sequences
  pub last_cell : (now : Gates) (row : List ℕ) → IsRow E first now left (length left) right row → Is now (get_or row (length right) 0) (λ s. labels_differ E (value s first.parts) left right)
  last_cell now row is =
      let cell = is.each (length right) (omega (arith, is.long)) in
      record {
        inside = cell.inside;
        worth = λ s. cell.worth s ∙ ap₂ (labels_differ E (value s first.parts)) (take_all (length left) left (omega arith)) (take_all (length right) right (omega arith));
      }
