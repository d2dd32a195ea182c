-- No public contract cites this: it serves the proofs.
-- Rows of a table whose cell at i and j is true where the first i items of one sequence and j of another differ.
use Rattle.std.specs.Prelude.{◌≡◌, ℕ, zero, suc, ◌+◌, ◌<◌, ◌==◌}
use Rattle.std.specs.Prelude.{Bool, true, false, not, ◌&&◌, ◌||◌, if◌then◌else◌, List, [], length, take, slice_index_or}
use Rattle.cfj_logic.specs.Selections.{Chosen}
use Rattle.cond_circuit.specs.Gates.{Gates, Is, value}
use Rattle.guarded_seq.specs.declared.guarded.Guarded.{Guarded}
use Rattle.guarded_seq.specs.Sequences.{labels_differ}

-- two items under one gate with equal labels
abbrev pub is_same : {T : Type 0} → (T → T → Bool) → Guarded T → Guarded T → Bool
is_same eq x y = (x.gate == y.gate) && eq x.item y.item

-- an item without its label
abbrev pub blank : {T : Type 0} → Guarded T → Guarded Unit
blank g = record { gate = g.gate; item = tt }

-- so many gates, each with its value
pub record AreCells (c : Gates) (cells : List ℕ) (n : ℕ) (v : ℕ → Chosen → Bool) : Type 0 where
  pub long : length cells ≡ n
  pub each : (j : ℕ) → j < length cells → Is c (slice_index_or cells j 0) (v j)

-- the value of a cell in the row of no items: whether one of the first j items is present
abbrev pub first_value : (ℕ → Bool) → ℕ → Bool
first_value h zero = false
first_value h (suc j) = first_value h j || h j

abbrev pub first_cells : Gates → List ℕ → ℕ → Chosen → Bool
first_cells c right j s = first_value (λ k. value s c.parts (slice_index_or right k 0)) j

-- the value of a cell, by those of the row above it, where g tells whether the row's item is present, h whether each
-- item of the other sequence is, and e whether it has the same label
abbrev pub next_value : Bool → (ℕ → Bool) → (ℕ → Bool) → (ℕ → Bool) → ℕ → Bool
next_value g h e above zero = above 0 || g
next_value g h e above (suc j) =
    if g then (if h j then (not (e j) || above j) else next_value g h e above j) else above (suc j)

abbrev pub next_cells : Gates → ℕ → List ℕ → List Bool → List ℕ → ℕ → Chosen → Bool
next_cells c gate right alike row j s =
    next_value (value s c.parts gate) (λ k. value s c.parts (slice_index_or right k 0))
    (λ k. slice_index_or alike k false) (λ k. value s c.parts (slice_index_or row k 0)) j

-- The row of the first i items of the left sequence: each cell is true where these and as many of the right one as its
-- place says remain as different sequences.
abbrev pub IsRow : {T : Type 0} → (T → T → Bool) → Gates → Gates →
    List (Guarded T) → ℕ → List (Guarded T) → List ℕ → Type 0
IsRow eq first now left i right row =
    AreCells now row (length right + 1) (λ j s. labels_differ eq (value s first.parts) (take i left) (take j right))

-- the rows of two sequences without labels, from that of no items on
pub record AreRows (first now : Gates) (left right : List (Guarded Unit)) (rows : List (List ℕ)) : Type 0 where
  pub each : (i : ℕ) → i < length rows → IsRow (λ _ _. true) first now left i right (slice_index_or rows i [])
