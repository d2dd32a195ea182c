-- Sequences whose items are there under some selections: what remains of them, and how two of them differ.
use Rattle.std.specs.Prelude.{ℕ, ◌<◌, ◌==◌, Bool, not, ◌&&◌}
use Rattle.std.specs.Prelude.{List, length, take, map, filter, All, slice_index_or}
use Rattle.std.specs.Cmp.Lexicographic.{pointwise}
use Rattle.cond_circuit.specs.Gates.{Gates}
use Rattle.guarded_seq.specs.declared.guarded.Guarded.{Guarded}

-- the gates of the items
abbrev pub gates_of : {T : Type 0} → List (Guarded T) → List ℕ
gates_of items = map (λ g. g.gate) items

-- each gate is one of the circuit
abbrev pub AreInside : {T : Type 0} → Gates → List (Guarded T) → Type 0
AreInside c items = All (λ g. g.gate < length c.parts) items

-- the sequence that remains: the items whose gates are true, in order
abbrev pub present : {T : Type 0} → (ℕ → Bool) → List (Guarded T) → List T
present on items = map (λ g. g.item) (filter (λ g. on g.gate) items)

-- the sequences that remain have different lengths
abbrev pub lengths_differ : {A B : Type 0} → (ℕ → Bool) → List (Guarded A) → List (Guarded B) → Bool
lengths_differ on left right = not (length (present on left) == length (present on right))

-- the sequences that remain differ, in their lengths or in the items at some place
abbrev pub labels_differ : {T : Type 0} → (T → T → Bool) → (ℕ → Bool) → List (Guarded T) → List (Guarded T) → Bool
labels_differ eq on left right = not (pointwise eq (present on left) (present on right))

-- An item's place in the sequence that remains: how many of the gates before its own are true.
abbrev pub rank : (ℕ → Bool) → List ℕ → ℕ → ℕ
rank on gates i = length (filter on (take i gates))

-- both items are present, and have the same rank
abbrev pub is_matched : (ℕ → Bool) → List ℕ → ℕ → List ℕ → ℕ → Bool
is_matched on left i right k =
    (on (slice_index_or left i 0) && on (slice_index_or right k 0)) && (rank on left i == rank on right k)
