-- The ranks of two sequences, compared place by place.
use Rattle.std.specs.Prelude.{◌≡◌, ℕ, ◌+◌, ◌-◌, ◌<◌, ◌≤◌, ◌==◌, not}
use Rattle.std.specs.Prelude.{List, [], length, take, All, slice_index_or}
use Rattle.cond_circuit.specs.Gates.{Gates, Is, value}
use Rattle.guarded_seq.specs.Sequences.{rank}

-- The gates of two sequences; how many of them are the same from the front; and behind these, for each place of the
-- left one, a row with a gate for each place of the right one.
pub record Ranks : Type 0 where
  pub left : List ℕ
  pub right : List ℕ
  pub front : ℕ
  pub rows : List (List ℕ)

-- the gate of the table at a place of the left sequence and one of the right, both behind the common front
abbrev pub rank_cell : Ranks → ℕ → ℕ → ℕ
rank_cell t i k = slice_index_or (slice_index_or t.rows (i - t.front) []) (k - t.front) 0

-- the table is one of this circuit: each of its gates is true where the ranks at its places differ
pub record AreRanks (c : Gates) (t : Ranks) : Type 0 where
  pub left : All (λ g. g < length c.parts) t.left
  pub right : All (λ g. g < length c.parts) t.right
  pub front : take t.front t.left ≡ take t.front t.right
  pub short : (t.front ≤ length t.left) × (t.front ≤ length t.right)
  pub many : length t.left ≤ t.front + length t.rows
  pub wide : All (λ row. length t.right ≤ t.front + length row) t.rows
  pub cells : (i k : ℕ) → t.front ≤ i → i < length t.left → t.front ≤ k → k < length t.right →
      Is c (rank_cell t i k) (λ s. not (rank (value s c.parts) t.left i == rank (value s c.parts) t.right k))
