-- No public contract cites this: it serves the proofs.
-- The clauses that deny the first selections in order.
use Rattle.std.specs.Prelude.{ℕ, zero, suc, ◌-◌, ◌^◌, List, [], ◌∷◌, ◌++◌, bit_xor}
use Rattle.cfj_logic.specs.Selections.{Chosen}
use Rattle.cfj_logic.specs.Sides.{Sides}
use Rattle.plain_judge.specs.Order.{nth}

-- the features that a selection lacks
abbrev pub lacking : Chosen → ℕ
lacking s = bit_xor (2 ^ s.features - 1) s.on

-- The clause that this selection alone makes false: one of the features that it lacks is selected, or one of those that it has isn't.
abbrev pub denial : Chosen → Sides
denial s = record { on = lacking s; off = s.on }

-- the clauses that deny the first `k` selections of `n` features, in order
abbrev pub denials : ℕ → ℕ → List Sides
denials n zero = []
denials n (suc k) = denials n k ++ denial (nth n k) ∷ []
