-- No public contract cites this: it serves the proofs.
-- The selections of so many features by their places in order.
use Rattle.std.specs.Prelude.{ℕ, zero, suc, ◌+◌, ◌*◌}
use Rattle.std.specs.Int.{bit_at}
use Rattle.cfj_logic.specs.Selections.{Chosen}

-- the number whose lowest `n` bits are those of `j`, the other way round
abbrev pub mirrored : ℕ → ℕ → ℕ
mirrored zero j = 0
mirrored (suc n) j = bit_at j n + 2 * mirrored n j

-- The selection of `n` features at this place of their order, from 0: the place's highest bit tells whether the first is selected,
-- its lowest bit whether the last is.
abbrev pub nth : ℕ → ℕ → Chosen
nth n j = record { features = n; on = mirrored n j }
