-- Sizes as numbers that a program holds.
use Rattle.std.specs.Prelude.{ℕ, min}

-- the greatest `usize`
abbrev pub most_counted : ℕ
most_counted = 18446744073709551615

-- A size as a `usize`; where it doesn't fit, the greatest one. The size of what a project keeps always fits.
abbrev pub counted : ℕ → ℕ
counted n = min n most_counted
