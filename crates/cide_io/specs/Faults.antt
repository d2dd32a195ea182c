-- Counts of faults: they never fall, and stand still at the end of their type.
use Rattle.std.specs.Prelude.{ℕ, ◌+◌, ◌≤◌, Result, OnErr, min}

-- the last value of a count
abbrev pub last_count : ℕ
last_count = 0xffff_ffff_ffff_ffff

-- the count after one more fault
abbrev pub raised : ℕ → ℕ
raised count = min (count + 1) last_count

-- the count rose, or stands at its last value
abbrev pub Rose : ℕ → ℕ → Type 0
Rose old new = raised old ≤ new

-- The count never falls, and an error comes only where it rose.
pub record HasCause {T E : Type 0} (old new : ℕ) (result : Result T E) : Type 0 where
  pub later : old ≤ new
  pub cause : OnErr result (Rose old new)
