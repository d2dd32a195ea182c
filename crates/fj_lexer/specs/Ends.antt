-- No public contract cites this: it serves the proofs.
-- A text as the end of another one.
use Rattle.std.specs.Prelude.{◌≡◌, ℕ, ◌-◌, ◌≤◌, List, length, drop}

-- the rest is what stands last in the text
pub record IsEndOf (rest text : List ℕ) : Type 0 where
  pub within : length rest ≤ length text
  pub last : drop (length text - length rest) text ≡ rest
