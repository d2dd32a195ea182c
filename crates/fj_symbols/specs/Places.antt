-- No public contract cites this: it serves the proofs.
-- Where names stand in a list, as a look-up knows it.
use Rattle.std.specs.Prelude.{◌≡◌, ℕ, List, position}
use Rattle.std.specs.Borrow.{Bor}
use Rattle.std.specs.Map.{lookup}
use Rattle.std.specs.Str.{bytes_eq}

-- each name has its first place among these names, and no other name has one
abbrev pub ArePlaced : List (Bor (List ℕ) × ℕ) → List (List ℕ) → Type 0
ArePlaced places names = (name : Bor (List ℕ)) → lookup (λ k. bytes_eq name.now k.now) places ≡ position (λ n. bytes_eq n name.now) names
