-- No public contract cites this: it serves the proofs.
-- Members with numbers, whatever kind they are.
use Rattle.std.specs.Prelude.{ℕ, List, [], ◌∷◌, map}
use Rattle.cfj_model.specs.Members.{namesakes, placed}

module _ {A : Type 0} where
  -- each has the number of its namesakes before it
  abbrev pub with_namesakes : (A → List ℕ) → (A → ℕ → A) → List A → List A
  with_namesakes name_of with_alt xs = map (λ p. with_alt p.item (namesakes name_of p)) (placed xs)

  -- each has the number in its place
  abbrev pub with_alts : (A → ℕ → A) → List A → List ℕ → List A
  with_alts with_alt [] ns = []
  with_alts with_alt (x ∷ xs) [] = x ∷ xs
  with_alts with_alt (x ∷ xs) (n ∷ ns) = with_alt x n ∷ with_alts with_alt xs ns
