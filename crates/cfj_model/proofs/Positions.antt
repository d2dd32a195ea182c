-- The first item that passes a test, told by the items before a place.
use Rattle.std.proofs.Common.{◌≡◌, ℕ, zero, suc, ◌+◌, ◌≤◌, ltb, Bool, true, false, not, cond, List, [], ◌∷◌, length, Some, None, slice_get, position, sym, ◌∙◌, ap, subst, arith}
use Rattle.std.specs.List.{position_or_len}
use Rattle.std.proofs.lemmas.Bool.{lt-ltb, le-ltb}
use Rattle.std.proofs.lemmas.Option.{slice_get_within}

module _ {A : Type 0} (p : A → Bool) where
  -- no item up to the next place passes
  pub none_next : (xs : List A) (n : ℕ) (x : A) → slice_get xs n ≡ Some x → p x ≡ false → n ≤ position_or_len p xs → n + 1 ≤ position_or_len p xs
  none_next [] n x at fails before = absurd (let no : ⊥ = cc at in no)
  none_next (y ∷ xs) zero x at fails before =
      let same : y ≡ x = cc at in
      let here : p y ≡ false = ap p same ∙ fails in
      subst (λ b. 1 ≤ cond (not b) (1 + position_or_len p xs) 0) (sym here) (omega arith)
  none_next (y ∷ xs) (suc n) x at fails before = go (p y) before (none_next xs n x at fails)
    where
      go : (b : Bool) → suc n ≤ cond (not b) (1 + position_or_len p xs) 0 → (n ≤ position_or_len p xs → n + 1 ≤ position_or_len p xs)
          → suc n + 1 ≤ cond (not b) (1 + position_or_len p xs) 0
      go false h more = let rest = more (omega (arith, h)) in omega (arith, rest)
      go true h more = absurd (let no : ⊥ = omega (arith, h) in no)

  stands : (xs : List A) (n : ℕ) (x : A) → slice_get xs n ≡ Some x → p x ≡ true → n ≤ position_or_len p xs → position_or_len p xs ≡ n
  stands [] n x at passes before = absurd (let no : ⊥ = cc at in no)
  stands (y ∷ xs) zero x at passes before =
      let same : y ≡ x = cc at in
      let here : p y ≡ true = ap p same ∙ passes in
      ap (λ b. cond (not b) (1 + position_or_len p xs) 0) here
  stands (y ∷ xs) (suc n) x at passes before = go (p y) before (stands xs n x at passes)
    where
      go : (b : Bool) → suc n ≤ cond (not b) (1 + position_or_len p xs) 0 → (n ≤ position_or_len p xs → position_or_len p xs ≡ n)
          → cond (not b) (1 + position_or_len p xs) 0 ≡ suc n
      go false h more = let rest = more (omega (arith, h)) in omega (arith, rest)
      go true h more = absurd (let no : ⊥ = omega (arith, h) in no)

  -- the first that passes, where none before it does
  pub first_is : (xs : List A) (n : ℕ) (x : A) → slice_get xs n ≡ Some x → p x ≡ true → n ≤ position_or_len p xs → Some n ≡ position p xs
  first_is xs n x at passes before =
      let place = stands xs n x at passes before in
      let within = lt-ltb n (length xs) (slice_get_within xs n x at) in
      sym (subst (λ m. cond (ltb m (length xs)) (Some m) None ≡ Some n) (sym place) (ap (λ b. cond b (Some n) None) within))

  -- none passes
  pub none_is : (xs : List A) → length xs ≤ position_or_len p xs → None ≡ position p xs
  none_is xs past = sym (ap (λ b. cond b (Some (position_or_len p xs)) None) (le-ltb (position_or_len p xs) (length xs) past))
