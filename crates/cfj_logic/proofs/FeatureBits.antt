-- Sets of features, bit by bit.
use Rattle.std.proofs.Common.{◌≡◌, ◌≢◌, ℕ, ◌^◌, min, ◌⊎◌, inl, inr, true, false, ◌==◌, eqb, bit_or, bit_and, sym, ◌∙◌, ap, arith}
use Rattle.std.specs.Int.{bit_at}
use Rattle.std.proofs.lemmas.Bool.{eqb-true, eq-eqb}
use Rattle.std.proofs.lemmas.Bool.Decides.{eqb_tells}
use Rattle.std.proofs.lemmas.Nat.Bits.{bit_at-lt, bit_at_or, bit_at_and, bit_at-pow_same, bit_at-pow_other, bit_at-zero, same_from_bits}
use Rattle.cfj_logic.specs.Selections.{has_bit, is_subset}

-- after a feature is put into a set it is a member, and the others are as before
pub has_bit_same : (n f : ℕ) → has_bit (bit_or n (2 ^ f)) f ≡ true
has_bit_same n f =
    let small = bit_at-lt n f in
    let one = bit_at-pow_same f in
    let both = bit_at_or n (2 ^ f) f in
    let e : bit_at (bit_or n (2 ^ f)) f ≡ 1 = omega (arith, small, one, both) in
    eq-eqb (bit_at (bit_or n (2 ^ f)) f) 1 e

pub has_bit_other : (n f g : ℕ) → g ≢ f → has_bit (bit_or n (2 ^ f)) g ≡ has_bit n g
has_bit_other n f g other =
    let none = bit_at-pow_other f g other in
    let both = bit_at_or n (2 ^ f) g in
    let e : bit_at (bit_or n (2 ^ f)) g ≡ bit_at n g = omega (arith, none, both) in
    ap (λ b. b == 1) e

-- the empty set has no member
pub has_bit_none : (f : ℕ) → has_bit 0 f ≡ false
has_bit_none f = ap (λ b. b == 1) (bit_at-zero f)

-- sets without a common member
pub apart : (a b : ℕ) → ((f : ℕ) → has_bit a f ≡ true → has_bit b f ≡ true → ⊥) → bit_and a b ≡ 0
apart a b each = same_from_bits (bit_and a b) 0 (λ f. bit_at_and a b f ∙ go f (eqb_tells (bit_at a f) 1) (eqb_tells (bit_at b f) 1) ∙ sym (bit_at-zero f))
  where
    go : (f : ℕ) → ((eqb (bit_at a f) 1 ≡ true) × (bit_at a f ≡ 1)) ⊎ ((eqb (bit_at a f) 1 ≡ false) × (bit_at a f ≢ 1)) → ((eqb (bit_at b f) 1 ≡ true) × (bit_at b f ≡ 1)) ⊎ ((eqb (bit_at b f) 1 ≡ false) × (bit_at b f ≢ 1)) →
        min (bit_at a f) (bit_at b f) ≡ 0
    go f (inl x) (inl y) = absurd (each f x.0 y.0)
    go f (inr x) _ = let lt = bit_at-lt a f in let ne = x.1 in omega (arith, lt, ne)
    go f _ (inr y) = let lt = bit_at-lt b f in let ne = y.1 in omega (arith, lt, ne)

-- a member of a subset
pub subset_has : (a b f : ℕ) → is_subset a b ≡ true → has_bit a f ≡ true → has_bit b f ≡ true
subset_has a b f within bit =
    let same : bit_and a b ≡ a = eqb-true (bit_and a b) a within in
    let one : bit_at a f ≡ 1 = eqb-true (bit_at a f) 1 bit in
    let least : bit_at (bit_and a b) f ≡ min (bit_at a f) (bit_at b f) = bit_at_and a b f in
    let kept : bit_at (bit_and a b) f ≡ bit_at a f = ap (λ n. bit_at n f) same in
    let small = bit_at-lt b f in
    eq-eqb (bit_at b f) 1 (omega (arith, one, least, kept, small))
