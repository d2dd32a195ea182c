-- The bits of a set of features, as the code tests and sets them.
use Rattle.std.proofs.Common.{◌≡◌, ◌≢◌, ℕ, zero, suc, ◌*◌, ◌%◌, ◌^◌, ◌<◌, true, false, not, nat_eq, eqb, ◌⊎◌, inl, inr, bit_or, bit_and, ◌∙◌, ap, arith}
use Rattle.std.specs.Int.{bit_at}
use Rattle.std.proofs.lemmas.Bool.Decides.{eqb_tells}
use Rattle.std.proofs.lemmas.Nat.{one_shl, or_lt, pow_pos}
use Rattle.std.proofs.lemmas.Nat.Bits.{and_pow, bit_at-lt}
use Rattle.std.proofs.Math.Pow.{pow-lt}
use Rattle.cfj_logic.specs.Selections.{has_bit}

positive_not_zero : (m : ℕ) → 0 < m → nat_eq m 0 ≡ false
positive_not_zero m lt = go (eqb_tells m 0)
  where
    go : ((eqb m 0 ≡ true) × (m ≡ 0)) ⊎ ((eqb m 0 ≡ false) × (m ≢ 0)) → nat_eq m 0 ≡ false
    go (inl e) = let z : m ≡ 0 = e.1 in absurd (omega (arith, z))
    go (inr e) = e.0

bit_times : (b m : ℕ) → b < 2 → 0 < m → not (nat_eq (b * m) 0) ≡ nat_eq b 1
bit_times zero m lt pos = let e : 0 * m ≡ 0 = omega arith in ap (λ k. not (nat_eq k 0)) e
bit_times (suc zero) m lt pos = let e : 1 * m ≡ m = omega arith in ap (λ k. not (nat_eq k 0)) e ∙ ap not (positive_not_zero m pos)
bit_times (suc (suc b)) m lt pos = absurd (omega arith)

-- a mask tests the bit
pub tests_bit : (n f : ℕ) → f < 128 → not (nat_eq (bit_and n (1 * 2 ^ f % 2 ^ 128)) 0) ≡ has_bit n f
tests_bit n f lt =
    ap (λ k. not (nat_eq (bit_and n k) 0)) (one_shl f 128 lt) ∙ ap (λ k. not (nat_eq k 0)) (and_pow n f)
    ∙ bit_times (bit_at n f) (2 ^ f) (bit_at-lt n f) (pow_pos f)

-- one more bit leaves the set within its features
pub with_within : (n f k : ℕ) → f < k → n < 2 ^ k → bit_or n (2 ^ f) < 2 ^ k
with_within n f k lt small = or_lt k n (2 ^ f) small (pow-lt lt)
