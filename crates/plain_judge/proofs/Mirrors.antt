-- Numbers of so many bits, read the other way round.
use Rattle.std.proofs.Common.{◌≡◌, ℕ, zero, suc, ◌+◌, ◌-◌, ◌*◌, ◌/◌, ◌^◌, ◌<◌, sym, ◌∙◌, ap, arith}
use Rattle.std.specs.Int.{bit_at}
use Rattle.std.proofs.Math.Nat.{pow-suc}
use Rattle.std.proofs.lemmas.Nat.Bits.{bit_at-lt, bit_at-suc, bit_at_lowest, same_from_bits_below}
use Rattle.plain_judge.specs.Order.{mirrored}

pub mirrored_below : (n j : ℕ) → mirrored n j < 2 ^ n
mirrored_below zero j = omega arith
mirrored_below (suc n) j = omega (arith, bit_at-lt j n, mirrored_below n j, pow-suc 2 n)

low_bit : (b m : ℕ) → b < 2 → bit_at (b + 2 * m) 0 ≡ b
low_bit b m small = bit_at_lowest (b + 2 * m) ∙ omega arith

high_bit : (b m i : ℕ) → b < 2 → bit_at (b + 2 * m) (suc i) ≡ bit_at m i
high_bit b m i small = bit_at-suc (b + 2 * m) i ∙ ap (λ k. bit_at k i) (let e : (b + 2 * m) / 2 ≡ m = omega arith in e)

-- the first bit is the last one of the number that is mirrored, and so on
pub mirrored_bit : (n j f g : ℕ) → f + g + 1 ≡ n → bit_at (mirrored n j) f ≡ bit_at j g
mirrored_bit zero j f g at = absurd (omega arith)
mirrored_bit (suc n) j zero g at = low_bit (bit_at j n) (mirrored n j) (bit_at-lt j n) ∙ ap (bit_at j) (let e : n ≡ g = omega arith in e)
mirrored_bit (suc n) j (suc f) g at = high_bit (bit_at j n) (mirrored n j) f (bit_at-lt j n) ∙ mirrored_bit n j f g (omega arith)

pub mirrored_twice : (n j : ℕ) → j < 2 ^ n → mirrored n (mirrored n j) ≡ j
mirrored_twice n j small = same_from_bits_below n _ j (mirrored_below n (mirrored n j)) small each
  where
    each : (i : ℕ) → i < n → bit_at (mirrored n (mirrored n j)) i ≡ bit_at j i
    each i lt =
        let there : i + (n - 1 - i) + 1 ≡ n = omega arith in
        let back : n - 1 - i + i + 1 ≡ n = omega arith in
        mirrored_bit n (mirrored n j) i (n - 1 - i) there ∙ mirrored_bit n j (n - 1 - i) i back

pub mirrored_injective : (n i j : ℕ) → i < 2 ^ n → j < 2 ^ n → mirrored n i ≡ mirrored n j → i ≡ j
mirrored_injective n i j small_i small_j same = sym (mirrored_twice n i small_i) ∙ ap (mirrored n) same ∙ mirrored_twice n j small_j
