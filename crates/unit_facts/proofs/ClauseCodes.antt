-- Clauses over features as numbers: in base three, a feature's digit is 1 where it is among the first set, 2 where it is among the
-- second, and 0 where it is in neither.
use Rattle.std.proofs.Common.{◌≡◌, ℕ, zero, suc, ◌+◌, ◌*◌, ◌/◌, ◌%◌, ◌^◌, ◌<◌, min, bit_and, sym, ◌∙◌, ap, refl, arith}
use Rattle.std.specs.Int.{bit_at}
use Rattle.std.proofs.Math.Nat.{pow-suc}
use Rattle.std.proofs.lemmas.Nat.Bits.{bit_at_and, bit_at-zero, bit_at-suc, bit_at_lowest}

-- no bit is one of both numbers
abbrev pub AreApart : ℕ → ℕ → Type 0
AreApart a b = (i : ℕ) → min (bit_at a i) (bit_at b i) ≡ 0

pub apart_from_and : (a b : ℕ) → bit_and a b ≡ 0 → AreApart a b
apart_from_and a b none i = sym (bit_at_and a b i) ∙ ap (λ n. bit_at n i) none ∙ bit_at-zero i

apart_halves : (a b : ℕ) → AreApart a b → AreApart (a / 2) (b / 2)
apart_halves a b apart i =
    ap (λ x. min x (bit_at (b / 2) i)) (sym (bit_at-suc a i)) ∙ ap (λ y. min (bit_at a (suc i)) y) (sym (bit_at-suc b i)) ∙ apart (suc i)

apart_low : (a b : ℕ) → AreApart a b → min (a % 2) (b % 2) ≡ 0
apart_low a b apart = ap (λ x. min x (b % 2)) (sym (bit_at_lowest a)) ∙ ap (λ y. min (bit_at a 0) y) (sym (bit_at_lowest b)) ∙ apart 0

-- the number of a pair of sets of at most `n` features
abbrev pub code : ℕ → ℕ → ℕ → ℕ
code zero a b = 0
code (suc n) a b = a % 2 + 2 * (b % 2) + 3 * code n (a / 2) (b / 2)

pub code_none : (n : ℕ) → code n 0 0 ≡ 0
code_none zero = refl
code_none (suc n) = omega (arith, code_none n)

pub code_below : (n a b : ℕ) → AreApart a b → code n a b < 3 ^ n
code_below zero a b apart = omega arith
code_below (suc n) a b apart =
    let low = apart_low a b apart in
    let rest = code_below n (a / 2) (b / 2) (apart_halves a b apart) in
    let power = pow-suc 3 n in
    omega (arith, low, rest, power)

half_below : (n a : ℕ) → a < 2 ^ suc n → a / 2 < 2 ^ n
half_below n a lt = let power = pow-suc 2 n in omega (arith, lt, power)

same_digits : (a b c d r s : ℕ) → a < 2 → b < 2 → c < 2 → d < 2 → min a b ≡ 0 → min c d ≡ 0 → a + 2 * b + 3 * r ≡ c + 2 * d + 3 * s → (a ≡ c) × (b ≡ d) × (r ≡ s)
same_digits a b c d r s a2 b2 c2 d2 one two same = (omega arith, omega arith, omega arith)

-- disjoint sets of one number are the same
pub code_injective : (n a b c d : ℕ) → a < 2 ^ n → b < 2 ^ n → c < 2 ^ n → d < 2 ^ n → AreApart a b → AreApart c d → code n a b ≡ code n c d → (a ≡ c) × (b ≡ d)
code_injective zero a b c d la lb lc ld one two same = (omega arith, omega arith)
code_injective (suc n) a b c d la lb lc ld one two same =
    let digits = same_digits (a % 2) (b % 2) (c % 2) (d % 2) (code n (a / 2) (b / 2)) (code n (c / 2) (d / 2)) (omega arith) (omega arith) (omega arith) (omega arith) (apart_low a b one) (apart_low c d two) same in
    let halves = code_injective n (a / 2) (b / 2) (c / 2) (d / 2) (half_below n a la) (half_below n b lb) (half_below n c lc) (half_below n d ld) (apart_halves a b one) (apart_halves c d two) digits.2 in
    let on_low : a % 2 ≡ c % 2 = digits.0 in
    let off_low : b % 2 ≡ d % 2 = digits.1 in
    let on_high : a / 2 ≡ c / 2 = halves.0 in
    let off_high : b / 2 ≡ d / 2 = halves.1 in
    (omega (arith, on_low, on_high), omega (arith, off_low, off_high))
