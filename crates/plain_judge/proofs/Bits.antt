-- Sets of features, compared feature by feature.
use Rattle.std.proofs.Common.{◌≡◌, ◌≢◌, ℕ, ◌+◌, ◌-◌, ◌%◌, ◌^◌, ◌<◌, ◌≤◌, min, true, false, not, eqb, ◌==◌, ◌⊎◌, inl, inr, bit_and, sym, ◌∙◌, ap, arith}
use Rattle.std.specs.Int.{bit_at}
use Rattle.std.proofs.lemmas.Bool.{both_ways, cases_lt, eqb-true, eq-eqb, ne_eqb}
use Rattle.std.proofs.lemmas.Bool.Decides.{eqb_tells}
use Rattle.std.proofs.lemmas.Nat.Bits.{bit_at-lt, bit_at-zero, bit_at_above, bit_at_and, bit_at_ones, bit_at_ones_above, bit_at_xor, same_from_bits}
use Rattle.cfj_logic.specs.Selections.{Chosen, has_bit, is_on}
use Rattle.cfj_logic.proofs.FeatureBits.{apart}
use Rattle.plain_judge.specs.Denials.{lacking}

-- bits are the same where they are 1 together
pub same_bit : (x y : ℕ) → x < 2 → y < 2 → eqb x 1 ≡ eqb y 1 → x ≡ y
same_bit x y lx ly same = go (eqb_tells x 1) (eqb_tells y 1)
  where
    go : ((eqb x 1 ≡ true) × (x ≡ 1)) ⊎ ((eqb x 1 ≡ false) × (x ≢ 1)) → ((eqb y 1 ≡ true) × (y ≡ 1)) ⊎ ((eqb y 1 ≡ false) × (y ≢ 1)) → x ≡ y
    go (inl a) (inl b) = a.1 ∙ sym b.1
    go (inl a) (inr b) = absurd (both_ways (eqb y 1) b.0 (sym same ∙ a.0))
    go (inr a) (inl b) = absurd (both_ways (eqb x 1) a.0 (same ∙ b.0))
    go (inr a) (inr b) = let p = a.1 in let q = b.1 in omega (arith, lx, ly, p, q)

-- a bit that isn't 1 is 0
pub no_bit : (n f : ℕ) → has_bit n f ≡ false → bit_at n f ≡ 0
no_bit n f e = go (eqb_tells (bit_at n f) 1)
  where
    go : ((eqb (bit_at n f) 1 ≡ true) × (bit_at n f ≡ 1)) ⊎ ((eqb (bit_at n f) 1 ≡ false) × (bit_at n f ≢ 1)) → bit_at n f ≡ 0
    go (inl a) = absurd (both_ways (has_bit n f) e a.0)
    go (inr a) = let p = a.1 in omega (arith, bit_at-lt n f, p)

-- sets with the same members are the same
pub same_from_members : (a b : ℕ) → ((f : ℕ) → has_bit a f ≡ has_bit b f) → a ≡ b
same_from_members a b same = same_from_bits a b (λ f. same_bit (bit_at a f) (bit_at b f) (bit_at-lt a f) (bit_at-lt b f) (same f))

-- sets of `n` features with the same members among these are the same
pub same_from_features : (n a b : ℕ) → a < 2 ^ n → b < 2 ^ n → ((f : ℕ) → f < n → has_bit a f ≡ has_bit b f) → a ≡ b
same_from_features n a b small_a small_b same = same_from_members a b (λ f. go f (cases_lt f n))
  where
    go : (f : ℕ) → (f < n) ⊎ (n ≤ f) → has_bit a f ≡ has_bit b f
    go f (inl lt) = same f lt
    go f (inr le) = ap (λ (k : ℕ). k == 1) (bit_at_above a n f small_a le ∙ sym (bit_at_above b n f small_b le))

-- a set of `n` features has no member past them
pub none_past : (n a f : ℕ) → a < 2 ^ n → n ≤ f → has_bit a f ≡ false
none_past n a f small le = ap (λ (k : ℕ). k == 1) (bit_at_above a n f small le)

-- no feature is in both of two sets without a common member
pub not_in_both : (a b f : ℕ) → bit_and a b ≡ 0 → has_bit a f ≡ true → has_bit b f ≡ true → ⊥
not_in_both a b f none in_a in_b =
    let one : bit_at a f ≡ 1 = eqb-true _ 1 in_a in
    let two : bit_at b f ≡ 1 = eqb-true _ 1 in_b in
    let both : bit_at 0 f ≡ min (bit_at a f) (bit_at b f) = ap (λ k. bit_at k f) (sym none) ∙ bit_at_and a b f in
    omega (arith, one, two, both, bit_at-zero f)

flipped : (x : ℕ) → x < 2 → ((1 + x) % 2 == 1) ≡ not (x == 1)
flipped x lt = go (eqb_tells x 1)
  where
    go : ((eqb x 1 ≡ true) × (x ≡ 1)) ⊎ ((eqb x 1 ≡ false) × (x ≢ 1)) → ((1 + x) % 2 == 1) ≡ not (x == 1)
    go (inl a) = let p = a.1 in ne_eqb ((1 + x) % 2) 1 (λ e. omega (arith, e, p)) ∙ ap not (sym a.0)
    go (inr a) = let p = a.1 in eq-eqb ((1 + x) % 2) 1 (omega (arith, lt, p)) ∙ ap not (sym a.0)

-- a selection lacks exactly the features that it hasn't
pub lacking_has : (s : Chosen) (f : ℕ) → f < s.features → has_bit (lacking s) f ≡ not (is_on s f)
lacking_has s f lt =
    ap (λ (k : ℕ). k == 1) (bit_at_xor (2 ^ s.features - 1) s.on f ∙ ap (λ k. (k + bit_at s.on f) % 2) (bit_at_ones s.features f lt))
    ∙ flipped (bit_at s.on f) (bit_at-lt s.on f)

pub lacking_past : (s : Chosen) (f : ℕ) → s.on < 2 ^ s.features → s.features ≤ f → has_bit (lacking s) f ≡ false
lacking_past s f small le =
    let ones = bit_at_ones_above s.features f le in
    let own = bit_at_above s.on s.features f small le in
    let both = bit_at_xor (2 ^ s.features - 1) s.on f in
    let e : bit_at (lacking s) f ≡ 0 = both ∙ (let sum : (bit_at (2 ^ s.features - 1) f + bit_at s.on f) % 2 ≡ 0 = omega (arith, ones, own) in sum) in
    ap (λ (k : ℕ). k == 1) e

pub lacking_apart : (s : Chosen) → s.on < 2 ^ s.features → bit_and (lacking s) s.on ≡ 0
lacking_apart s small = apart (lacking s) s.on (λ f lacks has. go f lacks has (cases_lt f s.features))
  where
    go : (f : ℕ) → has_bit (lacking s) f ≡ true → has_bit s.on f ≡ true → (f < s.features) ⊎ (s.features ≤ f) → ⊥
    go f lacks has (inl lt) = both_ways (not (is_on s f)) (ap not has) (sym (lacking_has s f lt) ∙ lacks)
    go f lacks has (inr le) = both_ways (has_bit s.on f) (none_past s.features s.on f small le) has
