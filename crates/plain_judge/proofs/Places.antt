-- Each selection has a place in the order, and an earlier one a smaller place.
use Rattle.std.proofs.Common.{◌≡◌, ℕ, ◌+◌, ◌-◌, ◌*◌, ◌/◌, ◌%◌, ◌^◌, ◌<◌, ◌≤◌, ◌⊎◌, inl, inr, sym, ◌∙◌, ap, arith}
use Rattle.std.specs.Int.{bit_at}
use Rattle.std.proofs.lemmas.Bool.{cases_lt, eqb-true}
use Rattle.std.proofs.lemmas.Nat.{pow_pos, shr-shr, le-div}
use Rattle.std.proofs.lemmas.Nat.Bits.{bit_at-lt, bit_at_above, same_from_bits}
use Rattle.std.proofs.Math.Nat.{div-mul-le_self}
use Rattle.cfj_logic.specs.Selections.{Chosen, IsEarlier}
use Rattle.plain_judge.specs.Order.{mirrored, nth}
use Rattle.plain_judge.proofs.Bits.{no_bit, same_bit}
use Rattle.plain_judge.proofs.Mirrors.{mirrored_bit, mirrored_twice}

-- each selection of `n` features stands at the place that its features mirror
pub at_its_place : (n : ℕ) (s : Chosen) → s.features ≡ n → s.on < 2 ^ n → s ≡ nth n (mirrored n s.on)
at_its_place n s features small =
    ap (λ (k : ℕ). let t : Chosen = record { features = k; on = s.on } in t) features
    ∙ ap (λ (k : ℕ). let t : Chosen = record { features = n; on = k } in t) (sym (mirrored_twice n s.on small))

high_bits : (i k g : ℕ) → ((h : ℕ) → g < h → bit_at i h ≡ bit_at k h) → i / 2 ^ (g + 1) ≡ k / 2 ^ (g + 1)
high_bits i k g same = same_from_bits (i / 2 ^ (g + 1)) (k / 2 ^ (g + 1)) (λ m. ap (λ q. q % 2) (shr-shr i (g + 1) m) ∙ same (g + 1 + m) (omega arith) ∙ ap (λ q. q % 2) (sym (shr-shr k (g + 1) m)))

halved : (i g : ℕ) → i / 2 ^ g / 2 ≡ i / 2 ^ (g + 1)
halved i g = shr-shr i g 1

-- of two numbers the one that lacks the highest bit where they differ is smaller
pub less_by_bits : (i k g : ℕ) → ((h : ℕ) → g < h → bit_at i h ≡ bit_at k h) → bit_at i g ≡ 0 → bit_at k g ≡ 1 → i < k
less_by_bits i k g same zero_bit one_bit = go (cases_lt i k)
  where
    quotients : i / 2 ^ g + 1 ≡ k / 2 ^ g
    quotients =
        let high = high_bits i k g same in
        let hi = halved i g in
        let hk = halved k g in
        omega (arith, zero_bit, one_bit, high, hi, hk)

    go : (i < k) ⊎ (k ≤ i) → i < k
    go (inl lt) = lt
    go (inr le) =
        let below : k / 2 ^ g * 2 ^ g ≤ i = omega (arith, div-mul-le_self k (2 ^ g), le) in
        let quotient = le-div (k / 2 ^ g) i (2 ^ g) (pow_pos g) below in
        absurd (omega (arith, quotients, quotient))

-- an earlier selection has a smaller place
pub earlier_place : (n i k : ℕ) → i < 2 ^ n → k < 2 ^ n → IsEarlier (nth n i) (nth n k) → i < k
earlier_place n i k small_i small_k earlier = less_by_bits i k (n - 1 - earlier.feature) same lacks has
  where
    at_feature : earlier.feature + (n - 1 - earlier.feature) + 1 ≡ n
    at_feature = let w = earlier.within in omega (arith, w)

    lacks : bit_at i (n - 1 - earlier.feature) ≡ 0
    lacks = sym (mirrored_bit n i earlier.feature (n - 1 - earlier.feature) at_feature) ∙ no_bit (mirrored n i) earlier.feature earlier.lacks

    has : bit_at k (n - 1 - earlier.feature) ≡ 1
    has = sym (mirrored_bit n k earlier.feature (n - 1 - earlier.feature) at_feature) ∙ eqb-true _ 1 earlier.has

    same : (h : ℕ) → n - 1 - earlier.feature < h → bit_at i h ≡ bit_at k h
    same h lt = go (cases_lt h n)
      where
        go : (h < n) ⊎ (n ≤ h) → bit_at i h ≡ bit_at k h
        go (inl within) =
            let w = earlier.within in
            let at : n - 1 - h + h + 1 ≡ n = omega (arith, within) in
            let before : n - 1 - h < earlier.feature = omega (arith, w, lt, within) in
            sym (mirrored_bit n i (n - 1 - h) h at)
            ∙ same_bit _ _ (bit_at-lt (mirrored n i) (n - 1 - h)) (bit_at-lt (mirrored n k) (n - 1 - h)) (earlier.before (n - 1 - h) before)
            ∙ mirrored_bit n k (n - 1 - h) h at
        go (inr above) = bit_at_above i n h small_i above ∙ sym (bit_at_above k n h small_k above)
