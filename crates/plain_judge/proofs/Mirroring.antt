-- A selection that is made feature by feature from the bits of a place.
use Rattle.std.proofs.Common.{◌≡◌, ℕ, ◌+◌, ◌-◌, ◌^◌, ◌<◌, ◌≤◌, true, false, ◌==◌, ◌⊎◌, inl, inr, bit_or, refl, sym, ◌∙◌, ap, arith}
use Rattle.std.proofs.lemmas.Bool.{cases_eq}
use Rattle.std.proofs.lemmas.Nat.{or_lt, pow_pos}
use Rattle.std.proofs.Math.Pow.{pow-lt}
use Rattle.cfj_logic.specs.Selections.{Chosen, has_bit, is_on}
use Rattle.cfj_logic.proofs.FeatureBits.{has_bit_same, has_bit_other, has_bit_none}
use Rattle.plain_judge.specs.Order.{mirrored, nth}
use Rattle.plain_judge.proofs.Mirrors.{mirrored_below, mirrored_bit}
use Rattle.plain_judge.proofs.Bits.{same_from_features}

-- the features below `upto` are selected as the place tells, and none from there on
pub record IsMirroredTo (n place upto : ℕ) (s : Chosen) : Type 0 where
  pub features : s.features ≡ n
  pub within : s.on < 2 ^ n
  pub each : (f g : ℕ) → f < upto → f + g + 1 ≡ n → is_on s f ≡ has_bit place g
  pub none : (f : ℕ) → upto ≤ f → is_on s f ≡ false

pub mirrored_to_none : (n place : ℕ) → IsMirroredTo n place 0 (record { features = n; on = 0 })
mirrored_to_none n place = record { features = refl; within = pow_pos n; each = λ f g lt at. absurd (omega arith); none = λ f le. has_bit_none f }

-- the next feature is selected where its bit is 1
pub mirrored_to_with : (n place f g : ℕ) (s : Chosen) → f + g + 1 ≡ n → has_bit place g ≡ true → IsMirroredTo n place f s → IsMirroredTo n place (f + 1) (record { features = s.features; on = bit_or s.on (2 ^ f) })
mirrored_to_with n place f g s at bit so_far = record { features = so_far.features; within = or_lt n s.on (2 ^ f) so_far.within (pow-lt (let e : f < n = omega arith in e)); each = each; none = none }
  where
    each : (h k : ℕ) → h < f + 1 → h + k + 1 ≡ n → has_bit (bit_or s.on (2 ^ f)) h ≡ has_bit place k
    each h k lt there = go (cases_eq h f)
      where
        go : (h ≡ f) ⊎ (h ≡ f → ⊥) → has_bit (bit_or s.on (2 ^ f)) h ≡ has_bit place k
        go (inl same) =
            let bits : g ≡ k = omega (arith, same, at, there) in
            ap (has_bit (bit_or s.on (2 ^ f))) same ∙ has_bit_same s.on f ∙ sym bit ∙ ap (has_bit place) bits
        go (inr other) = has_bit_other s.on f h other ∙ so_far.each h k (omega (arith, lt, other)) there

    none : (h : ℕ) → f + 1 ≤ h → has_bit (bit_or s.on (2 ^ f)) h ≡ false
    none h le = has_bit_other s.on f h (λ e. omega (arith, le, e)) ∙ so_far.none h (omega arith)

-- and isn't where its bit is 0
pub mirrored_to_without : (n place f g : ℕ) (s : Chosen) → f + g + 1 ≡ n → has_bit place g ≡ false → IsMirroredTo n place f s → IsMirroredTo n place (f + 1) s
mirrored_to_without n place f g s at bit so_far = record { features = so_far.features; within = so_far.within; each = each; none = λ h le. so_far.none h (omega arith) }
  where
    each : (h k : ℕ) → h < f + 1 → h + k + 1 ≡ n → is_on s h ≡ has_bit place k
    each h k lt there = go (cases_eq h f)
      where
        go : (h ≡ f) ⊎ (h ≡ f → ⊥) → is_on s h ≡ has_bit place k
        go (inl same) =
            let bits : g ≡ k = omega (arith, same, at, there) in
            so_far.none h (omega (arith, same)) ∙ sym bit ∙ ap (has_bit place) bits
        go (inr other) = so_far.each h k (omega (arith, lt, other)) there

-- after the last feature it is the selection at this place
pub mirrored_to_all : (n place : ℕ) (s : Chosen) → IsMirroredTo n place n s → s ≡ nth n place
mirrored_to_all n place s so_far =
    ap (λ (k : ℕ). let t : Chosen = record { features = k; on = s.on } in t) so_far.features
    ∙ ap (λ (k : ℕ). let t : Chosen = record { features = n; on = k } in t) (same_from_features n s.on (mirrored n place) so_far.within (mirrored_below n place) bits)
  where
    bits : (f : ℕ) → f < n → has_bit s.on f ≡ has_bit (mirrored n place) f
    bits f lt =
        let there : f + (n - 1 - f) + 1 ≡ n = omega arith in
        so_far.each f (n - 1 - f) lt there ∙ ap (λ (b : ℕ). b == 1) (sym (mirrored_bit n place f (n - 1 - f) there))
