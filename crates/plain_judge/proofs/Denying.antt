-- The two sets of the clause that denies a selection, made feature by feature.
use Rattle.std.proofs.Common.{◌≡◌, ℕ, ◌+◌, ◌^◌, ◌<◌, ◌≤◌, Bool, true, false, not, ◌⊎◌, inl, inr, bit_or, sym, ◌∙◌, ap, arith}
use Rattle.std.proofs.lemmas.Bool.{cases_lt, cases_eq}
use Rattle.cfj_logic.specs.Selections.{Chosen, has_bit, is_on}
use Rattle.cfj_logic.proofs.FeatureBits.{has_bit_same, has_bit_other, has_bit_none}
use Rattle.plain_judge.specs.Denials.{lacking}
use Rattle.plain_judge.proofs.Bits.{lacking_has, lacking_past, none_past, same_from_members}

-- of the features below `upto` the set has those of which the test says so, and it has no other
pub record IsSetTo (told : ℕ → Bool) (upto set : ℕ) : Type 0 where
  pub each : (f : ℕ) → f < upto → has_bit set f ≡ told f
  pub none : (f : ℕ) → upto ≤ f → has_bit set f ≡ false

set_to_none : (told : ℕ → Bool) → IsSetTo told 0 0
set_to_none told = record { each = λ f lt. absurd (omega arith); none = λ f le. has_bit_none f }

set_to_with : (told : ℕ → Bool) (f set : ℕ) → told f ≡ true → IsSetTo told f set → IsSetTo told (f + 1) (bit_or set (2 ^ f))
set_to_with told f set is so_far = record { each = λ h lt. each h lt (cases_eq h f); none = λ h le. has_bit_other set f h (λ e. omega (arith, le, e)) ∙ so_far.none h (omega arith) }
  where
    each : (h : ℕ) → h < f + 1 → (h ≡ f) ⊎ (h ≡ f → ⊥) → has_bit (bit_or set (2 ^ f)) h ≡ told h
    each h lt (inl same) = ap (has_bit (bit_or set (2 ^ f))) same ∙ has_bit_same set f ∙ sym is ∙ ap told (sym same)
    each h lt (inr other) = has_bit_other set f h other ∙ so_far.each h (omega (arith, lt, other))

set_to_without : (told : ℕ → Bool) (f set : ℕ) → told f ≡ false → IsSetTo told f set → IsSetTo told (f + 1) set
set_to_without told f set is so_far = record { each = λ h lt. each h lt (cases_eq h f); none = λ h le. so_far.none h (omega arith) }
  where
    each : (h : ℕ) → h < f + 1 → (h ≡ f) ⊎ (h ≡ f → ⊥) → has_bit set h ≡ told h
    each h lt (inl same) = so_far.none h (omega (arith, same)) ∙ sym is ∙ ap told (sym same)
    each h lt (inr other) = so_far.each h (omega (arith, lt, other))

-- of the features below `upto` the first set has those that the selection lacks, and the second those that it has
pub record IsDeniedTo (s : Chosen) (upto on off : ℕ) : Type 0 where
  pub lacked : IsSetTo (λ f. not (is_on s f)) upto on
  pub had : IsSetTo (is_on s) upto off

pub denied_to_none : (s : Chosen) → IsDeniedTo s 0 0 0
denied_to_none s = record { lacked = set_to_none (λ f. not (is_on s f)); had = set_to_none (is_on s) }

pub denied_to_had : (s : Chosen) (f on off : ℕ) → is_on s f ≡ true → IsDeniedTo s f on off → IsDeniedTo s (f + 1) on (bit_or off (2 ^ f))
denied_to_had s f on off is so_far =
    record { lacked = set_to_without (λ f. not (is_on s f)) f on (ap not is) so_far.lacked; had = set_to_with (is_on s) f off is so_far.had }

pub denied_to_lacked : (s : Chosen) (f on off : ℕ) → is_on s f ≡ false → IsDeniedTo s f on off → IsDeniedTo s (f + 1) (bit_or on (2 ^ f)) off
denied_to_lacked s f on off is so_far =
    record { lacked = set_to_with (λ f. not (is_on s f)) f on (ap not is) so_far.lacked; had = set_to_without (is_on s) f off is so_far.had }

-- after the last feature they are the two sides of the clause
pub denied_to_all : (s : Chosen) (upto on off : ℕ) → upto ≡ s.features → s.on < 2 ^ s.features → IsDeniedTo s upto on off → (on ≡ lacking s) × (off ≡ s.on)
denied_to_all s upto on off last small so_far = (same_from_members on (lacking s) (λ f. lacked f (cases_lt f s.features)), same_from_members off s.on (λ f. had f (cases_lt f s.features)))
  where
    lacked : (f : ℕ) → (f < s.features) ⊎ (s.features ≤ f) → has_bit on f ≡ has_bit (lacking s) f
    lacked f (inl lt) = so_far.lacked.each f (omega arith) ∙ sym (lacking_has s f lt)
    lacked f (inr le) = so_far.lacked.none f (omega arith) ∙ sym (lacking_past s f small le)

    had : (f : ℕ) → (f < s.features) ⊎ (s.features ≤ f) → has_bit off f ≡ has_bit s.on f
    had f (inl lt) = so_far.had.each f (omega arith)
    had f (inr le) = so_far.had.none f (omega arith) ∙ sym (none_past s.features s.on f small le)
