-- The table of ASCII's word characters is held against their definition at each byte, by computing.
use Rattle.std.proofs.Common.{◌≡◌, ℕ, ◌<◌, ◌==◌, ◌||◌, ◌&&◌, Bool, true, false, not, nat_eq, nat_lt, get_or, map, refl, sym, ap, ◌∙◌, arith}
use Rattle.std.proofs.lemmas.List.FromFn.{get_or-map-range_with_len}
use Rattle.std.proofs.lemmas.Bool.{ltb-true}
use Rattle.std.specs.Bool.{OnTrue}
use Rattle.std.specs.List.{range_with_len}
use Rattle.std.specs.Char.{is_ascii_alphabetic, is_ascii_alphanumeric}
use Rattle.fj_lexer.specs.declared.ascii.TheConstants.{WORD_BYTES}

-- tests that agree at each number below n
same_below : (f g : ℕ → Bool) (n b : ℕ) → map f (range_with_len 0 n) ≡ map g (range_with_len 0 n) → b < n → f b ≡ g b
same_below f g n b e lt =
    sym (get_or-map-range_with_len f 0 n b b false lt (omega arith))
    ∙ (ap (λ t. get_or t b false) e ∙ get_or-map-range_with_len g 0 n b b false lt (omega arith))

abbrev goes_on : ℕ → Bool
goes_on b = not (nat_eq (get_or WORD_BYTES b 0) 48)

pub continues : (b : ℕ) → b < 256 → not (nat_eq (get_or WORD_BYTES b 0) 48) ≡ (is_ascii_alphanumeric b || b == 95 || b == 36)
continues b = same_below goes_on (λ b. is_ascii_alphanumeric b || b == 95 || b == 36) 256 b refl

pub starts : (b : ℕ) → b < 256 → nat_eq (get_or WORD_BYTES b 0) 50 ≡ (is_ascii_alphabetic b || b == 95 || b == 36)
starts b = same_below (λ b. nat_eq (get_or WORD_BYTES b 0) 50) (λ b. is_ascii_alphabetic b || b == 95 || b == 36) 256 b refl

ascii_or : (b : ℕ) → b < 256 → goes_on b ≡ (goes_on b && nat_lt b 128)
ascii_or b = same_below goes_on (λ b. goes_on b && nat_lt b 128) 256 b refl

below : (t u : Bool) (P : Type 0) → (u ≡ true → P) → t ≡ (t && u) → OnTrue t P
below true u P p e = p (sym e)
below false u P p e = tt

pub ascii : (b : ℕ) → b < 256 → OnTrue (not (nat_eq (get_or WORD_BYTES b 0) 48)) (b < 128)
ascii b lt = below (goes_on b) (nat_lt b 128) (b < 128) (ltb-true b 128) (ascii_or b lt)
