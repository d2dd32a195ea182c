-- Numbers of one to five digits that `parse` refuses.
use Rattle.std.proofs.Common.{◌≡◌, ℕ, ◌<◌, ◌^◌, ◌&&◌, ap, ap₂, false, true, List, length, None, Err, Result, arith, refl, sym, inl, inr}
use Rattle.std.specs.List.{list_all}
use Rattle.std.specs.Char.{is_ascii_digit}
use Rattle.std.specs.Prelude.{nat_le, cond, Some}
use Rattle.std.specs.Str.Parse.{ParsesUnsigned, digits_value}
use Rattle.std.proofs.lemmas.Bool.{and_parts, and_right, cases_lt, leb-true, le-leb, lt-leb}
use Rattle.std.proofs.lemmas.Str.Parse.{IsDigitsTest, numerals_by_value, parse_digits}
use Rattle.command_words.specs.Asked.{is_short_number, number_of}

tells : IsDigitsTest (λ ds. list_all is_ascii_digit ds ≡ true)
tells = record {
  empty = refl;
  parts = λ c cs e.
      let k = and_parts (is_ascii_digit c) (list_all is_ascii_digit cs) e in
      let m = and_parts (nat_le 48 c) (nat_le c 57) k.0 in
      ((leb-true 48 c m.0, leb-true c 57 m.1), k.1);
  more = λ c cs k e. ap₂ (λ x y. x && y) (ap₂ (λ x y. x && y) (le-leb 48 c k.0) (le-leb c 57 k.1)) e;
}

-- a short number that `parse` refuses is past every `most`
pub too_large : {E : Type 0} (least most : ℕ) (text : List ℕ) (r : Result ℕ E) (e : E) → ParsesUnsigned 32 10 text r → r ≡ Err e
    → is_short_number text ≡ true → most < 2 ^ 32 → None ≡ number_of least most text
too_large least most text r e parses is short fits =
    let parts = and_parts (nat_le 1 (length text)) _ short in
    let digits = and_parts (nat_le (length text) 5) (list_all is_ascii_digit text) parts.1 in
    let refused = parse_digits (numerals_by_value _ tells) 32 text (Err e) (rw is at parses) digits.1 in
    let some : 0 < length text = leb-true 1 (length text) parts.0 in
    let past : most < digits_value 10 text = elim (cases_lt (digits_value 10 text) (2 ^ 32)) [
      | inl small ↦ absurd (refused (some, small))
      | inr large ↦ omega arith
    ] in
    go (digits_value 10 text) (and_right (nat_le least (digits_value 10 text)) _ (lt-leb (digits_value 10 text) most past))
  where
    go : (n : ℕ) → (nat_le least n && nat_le n most) ≡ false
        → None ≡ cond (is_short_number text && (nat_le least n && nat_le n most)) (Some n) None
    go n outside = ap (λ b. cond b (Some n) None) (sym (and_right (is_short_number text) _ outside))
