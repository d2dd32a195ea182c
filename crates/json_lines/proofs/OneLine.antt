-- No newline stands in canonical text.
use Rattle.std.proofs.Common.{◌≡◌, ℕ, zero, suc, ◌<◌, List, [], ◌∷◌, ◌++◌, Bool, true, false, not, ◌&&◌, ◌||◌, ◌==◌, inl, inr, refl, ap, ap₂, ◌∙◌, arith, decimal, ne_eqb}
use Rattle.std.specs.Char.{digit_value}
use Rattle.std.specs.Str.Parse.{AllDigits}
use Rattle.std.proofs.lemmas.Bool.{and_parts, cases_lt, cases_eq}
use Rattle.std.proofs.lemmas.Fmt.{decimal_is_IsNumeral}
use Rattle.std.proofs.lemmas.List.Folds.{list_any-append}
use Rattle.json.proofs.Printed.Strings.{escape_byte_plain}
use Rattle.json.specs.Print.{escape_byte, escape, quoted, token_text}
use Rattle.json.specs.Token.{Token}
use Rattle.serde_json.specs.Data.{Num, unsigned, negative, float, Data, null, boolean, number, string, array, object, Items, no_items, item, Members, no_members, member}
use Rattle.serde_json.specs.Written.{comma_if, compact_text, items_text, members_text, number_text}
use Rattle.json_lines.specs.Canonical.{IsNatural, IsCanonical, AreItemsCanonical, AreMembersCanonical}
use Rattle.json_lines.specs.LineTexts.{has_newline}

abbrev NoNewline : List ℕ → Type 0
NoNewline bytes = has_newline bytes ≡ false

both : (xs ys : List ℕ) → NoNewline xs → NoNewline ys → NoNewline (xs ++ ys)
both xs ys p q = list_any-append (λ byte. byte == 10) xs ys ∙ ap₂ (λ (a b : Bool). a || b) p q

-- ---- texts: the bytes below 128 are looked at one by one, and none of the others is a newline

abbrev none_below : ℕ → Bool
none_below zero = true
none_below (suc n) = not (has_newline (escape_byte n)) && none_below n

not_true : (b : Bool) → not b ≡ true → b ≡ false
not_true true e = cc
not_true false e = refl

escape_below : (n : ℕ) → none_below n ≡ true → (x : ℕ) → x < n → NoNewline (escape_byte x)
escape_below zero e x h = absurd (omega arith)
escape_below (suc n) e x h =
    let p = and_parts _ _ e in
    elim (cases_eq x n) [ inl same ↦ ap (λ y. has_newline (escape_byte y)) same ∙ not_true _ p.0 | inr other ↦ escape_below n p.1 x (omega arith) ]

ascii_escapes : none_below 128 ≡ true
unfolding escape_byte
ascii_escapes = refl

one_byte : (x : ℕ) → (x ≡ 10 → ⊥) → NoNewline (x ∷ [])
one_byte x other = ap (λ b. b || false) (ne_eqb x 10 other)

no_newline-escape_byte : (x : ℕ) → NoNewline (escape_byte x)
no_newline-escape_byte x = elim (cases_lt x 128) [
  | inl small ↦ escape_below 128 ascii_escapes x small
  | inr big ↦ ap has_newline (escape_byte_plain x (λ e. omega arith) (λ e. omega arith) (omega arith)) ∙ one_byte x (λ e. omega arith)
]

no_newline-escape : (s : List ℕ) → NoNewline (escape s)
no_newline-escape [] = refl
no_newline-escape (x ∷ xs) = both (escape_byte x) (escape xs) (no_newline-escape_byte x) (no_newline-escape xs)

no_newline-quoted : (s : List ℕ) → NoNewline (quoted s)
no_newline-quoted s = both (escape s) (34 ∷ []) (no_newline-escape s) refl

-- ---- numbers

no_digit : (d : ℕ) → digit_value d < 10 → d ≡ 10 → ⊥
no_digit d small is = let digit : digit_value d < 10 = small in let same : d ≡ 10 = is in grind arith

no_newline-digits : (ds : List ℕ) → AllDigits 10 ds → NoNewline ds
no_newline-digits [] h = refl
no_newline-digits (d ∷ ds) h = both (d ∷ []) ds (one_byte d (no_digit d h.0)) (no_newline-digits ds h.1)

no_newline-number_text : (n : Num) → IsNatural n → NoNewline (number_text n)
no_newline-number_text (unsigned n) h = no_newline-digits (decimal n) (decimal_is_IsNumeral n h).0.1
no_newline-number_text (negative z) h = absurd h
no_newline-number_text (float x) h = absurd h

no_newline-boolean : (b : Bool) → NoNewline (token_text (Token.boolean b))
no_newline-boolean true = refl
no_newline-boolean false = refl

no_newline-comma_if : (b : Bool) → NoNewline (comma_if b)
no_newline-comma_if true = refl
no_newline-comma_if false = refl

-- ---- the law

mutual
  pub no_newline-compact_text : (d : Data) → IsCanonical d → NoNewline (compact_text d)
  no_newline-compact_text null h = refl
  no_newline-compact_text (boolean b) h = no_newline-boolean b
  no_newline-compact_text (number n) h = no_newline-number_text n h
  no_newline-compact_text (string s) h = no_newline-quoted s
  no_newline-compact_text (array ds) h = no_newline-items_text false ds h
  no_newline-compact_text (object ms) h = no_newline-members_text false ms h.1

  no_newline-items_text : (later : Bool) (ds : Items) → AreItemsCanonical ds → NoNewline (items_text later ds)
  no_newline-items_text later no_items h = refl
  no_newline-items_text later (item d ds) h =
      both (comma_if later) (compact_text d ++ items_text true ds) (no_newline-comma_if later)
      (both (compact_text d) (items_text true ds) (no_newline-compact_text d h.0) (no_newline-items_text true ds h.1))

  no_newline-members_text : (later : Bool) (ms : Members) → AreMembersCanonical ms → NoNewline (members_text later ms)
  no_newline-members_text later no_members h = refl
  no_newline-members_text later (member k d ms) h =
      both (comma_if later) (quoted k ++ 58 ∷ (compact_text d ++ members_text true ms)) (no_newline-comma_if later)
      (both (quoted k) (58 ∷ (compact_text d ++ members_text true ms)) (no_newline-quoted k)
      (both (compact_text d) (members_text true ms) (no_newline-compact_text d h.0) (no_newline-members_text true ms h.1)))
