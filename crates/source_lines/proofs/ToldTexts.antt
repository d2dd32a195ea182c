-- The lines of a text that is told.
use Rattle.std.proofs.Common.{◌≡◌, ℕ, ◌<◌, ◌≤◌, List, [], ◌∷◌, ◌++◌, length, false, ◌==◌, if◌then◌else◌, Some, None, unwrap_or, inl, inr, refl, sym, ap, ◌∙◌, arith, append_assoc, append-nil}
use Rattle.std.proofs.lemmas.Bool.{or_parts}
use Rattle.cide_io.specs.Known.{Known, preceded}
use Rattle.source_lines.specs.LineReads.{has_newline, IsNextLine, IsLong}
use Rattle.source_lines.specs.Texts.{lines_in, with_first}

-- a byte that is no newline begins the first line
first_byte : (byte : ℕ) (rest : List ℕ) → (byte == 10) ≡ false → lines_in (byte ∷ rest) ≡ with_first byte (lines_in rest)
first_byte byte rest e = ap (λ b. if b then [] ∷ lines_in rest else with_first byte (lines_in rest)) e

lines_in-newline : (line rest : List ℕ) → has_newline line ≡ false → lines_in (line ++ 10 ∷ rest) ≡ line ∷ lines_in rest
lines_in-newline [] rest h = refl
lines_in-newline (x ∷ xs) rest h = let p = or_parts (x == 10) (has_newline xs) h in first_byte x (xs ++ 10 ∷ rest) p.0 ∙ ap (with_first x) (lines_in-newline xs rest p.1)

lines_in-last : (line : List ℕ) → has_newline line ≡ false → 0 < length line → lines_in line ≡ line ∷ []
lines_in-last [] h some = absurd (omega arith)
lines_in-last (x ∷ []) h some = first_byte x [] (or_parts (x == 10) false h).0
lines_in-last (x ∷ y ∷ ys) h some = let p = or_parts (x == 10) (has_newline (y ∷ ys)) h in first_byte x (y ∷ ys) p.0 ∙ ap (with_first x) (lines_in-last (y ∷ ys) p.1 (omega arith))

-- The first of some lines has so many bytes at least.
abbrev IsFirstOver : List (List ℕ) → ℕ → Type 0
IsFirstOver all size = (line : List ℕ) × (lines : List (List ℕ)) × (all ≡ line ∷ lines) × (size ≤ length line)

one_byte : (x : ℕ) (lines : List (List ℕ)) → IsFirstOver (with_first x lines) 1
one_byte x [] = (x ∷ [], [], refl, omega arith)
one_byte x (l ∷ ls) = (x ∷ l, ls, refl, omega arith)

lines_in-long : (front rest : List ℕ) → has_newline front ≡ false → 0 < length front → IsFirstOver (lines_in (front ++ rest)) (length front)
lines_in-long [] rest h some = absurd (omega arith)
lines_in-long (x ∷ []) rest h some =
    let first = one_byte x (lines_in rest) in
    (first.0, first.1, first_byte x rest (or_parts (x == 10) false h).0 ∙ first.2, omega (arith, first.3))
lines_in-long (x ∷ y ∷ ys) rest h some =
    let p = or_parts (x == 10) (has_newline (y ∷ ys)) h in
    let more = lines_in-long (y ∷ ys) rest p.1 (omega arith) in
    (x ∷ more.0, more.1, first_byte x ((y ∷ ys) ++ rest) p.0 ∙ ap (with_first x) more.2, omega (arith, more.3))

same_text : (t u : List ℕ) → Some t ≡ Some u → t ≡ u
same_text t u e = ap (λ o. unwrap_or o []) e

not_told : (t : List ℕ) → Some t ≡ None → ⊥
not_told t e = cc

pub next_told : (t line : List ℕ) (new : Known) → IsNextLine (Some t) line new → (rest : List ℕ) × (new ≡ Some rest) × (lines_in t ≡ line ∷ lines_in rest)
next_told t line None h = elim h.1 [ inl e ↦ absurd (not_told t e) | inr e ↦ absurd (not_told t e.0) ]
next_told t line (Some rest) h = elim h.1 [
  | inl e ↦ (rest, refl, ap lines_in (same_text t _ e ∙ append_assoc line (10 ∷ []) rest) ∙ lines_in-newline line rest h.0)
  | inr e ↦ (rest, refl, ap lines_in (same_text t _ e.0 ∙ ap (λ r. line ++ r) e.1 ∙ append-nil line) ∙ lines_in-last line h.0 e.2 ∙ ap (λ r. line ∷ lines_in r) (sym e.1))
]

long_in : (t : List ℕ) (limit : ℕ) (front : List ℕ) (rest : Known) → Some t ≡ preceded front rest → has_newline front ≡ false → limit < length front
    → (line : List ℕ) × (lines : List (List ℕ)) × (lines_in t ≡ line ∷ lines) × (limit < length line)
long_in t limit front None e none long = absurd (not_told t e)
long_in t limit front (Some rest) e none long =
    let first = lines_in-long front rest none (omega arith) in
    (first.0, first.1, ap lines_in (same_text t (front ++ rest) e) ∙ first.2, omega (arith, first.3))

pub long_told : (t : List ℕ) (limit : ℕ) → IsLong (Some t) limit → (line : List ℕ) × (lines : List (List ℕ)) × (lines_in t ≡ line ∷ lines) × (limit < length line)
long_told t limit h = long_in t limit h.0 h.1 h.2 h.3 h.4
