-- a lexeme and the characters behind it are the characters that it was found in
use Rattle.std.proofs.Common.{◌≡◌, ℕ, ◌<◌, ◌==◌, Bool, true, false, if◌then◌else◌, List, [], ◌∷◌, ◌++◌, length, refl, sym, ap, subst, ◌∙◌, arith, lit<}
use Rattle.std.specs.Prelude.{encode_utf8_all}
use Rattle.std.specs.Str.{chars, IsUtf8}
use Rattle.std.proofs.lemmas.List.{append_cancel_right}
use Rattle.std.proofs.lemmas.Bool.{eqb-true}
use Rattle.cfj_words.specs.Names.{starts_word, continues_word}
use Rattle.cfj_words.specs.Lexemes.{Lexeme, Word, Mark, Lexed, Found, AtEnd, NoToken, NoClose, word_run, word_rest, is_single_mark, lexeme_at, after_dash, after_less, after_less_dash}
use Rattle.cfj_words.specs.Characters.{IsSplit}
use Rattle.fj_lexer.specs.Kinds.{characters_of}
use Rattle.fj_lexer.specs.Ends.{IsEndOf}
use Rattle.fj_lexer.specs.Pieces.{IsMarkBefore}
use Rattle.fj_lexer.proofs.TextEnds.{seam, bytes}

-- The characters are this lexeme and the rest, and the lexeme isn't empty.
pub record IsWhole (cs : List ℕ) (l : Lexeme) (rest : List ℕ) : Type 0 where
  pub whole : cs ≡ characters_of l ++ rest
  pub filled : 0 < length (characters_of l)

abbrev Holds : List ℕ → Lexed → Type 0
Holds cs (Found l from rest) = IsWhole cs l rest
Holds cs AtEnd = Unit {0}
Holds cs (NoToken from) = Unit {0}
Holds cs (NoClose from) = Unit {0}

word_split : (cs : List ℕ) → cs ≡ word_run cs ++ word_rest cs
unfolding word_run word_rest
word_split [] = refl
word_split (c ∷ cs) = go (continues_word c) (word_split cs) where
  go : (b : Bool) → cs ≡ word_run cs ++ word_rest cs → c ∷ cs ≡ (if b then c ∷ word_run cs else []) ++ (if b then word_rest cs else c ∷ cs)
  go true e = ap (λ r. c ∷ r) e
  go false e = refl

either : (P : Lexed → Type 0) (b : Bool) (x y : Lexed) → (b ≡ true → P x) → (b ≡ false → P y) → P (if b then x else y)
either P true x y p q = p refl
either P false x y p q = q refl

dash_holds : (c : ℕ) (cs from : List ℕ) → c ≡ 45 → Holds (c ∷ cs) (after_dash from cs)
dash_holds c [] from e = tt
dash_holds c (d ∷ cs) from e =
    either (Holds (c ∷ (d ∷ cs))) (d == 62) (Found (Mark (45 ∷ (62 ∷ []))) from cs) (NoToken from)
    (λ t. record { whole = rw (e, eqb-true d 62 t) refl; filled = lit< tt })
    (λ t. tt)

less_dash_holds : (c d : ℕ) (cs from : List ℕ) → c ≡ 60 → d ≡ 45 → Holds (c ∷ (d ∷ cs)) (after_less_dash from cs)
less_dash_holds c d [] from e f = tt
less_dash_holds c d (b ∷ cs) from e f =
    either (Holds (c ∷ (d ∷ (b ∷ cs)))) (b == 62) (Found (Mark (60 ∷ (45 ∷ (62 ∷ [])))) from cs) (NoToken from)
    (λ t. record { whole = rw (e, f, eqb-true b 62 t) refl; filled = lit< tt })
    (λ t. tt)

less_holds : (c : ℕ) (cs from : List ℕ) → c ≡ 60 → Holds (c ∷ cs) (after_less from cs)
less_holds c [] from e = tt
less_holds c (d ∷ cs) from e =
    either (Holds (c ∷ (d ∷ cs))) (d == 45) (after_less_dash from cs) (NoToken from)
    (λ t. less_dash_holds c d cs from e (eqb-true d 45 t))
    (λ t. tt)

holds : (cs : List ℕ) → Holds cs (lexeme_at cs)
unfolding lexeme_at
holds [] = tt
holds (c ∷ cs) =
    either (Holds (c ∷ cs)) (starts_word c) _ _ (λ t. record { whole = ap (λ r. c ∷ r) (word_split cs); filled = omega arith })
    (λ t. either (Holds (c ∷ cs)) (is_single_mark c) _ _ (λ u. record { whole = refl; filled = lit< tt })
    (λ u. either (Holds (c ∷ cs)) (c == 45) _ _ (λ v. dash_holds c cs (c ∷ cs) (eqb-true c 45 v))
    (λ v. either (Holds (c ∷ cs)) (c == 60) _ _ (λ w. less_holds c cs (c ∷ cs) (eqb-true c 60 w)) (λ w. tt))))

pub whole : (cs : List ℕ) (l : Lexeme) (from rest : List ℕ) → lexeme_at cs ≡ Found l from rest → IsWhole cs l rest
whole cs l from rest e = subst (Holds cs) e (holds cs)

-- a lexeme stands first in the text, and this rest behind it
pub record Stands (text : List ℕ) (l : Lexeme) (rest : List ℕ) : Type 0 where
  pub found : lexeme_at (chars text) ≡ Found l (chars text) (chars rest)
  pub all : IsUtf8 text
  pub utf8 : IsUtf8 rest

pub stands_whole : (text : List ℕ) (l : Lexeme) (rest : List ℕ) → Stands text l rest → text ≡ encode_utf8_all (characters_of l) ++ rest
stands_whole text l rest s = bytes text (characters_of l) rest s.all s.utf8 (whole (chars text) l (chars text) (chars rest) s.found).whole

pub stands_end : (text : List ℕ) (l : Lexeme) (rest : List ℕ) → Stands text l rest → IsEndOf rest text
stands_end text l rest s = seam text (encode_utf8_all (characters_of l)) rest (stands_whole text l rest s)

-- so what stands before the rest is the lexeme's text
pub stands_bytes : (text : List ℕ) (l : Lexeme) (rest part : List ℕ) → Stands text l rest → text ≡ part ++ rest → part ≡ encode_utf8_all (characters_of l)
stands_bytes text l rest part s e = append_cancel_right part (encode_utf8_all (characters_of l)) rest (sym e ∙ stands_whole text l rest s)

word_found : (c : ℕ) (cs : List ℕ) → starts_word c ≡ true → lexeme_at (c ∷ cs) ≡ Found (Word (c ∷ word_run cs)) (c ∷ cs) (word_rest cs)
unfolding lexeme_at
word_found c cs e = rw e refl

pub word : (text : List ℕ) (c : ℕ) (after rest : List ℕ) → IsUtf8 text → IsUtf8 rest → IsSplit text c after → starts_word c ≡ true
    → chars rest ≡ word_rest (chars after) → Stands text (Word (c ∷ word_run (chars after))) rest
word text c after rest u v split e r = record {
  found = rw (split.characters, r) (word_found c (chars after) e);
  all = u;
  utf8 = v;
}

pub mark : (text : List ℕ) (c : ℕ) (after rest : List ℕ) → IsUtf8 text → IsSplit text c after → (m : IsMarkBefore (c ∷ chars after) rest) → Stands text (Mark m.mark) rest
mark text c after rest u split m = record { found = rw split.characters m.found; all = u; utf8 = m.utf8 }
