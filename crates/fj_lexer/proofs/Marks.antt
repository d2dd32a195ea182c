-- which punctuation text begins with a character that begins no word
use Rattle.std.proofs.Common.{◌≡◌, ℕ, ◌==◌, false, true, List, [], ◌∷◌, refl, Option, Some, None}
use Rattle.std.specs.Prelude.{MatchOption}
use Rattle.std.specs.Str.{chars, IsUtf8}
use Rattle.cfj_words.specs.Names.{starts_word}
use Rattle.cfj_words.specs.Lexemes.{NoToken, is_single_mark, lexeme_at, after_dash, after_less, after_less_dash}
use Rattle.fj_lexer.specs.Pieces.{begins, IsBehind, IsMarkBefore}
use denote.Ref.{Bor}

pub single : (c : ℕ) (text : List ℕ) → IsUtf8 text → starts_word c ≡ false → is_single_mark c ≡ true → IsMarkBefore (c ∷ chars text) text
unfolding lexeme_at
single c text u word mark = record { mark = c ∷ []; found = rw (word, mark) refl; utf8 = u }

-- a character that is no punctuation text by itself
pub record IsNeither (c : ℕ) : Type 0 where
  pub word : starts_word c ≡ false
  pub mark : is_single_mark c ≡ false

at_dash : (c : ℕ) (cs : List ℕ) → IsNeither c → c ≡ 45 → lexeme_at (c ∷ cs) ≡ after_dash (c ∷ cs) cs
unfolding lexeme_at
at_dash c cs n e = rw (n.word, n.mark, e) refl

at_less : (c : ℕ) (cs : List ℕ) → IsNeither c → c ≡ 60 → lexeme_at (c ∷ cs) ≡ after_less (c ∷ cs) cs
unfolding lexeme_at
at_less c cs n e = rw (n.word, n.mark, e) refl

pub at_other : (c : ℕ) (cs : List ℕ) → IsNeither c → (c == 45) ≡ false → (c == 60) ≡ false → lexeme_at (c ∷ cs) ≡ NoToken (c ∷ cs)
unfolding lexeme_at
at_other c cs n dash less = rw (n.word, n.mark, dash, less) refl

no_dash : (from cs : List ℕ) → begins 62 cs ≡ false → after_dash from cs ≡ NoToken from
no_dash from [] e = refl
no_dash from (c ∷ cs) e = rw e refl

no_less_dash : (from cs : List ℕ) → begins 62 cs ≡ false → after_less_dash from cs ≡ NoToken from
no_less_dash from [] e = refl
no_less_dash from (c ∷ cs) e = rw e refl

no_less : (from cs : List ℕ) → begins 45 cs ≡ false → after_less from cs ≡ NoToken from
no_less from [] e = refl
no_less from (c ∷ cs) e = rw e refl

pub dash : (c : ℕ) (text : List ℕ) (r : Option (Bor (List ℕ))) → IsNeither c → c ≡ 45
    → MatchOption r (begins 62 (chars text) ≡ false) (λ rest. IsBehind text 62 rest.now)
    → MatchOption r (lexeme_at (c ∷ chars text) ≡ NoToken (c ∷ chars text)) (λ rest. IsMarkBefore (c ∷ chars text) rest.now)
dash c text None n e missing = rw (at_dash c (chars text) n e) (no_dash (c ∷ chars text) (chars text) missing)
dash c text (Some rest) n e b = record {
  mark = 45 ∷ (62 ∷ []);
  found = rw (at_dash c (chars text) n e) (rw b.characters refl);
  utf8 = b.utf8;
}

pub less_alone : (c : ℕ) (text : List ℕ) → IsNeither c → c ≡ 60 → begins 45 (chars text) ≡ false → lexeme_at (c ∷ chars text) ≡ NoToken (c ∷ chars text)
less_alone c text n e missing = rw (at_less c (chars text) n e) (no_less (c ∷ chars text) (chars text) missing)

less_dash : (c : ℕ) (text behind : List ℕ) → IsNeither c → c ≡ 60 → IsBehind text 45 behind → lexeme_at (c ∷ chars text) ≡ after_less_dash (c ∷ chars text) (chars behind)
less_dash c text behind n e b = rw (at_less c (chars text) n e) (rw b.characters refl)

pub less : (c : ℕ) (text behind : List ℕ) (r : Option (Bor (List ℕ))) → IsNeither c → c ≡ 60 → IsBehind text 45 behind
    → MatchOption r (begins 62 (chars behind) ≡ false) (λ rest. IsBehind behind 62 rest.now)
    → MatchOption r (lexeme_at (c ∷ chars text) ≡ NoToken (c ∷ chars text)) (λ rest. IsMarkBefore (c ∷ chars text) rest.now)
less c text behind None n e b missing = rw (less_dash c text behind n e b) (no_less_dash (c ∷ chars text) (chars behind) missing)
less c text behind (Some rest) n e b f = record {
  mark = 60 ∷ (45 ∷ (62 ∷ []));
  found = rw (less_dash c text behind n e b) (rw f.characters refl);
  utf8 = f.utf8;
}
