-- No public contract cites this: it serves the proofs.
-- What the parts of a token are while it is read.
use Rattle.std.specs.Prelude.{◌≡◌, ℕ, Bool, false, ◌==◌, nat_lt, List, [], ◌∷◌, ◌++◌, encode_utf8_all}
use Rattle.std.specs.Str.{chars, IsUtf8}
use Rattle.cfj_words.specs.Lexemes.{Lexeme, Mark, Found, lexeme_at}
use Rattle.fj_lexer.specs.declared.lexeme.Piece.{Piece}
use Rattle.fj_lexer.specs.Kinds.{kind_of, characters_of}

-- whether these characters begin with this one
abbrev pub begins : ℕ → List ℕ → Bool
begins c [] = false
begins c (d ∷ ds) = d == c

-- whether these characters begin with an ASCII one
abbrev pub begins_ascii : List ℕ → Bool
begins_ascii [] = false
begins_ascii (c ∷ cs) = nat_lt c 128

-- the text is this character and the rest
pub record IsBehind (text : List ℕ) (c : ℕ) (rest : List ℕ) : Type 0 where
  pub characters : chars text ≡ c ∷ chars rest
  pub utf8 : IsUtf8 rest

-- a punctuation text stands first, and this rest behind it
pub record IsMarkBefore (cs : List ℕ) (rest : List ℕ) : Type 0 where
  pub mark : List ℕ
  pub found : lexeme_at cs ≡ Found (Mark mark) cs (chars rest)
  pub utf8 : IsUtf8 rest

-- what stands first in the text
pub record IsPiece (text : List ℕ) (piece : Piece) : Type 0 where
  pub lexeme : Lexeme
  pub found : lexeme_at (chars text) ≡ Found lexeme (chars text) (chars piece.rest.now)
  pub kind : piece.kind ≡ kind_of lexeme
  pub bytes : piece.text.now ≡ encode_utf8_all (characters_of lexeme)
  pub whole : text ≡ piece.text.now ++ piece.rest.now
  pub utf8 : IsUtf8 piece.rest.now
