-- The tokens that the grammar speaks of, and how a text gives them, with their places.
use Rattle.std.specs.Prelude.{◌≡◌, ℕ, ◌-◌, Bool, true, false, if◌then◌else◌, List, [], ◌∷◌, length, codes, encode_utf8_all, Option, Some, None}
use Rattle.std.specs.Str.{bytes_eq}
use Rattle.cfj_words.specs.Names.{is_reserved}
use Rattle.cfj_words.specs.Lexemes.{Lexeme, Word, Mark, Lexed, Found, AtEnd, NoToken, NoClose, next_lexeme}

-- An identifier with its text; a reserved word, by itself where the grammar uses it; a punctuation text; the end of the text.
pub data Token : Type 0 where
  Id : List ℕ → Token
  ClassWord : Token
  ExtendsWord : Token
  SuperWord : Token
  ThisWord : Token
  NewWord : Token
  ReturnWord : Token
  TrueWord : Token
  FalseWord : Token
  ReservedWord : Token
  OpenBrace : Token
  CloseBrace : Token
  OpenParen : Token
  CloseParen : Token
  Semicolon : Token
  Comma : Token
  Dot : Token
  Equals : Token
  At : Token
  Bang : Token
  Ampersand : Token
  Bar : Token
  Arrow : Token
  DoubleArrow : Token
  End : Token

-- the token that a word is
unfoldable pub word_token : List ℕ → Token
word_token w =
    if bytes_eq w (codes "class") then ClassWord
    else if bytes_eq w (codes "extends") then ExtendsWord
    else if bytes_eq w (codes "super") then SuperWord
    else if bytes_eq w (codes "this") then ThisWord
    else if bytes_eq w (codes "new") then NewWord
    else if bytes_eq w (codes "return") then ReturnWord
    else if bytes_eq w (codes "true") then TrueWord
    else if bytes_eq w (codes "false") then FalseWord
    else if is_reserved w then ReservedWord
    else Id w

-- and a punctuation text
unfoldable pub mark_token : List ℕ → Token
mark_token m =
    if bytes_eq m (codes "{") then OpenBrace
    else if bytes_eq m (codes "}") then CloseBrace
    else if bytes_eq m (codes "(") then OpenParen
    else if bytes_eq m (codes ")") then CloseParen
    else if bytes_eq m (codes ";") then Semicolon
    else if bytes_eq m (codes ",") then Comma
    else if bytes_eq m (codes ".") then Dot
    else if bytes_eq m (codes "=") then Equals
    else if bytes_eq m (codes "@") then At
    else if bytes_eq m (codes "!") then Bang
    else if bytes_eq m (codes "&") then Ampersand
    else if bytes_eq m (codes "|") then Bar
    else if bytes_eq m (codes "->") then Arrow
    else DoubleArrow

-- The text of a lexeme is its characters in UTF-8.
abbrev pub token_of : Lexeme → Token
token_of (Word cs) = word_token (encode_utf8_all cs)
token_of (Mark cs) = mark_token (encode_utf8_all cs)

-- The next token of these characters, with the text from it on; `End` at the end; none at a lexical fault.
abbrev pub token_seen : Lexed → Option (Token × List ℕ)
token_seen (Found l from rest) = Some (token_of l, from)
token_seen AtEnd = Some (End, [])
token_seen (NoToken from) = None
token_seen (NoClose from) = None

-- These characters begin with the tokens, and the rest stands behind them.
abbrev pub Takes : List ℕ → List Token → List ℕ → Type 0
Takes cs [] rest = cs ≡ rest
Takes cs (t ∷ ts) rest = (l : Lexeme) × (from mid : List ℕ) × (next_lexeme cs ≡ Found l from mid) × (token_of l ≡ t) × Takes mid ts rest

-- the place in a text at which its end, these characters, begins
abbrev pub place_of : List ℕ → List ℕ → ℕ
place_of text from = length text - length (encode_utf8_all from)

-- a reserved word, whether the grammar uses it or not
abbrev pub is_reserved_word : Token → Bool
is_reserved_word ClassWord = true
is_reserved_word ExtendsWord = true
is_reserved_word SuperWord = true
is_reserved_word ThisWord = true
is_reserved_word NewWord = true
is_reserved_word ReturnWord = true
is_reserved_word TrueWord = true
is_reserved_word FalseWord = true
is_reserved_word ReservedWord = true
is_reserved_word _ = false
