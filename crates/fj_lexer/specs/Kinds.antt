-- The kind of a lexeme, and its characters.
use Rattle.std.specs.Prelude.{ℕ, if◌then◌else◌, List, encode_utf8_all}
use Rattle.cfj_words.specs.Names.{is_reserved}
use Rattle.cfj_words.specs.Lexemes.{Lexeme, Word, Mark}
use Rattle.fj_lexer.specs.declared.token.TokenKind.{TokenKind}
use Rattle.fj_lexer.specs.declared.token.TokenKind.TheVariants as kind

-- a word is reserved, or it isn't
abbrev pub word_kind : List ℕ → TokenKind
word_kind word = if is_reserved word then kind.Reserved else kind.Word

abbrev pub kind_of : Lexeme → TokenKind
kind_of (Word cs) = word_kind (encode_utf8_all cs)
kind_of (Mark cs) = kind.Mark

abbrev pub characters_of : Lexeme → List ℕ
characters_of (Word cs) = cs
characters_of (Mark cs) = cs
