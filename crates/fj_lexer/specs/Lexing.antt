-- What a token says of the source, and what a call of the lexer gives.
use Rattle.std.specs.Prelude.{◌≡◌, ℕ, ◌+◌, List, [], length, Option, Some, None, Result, Ok, Err, IfSome, IfOk, encode_utf8_all}
use Rattle.std.specs.List.{slice_range}
use Rattle.std.specs.Str.{chars}
use Rattle.cfj_words.specs.Lexemes.{Lexeme, Lexed, Found, AtEnd, NoToken, NoClose}
use Rattle.cfj_words.specs.Tokens.{place_of}
use Rattle.fj_lexer.specs.declared.token.Token.{Token}
use Rattle.fj_lexer.specs.declared.token.LexFault.{LexFault}
use Rattle.fj_lexer.specs.declared.token.LexFault.TheVariants.{BadChar, OpenComment}
use Rattle.fj_lexer.specs.declared.lexer.Lexer.{Lexer}
use Rattle.fj_lexer.specs.Kinds.{kind_of, characters_of}

-- The token is this lexeme, which begins where this end of the source begins.
pub record IsToken (text : List ℕ) (l : Lexeme) (from : List ℕ) (token : Token) : Type 0 where
  pub kind : token.kind ≡ kind_of l
  pub bytes : token.text.now ≡ encode_utf8_all (characters_of l)
  pub place : token.at ≡ place_of text from
  pub sliced : slice_range text token.at (token.at + length token.text.now) ≡ token.text.now

-- The call gives this lexeme as a token, and the lexer then stands behind it.
pub record GivesToken (l : Lexeme) (from behind : List ℕ) (old new : Lexer) (result : Option (Result Token LexFault)) : Type 0 where
  pub token : Token
  pub given : result ≡ Some (Ok token)
  pub is : IsToken old.text.now l from token
  pub rest : chars new.rest.now ≡ behind

-- The call gives this, and nothing is left to be read.
pub record GivesLast (outcome : Option (Result Token LexFault)) (new : Lexer) (result : Option (Result Token LexFault)) : Type 0 where
  pub given : result ≡ outcome
  pub rest : new.rest.now ≡ []

-- What a call gives where this stands first in what is to be read. Behind the end or a fault every later call gives the end.
abbrev pub Gives : Lexed → Lexer → Lexer → Option (Result Token LexFault) → Type 0
Gives (Found l from rest) old new result = GivesToken l from rest old new result
Gives AtEnd old new result = GivesLast None new result
Gives (NoToken from) old new result = GivesLast (Some (Err (BadChar (place_of old.text.now from)))) new result
Gives (NoClose from) old new result = GivesLast (Some (Err (OpenComment (place_of old.text.now from)))) new result

-- where a call gives a token, this holds of it
abbrev pub IfToken : Option (Result Token LexFault) → (Token → Type 0) → Type 0
IfToken result P = IfSome result (λ r. IfOk r P)
