-- The first fault of a text that isn't one of a language.
use Rattle.std.specs.Prelude.{◌≡◌, ℕ, true, false, List, [], ◌∷◌, ◌++◌, length, take, Option, Some, None}
use Rattle.std.specs.Str.{chars, IsUtf8, IsValidUpTo}
use Rattle.cfj_model.specs.declared.fault.FaultKind.{FaultKind}
use Rattle.cfj_model.specs.declared.fault.FaultKind.TheVariants.{BadChar, OpenComment, Unexpected, Reserved, NotUtf8}
use Rattle.cfj_words.specs.Names.{is_identifier}
use Rattle.cfj_words.specs.Lexemes.{Lexed, Found, AtEnd, NoToken, NoClose, next_lexeme}
use Rattle.cfj_words.specs.Tokens.{Token, Id, End, Takes, token_seen, place_of, is_reserved_word}
use Rattle.cfj_model.specs.Languages.{Language}
use Rattle.cfj_model.specs.Roles.{Role, other_token, tallied, broken_by, AreWithin, are_settled}

-- A text of the language begins with these tokens, in these roles.
pub record Begins {V : Type 0} (l : Language V) (front : List Token) (rs : List Role) : Type 0 where
  pub tree : l.Tree
  pub more : List Token
  pub others : List Role
  pub text : l.spell tree (End ∷ []) ≡ front ++ more
  pub in_roles : l.roles tree (other_token ∷ []) ≡ rs ++ others
  pub each : length rs ≡ length front

-- a text of the language can go on from here
abbrev pub CanGoOn : {V : Type 0} → Language V → List Token → Type 0
CanGoOn l front = (rs : List Role) × Begins l front rs

-- How a token that can't stand here is named: Reserved where it is a reserved word and some identifier could stand in its
-- place, else Unexpected.
pub data IsMisplaced {V : Type 0} (l : Language V) (front : List Token) (t : Token) : FaultKind → Type 0 where
  reserved : is_reserved_word t ≡ true → (w : List ℕ) → is_identifier w ≡ true → CanGoOn l (front ++ Id w ∷ []) → IsMisplaced l front t Reserved
  other : is_reserved_word t ≡ false → IsMisplaced l front t Unexpected
  no_name : ((w : List ℕ) → is_identifier w ≡ true → CanGoOn l (front ++ Id w ∷ []) → ⊥) → IsMisplaced l front t Unexpected

-- The tokens before the rest of a text, with which a text of the language can begin in these roles. A bracket is a cast's only
-- where the tokens that make it one stand among them.
pub record Front {V : Type 0} (l : Language V) (text : List ℕ) : Type 0 where
  pub utf8 : IsUtf8 text
  pub tokens : List Token
  pub rest : List ℕ
  pub taken : Takes (chars text) tokens rest
  pub roles : List Role
  pub begins : Begins l tokens roles
  pub settled : are_settled roles ≡ true

-- a lexical fault, with the text from its place on
abbrev pub lexical_fault : Lexed → Option (FaultKind × List ℕ)
lexical_fault (NoToken from) = Some (BadChar, from)
lexical_fault (NoClose from) = Some (OpenComment, from)
lexical_fault (Found t from rest) = None
lexical_fault AtEnd = None

-- What stands behind the longest front: a lexical fault, a token that no text of the language has there, or the end of a text
-- of the language.
pub data IsLongest {V : Type 0} (l : Language V) {text : List ℕ} (front : Front l text) : Type 0 where
  before_no_lexeme : (kind : FaultKind) (from : List ℕ) → lexical_fault (next_lexeme front.rest) ≡ Some (kind, from) → IsLongest l front
  before_misplaced : (t : Token) (from : List ℕ) → token_seen (next_lexeme front.rest) ≡ Some (t, from) → (CanGoOn l (front.tokens ++ t ∷ []) → ⊥) → IsLongest l front
  before_the_end : next_lexeme front.rest ≡ AtEnd → CanGoOn l (front.tokens ++ End ∷ []) → IsLongest l front

-- Behind so many tokens of a text its rest, `from`, begins with another.
pub record StandsBehind (text : List ℕ) (before : List Token) (from : List ℕ) : Type 0 where
  pub t : Token
  pub rest : List ℕ
  pub taken : Takes (chars text) before rest
  pub seen : token_seen (next_lexeme rest) ≡ Some (t, from)

-- The first fault of a text, and its place. A byte that belongs to no character comes before all others. Else it is the first
-- token of the longest front that breaks a rule or a limit; where none does, what stands behind that front.
pub data IsFirstFault {V : Type 0} (l : Language V) (text : List ℕ) : ℕ → FaultKind → Type 0 where
  no_text : (at : ℕ) → (IsUtf8 text → ⊥) → IsValidUpTo text at → IsFirstFault l text at NotUtf8
  breaking : (front : Front l text) → IsLongest l front
      → (before after : List Role) (r : Role) → front.roles ≡ before ++ r ∷ after → AreWithin l.met before
      → (kind : FaultKind) → broken_by (tallied l.met before) r ≡ Some kind
      → (from : List ℕ) → StandsBehind text (take (length before) front.tokens) from → IsFirstFault l text (place_of text from) kind
  no_lexeme : (front : Front l text) → AreWithin l.met front.roles
      → (kind : FaultKind) (from : List ℕ) → lexical_fault (next_lexeme front.rest) ≡ Some (kind, from) → IsFirstFault l text (place_of text from) kind
  no_place : (front : Front l text) → AreWithin l.met front.roles
      → (t : Token) (from : List ℕ) → token_seen (next_lexeme front.rest) ≡ Some (t, from) → (CanGoOn l (front.tokens ++ t ∷ []) → ⊥)
      → (kind : FaultKind) → IsMisplaced l front.tokens t kind → IsFirstFault l text (place_of text from) kind
