-- The tokens of a text, with what each of them is there and its place.
use Rattle.std.specs.Prelude.{◌≡◌, ℕ, List, [], map, take, slice_get, Some}
use Rattle.cfj_model.specs.Faults.{StandsBehind}
use Rattle.cfj_model.specs.Languages.{Language, IsTextOf}
use Rattle.cfj_model.specs.Roles.{Role}
use Rattle.cfj_words.specs.Tokens.{Token, place_of}
use Rattle.fj_parser.specs.declared.token_role.TokenRole.{TokenRole}
use Rattle.fj_symbols.specs.Views.{role_seen}

-- Behind these tokens another one stands, at this place.
pub record IsStanding (text : List ℕ) (before : List Token) (at : ℕ) : Type 0 where
  pub from : List ℕ
  pub stands : StandsBehind text before from
  pub is : at ≡ place_of text from

-- Each of these places is that of the token with its number.
abbrev pub ArePlacesOf : List ℕ → List Token → List ℕ → Type 0
ArePlacesOf text tokens places = (i at : ℕ) → slice_get places i ≡ Some at → IsStanding text (take i tokens) at

-- the roles in a list
abbrev pub roles_in : List TokenRole → List Role
roles_in list = map (λ (t : TokenRole). role_seen t.role) list

-- and the places
abbrev pub places_in : List TokenRole → List ℕ
places_in list = map (λ (t : TokenRole). t.at) list

-- The text is one of the language, and these are the roles of its tokens, in their order, each with its token's place.
pub record AreRolesOf {V : Type 0} (l : Language V) (text : List ℕ) (list : List TokenRole) : Type 0 where
  pub value : V
  pub read : IsTextOf l text value
  pub roles : roles_in list ≡ l.roles read.tree []
  pub places : ArePlacesOf text (l.spell read.tree []) (places_in list)
