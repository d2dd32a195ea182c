-- No public contract cites this: it serves the proofs.
-- How the list of the tokens stands towards the text that is read.
use Rattle.std.specs.Prelude.{◌≡◌, ℕ, List, ◌++◌}
use Rattle.std.specs.Str.{chars}
use Rattle.cfj_model.specs.Roles.{Role, Tally}
use Rattle.cfj_words.specs.Lexemes.{AtEnd, next_lexeme}
use Rattle.cfj_words.specs.Tokens.{End}
use Rattle.fj_machine.specs.Readers.{Reader}
use Rattle.fj_parser.specs.Accepting.{IsAccepted}
use Rattle.fj_parser.specs.Reading.{IsPlaced}
use Rattle.fj_parser.specs.TokenRoles.{ArePlacesOf, places_in, roles_in}
use Rattle.fj_parser.specs.declared.token_role.TokenRole.{TokenRole}

-- The tokens before the rest of a text are read. Those whose roles are settled are listed, and those whose roles wait
-- stand behind them, at these places.
pub record IsListed (met : Tally) (m : Reader) (text rest : List ℕ) (s : m.State) (t : Tally) (places : List ℕ)
    (list : List TokenRole) : Type 0 where
  pub placed : IsPlaced met m text rest s t places
  pub roles : roles_in list ≡ placed.reading.roles
  pub stand : ArePlacesOf text placed.reading.tokens (places_in list ++ places)

-- Behind all tokens of the text, which are listed, the reader takes the end, which leads it to this state, and nothing
-- breaks.
pub record IsListedTo (met : Tally) (m : Reader) (text : List ℕ) (n : m.State) (list : List TokenRole) : Type 0 where
  pub rest : List ℕ
  pub s : m.State
  pub before : Tally
  pub after : Tally
  pub places : List ℕ
  pub listed : IsListed met m text rest s before places list
  pub ended : next_lexeme (chars rest) ≡ AtEnd
  pub accepted : IsAccepted m s before End n after

-- Behind a list these roles are added, at these places.
pub record Adds (old : List TokenRole) (roles : List Role) (places : List ℕ) (new : List TokenRole) : Type 0 where
  pub in_roles : roles_in new ≡ roles_in old ++ roles
  pub at_places : places_in new ≡ places_in old ++ places
