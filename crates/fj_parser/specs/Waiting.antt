-- No public contract cites this: it serves the proofs.
-- What the tokens that wait stand for.
use Rattle.std.specs.Prelude.{ℕ, Bool, true, false, List, [], ◌∷◌}
use Rattle.cfj_model.specs.Roles.{Role, opens, other_token, var_name, Tally, AreWithin}
use Rattle.cfj_words.specs.Tokens.{Token}
use Rattle.expression_reader.specs.Machine.{as_cast, settled}
use Rattle.expression_reader.specs.declared.roles.Settling.{Settling}
use Rattle.expression_reader.specs.declared.roles.Settling.TheVariants.{Stays, Cast}
use Rattle.fj_machine.specs.Machine.{State, pending, settles}
use Rattle.fj_parser.specs.declared.waiting.Waiting.{Waiting}
use Rattle.fj_parser.specs.declared.waiting.Waiting.TheVariants.{Nothing, Bracket, Name, Closed}

-- the roles that they have in a bracket
abbrev pub waiting_roles : Waiting → List Role
waiting_roles Nothing = []
waiting_roles (Bracket b) = opens b.depth ∷ []
waiting_roles (Name b w) = opens b.depth ∷ var_name w.name.now ∷ []
waiting_roles (Closed b w close) = opens b.depth ∷ var_name w.name.now ∷ other_token ∷ []

-- and their places
abbrev pub waiting_places : Waiting → List ℕ
waiting_places Nothing = []
waiting_places (Bracket b) = b.at ∷ []
waiting_places (Name b w) = b.at ∷ w.at ∷ []
waiting_places (Closed b w close) = b.at ∷ w.at ∷ close ∷ []

-- what waits on, by what becomes of it
abbrev pub waiting_left : Settling → Waiting → Waiting
waiting_left Stays w = w
waiting_left _ w = Nothing

-- the places of those that don't wait any more
abbrev pub settled_places : Settling → List ℕ → List ℕ
settled_places Stays places = []
settled_places _ places = places

-- the role of a token that waited, by what became of it
abbrev pub settled_role : Settling → Role → Role
settled_role Cast r = as_cast r
settled_role _ r = r

-- Tokens in these roles can wait: a bracket, and a name in it, and its end.
abbrev pub may_wait : List Role → Bool
may_wait (opens d ∷ []) = true
may_wait (opens d ∷ var_name w ∷ []) = true
may_wait (opens d ∷ var_name w ∷ other_token ∷ []) = true
may_wait _ = false

-- The roles of the tokens that waited break nothing, as this token settles them behind what was met before.
pub record WaitedWithin (s : State) (token : Token) : Type 0 where
  pub met : Tally
  pub within : AreWithin met (settled (settles s token) (pending s))
