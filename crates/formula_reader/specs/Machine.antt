-- The machine that reads one formula, a token at a time: how it goes on, and the role that it gives each token. What was read to
-- the left of a connective waits in a frame until a token comes that binds no tighter.
use Rattle.std.specs.Prelude.{ℕ, ◌+◌, Bool, true, false, nat_le, if◌then◌else◌, List, [], ◌∷◌, Option, Some, None}
use Rattle.cfj_logic.specs.declared.formula.Formula.{Formula}
use Rattle.cfj_logic.specs.declared.formula.Formula.TheVariants as f
use Rattle.cfj_model.specs.FormulaGrammar.{feature_named}
use Rattle.cfj_words.specs.Tokens.{Token, Id, TrueWord, FalseWord, OpenParen, CloseParen, Semicolon, Bang, Ampersand, Bar, Arrow, DoubleArrow}
use Rattle.cfj_model.specs.Roles.{Role, formula_name, formula_node, formula_opens, opens, other_token}
use Rattle.formula_reader.specs.declared.frame.Frame.{Frame}
use Rattle.formula_reader.specs.declared.frame.Frame.TheVariants.{InAnd, InOr, InImplies, InIff, InNot, InBracket}
use Rattle.formula_reader.specs.declared.mode.Mode.{Mode}
use Rattle.formula_reader.specs.declared.mode.Mode.TheVariants.{Want, After, Done}

-- what is open, the innermost first, and what was read last
pub record State : Type 0 where
  pub frames : List Frame
  pub mode : Mode

abbrev pub at : List Frame → Mode → State
at frames mode = record { frames = frames; mode = mode }

-- before the first token
abbrev pub start : State
start = at [] Want

-- behind a formula and its semicolon
abbrev pub done : Formula → State
done x = at [] (Done x)

-- How tightly a frame holds what is read behind it, as the grammar's levels: from 1 for `<->` to 5 for `!`. Nothing but its own
-- end closes a bracket.
abbrev pub level : Frame → ℕ
level InBracket = 0
level (InIff x) = 1
level (InImplies x) = 2
level (InOr x) = 3
level (InAnd x) = 4
level InNot = 5

-- the formula that closes a frame, with what was read behind it; brackets aren't kept
abbrev pub applied : Frame → Formula → Formula
applied InBracket y = y
applied (InIff x) y = f.Iff x y
applied (InImplies x) y = f.Implies x y
applied (InOr x) y = f.Or x y
applied (InAnd x) y = f.And x y
applied InNot y = f.Not y

-- The innermost frames that hold at least so tightly are closed: what stays open, and the formula.
abbrev pub reduce : ℕ → List Frame → Formula → List Frame × Formula
reduce least [] y = ([], y)
reduce least (fr ∷ frames) y = if nat_le least (level fr) then reduce least frames (applied fr y) else (fr ∷ frames, y)

-- Behind a connective another operand is read.
abbrev pub in_and : List Frame × Formula → State
in_and r = at (InAnd r.1 ∷ r.0) Want

abbrev pub in_or : List Frame × Formula → State
in_or r = at (InOr r.1 ∷ r.0) Want

abbrev pub in_implies : List Frame × Formula → State
in_implies r = at (InImplies r.1 ∷ r.0) Want

abbrev pub in_iff : List Frame × Formula → State
in_iff r = at (InIff r.1 ∷ r.0) Want

-- a bracket is closed where one is open
abbrev pub closed : List Frame → Formula → Option State
closed (InBracket ∷ frames) y = Some (at frames (After y))
closed _ y = None

-- the formula ends where nothing is open
abbrev pub ended : List Frame → Formula → Option State
ended [] y = Some (done y)
ended (fr ∷ frames) y = None

-- where an operand has to begin, over these features
abbrev pub want : List (List ℕ) → List Frame → Token → Option State
want features frames (Id w) = Some (at frames (After (feature_named features w)))
want features frames TrueWord = Some (at frames (After f.True))
want features frames FalseWord = Some (at frames (After f.False))
want features frames Bang = Some (at (InNot ∷ frames) Want)
want features frames OpenParen = Some (at (InBracket ∷ frames) Want)
want features frames t = None

-- Behind an operand. An `->` leaves the frames of others open, since it binds to the right; the other connectives bind to the left.
abbrev pub after : List Frame → Formula → Token → Option State
after frames y Ampersand = Some (in_and (reduce 4 frames y))
after frames y Bar = Some (in_or (reduce 3 frames y))
after frames y Arrow = Some (in_implies (reduce 3 frames y))
after frames y DoubleArrow = Some (in_iff (reduce 1 frames y))
after frames y CloseParen = let r = reduce 1 frames y in closed r.0 r.1
after frames y Semicolon = let r = reduce 1 frames y in ended r.0 r.1
after frames y t = None

abbrev pub step_in : List (List ℕ) → List Frame → Mode → Token → Option State
step_in features frames Want t = want features frames t
step_in features frames (After y) t = after frames y t
step_in features frames (Done y) t = None

-- the next state; none where the token can't go on
abbrev pub step : List (List ℕ) → State → Token → Option State
step features s t = step_in features s.frames s.mode t

-- a bracket, `!` or `->`
abbrev pub nests : Frame → Bool
nests InBracket = true
nests InNot = true
nests (InImplies x) = true
nests _ = false

-- how many of them are open
abbrev pub depth : List Frame → ℕ
depth [] = 0
depth (fr ∷ frames) = if nests fr then depth frames + 1 else depth frames

-- the frames that stay open where those that hold at least so tightly are closed
abbrev pub still_open : ℕ → List Frame → List Frame
still_open least [] = []
still_open least (fr ∷ frames) = if nat_le least (level fr) then still_open least frames else fr ∷ frames

-- The role of a token at this state; what opens counts itself. An `->` stands behind its left side, which it closes.
abbrev pub role : State → Token → Role
role s (Id w) = formula_name w
role s TrueWord = formula_node
role s FalseWord = formula_node
role s Bang = formula_opens (depth s.frames + 1)
role s OpenParen = opens (depth s.frames + 1)
role s Ampersand = formula_node
role s Bar = formula_node
role s Arrow = formula_opens (depth (still_open 3 s.frames) + 1)
role s DoubleArrow = formula_node
role s t = other_token

abbrev pub takes_name_in : Mode → Bool
takes_name_in Want = true
takes_name_in _ = false

-- an identifier could stand next
abbrev pub takes_name : State → Bool
takes_name s = takes_name_in s.mode

abbrev pub is_done_in : Mode → Bool
is_done_in (Done x) = true
is_done_in _ = false

-- the formula and its semicolon are read
abbrev pub is_done : State → Bool
is_done s = is_done_in s.mode

abbrev pub formula_in : Mode → Option Formula
formula_in (Done x) = Some x
formula_in _ = None

-- the formula, once all of it is read
abbrev pub formula_of : State → Option Formula
formula_of s = formula_in s.mode

-- what is reached, and the roles on the way
abbrev pub Run : Type 0
Run = Option State × List Role

abbrev pub with_role : Role → Run → Run
with_role r p = (p.0, r ∷ p.1)

abbrev pub then_run : (State → Run) → Role → Option State → Run
then_run f r None = (None, [])
then_run f r (Some s) = with_role r (f s)

unfoldable pub run : List (List ℕ) → List Token → State → Run
run features [] s = (Some s, [])
run features (t ∷ ts) s = then_run (run features ts) (role s t) (step features s t)
