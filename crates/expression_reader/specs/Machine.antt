-- The machine that reads an expression one token at a time: how it goes on, and the roles that it gives.
use Rattle.std.specs.Prelude.{ℕ, ◌+◌, Bool, true, false, if◌then◌else◌, List, [], ◌∷◌, ◌++◌, map, codes, Option, Some, None}
use Rattle.cfj_model.specs.declared.expr.Arg.{Arg}
use Rattle.cfj_model.specs.declared.expr.Expr.{Expr}
use Rattle.cfj_model.specs.declared.expr.Expr.TheVariants as e
use Rattle.cfj_logic.specs.Sides.{Sides}
use Rattle.cfj_model.specs.Coloring.{no_colors}
use Rattle.cfj_model.specs.Marks.{marked}
use Rattle.cfj_words.specs.Tokens.{Token, Id, NewWord, ThisWord, OpenParen, CloseParen, Comma, Dot, At, Bang, Semicolon}
use Rattle.cfj_model.specs.Roles.{Role, casts, node, opens, other_token, sign, used_name, var_name, mark_name}
use Rattle.expression_reader.specs.declared.frame.Frame.{Frame}
use Rattle.expression_reader.specs.declared.frame.Frame.TheVariants.{InBracket, InCast, InArgs}
use Rattle.expression_reader.specs.declared.frame.Head.{Head}
use Rattle.expression_reader.specs.declared.frame.Head.TheVariants.{OfCall, OfNew}
use Rattle.expression_reader.specs.declared.mode.Mode.{Mode}
use Rattle.expression_reader.specs.declared.mode.Mode.TheVariants.{Begin, FirstArg, InMarks, AfterAt, Paren, ParenName, ParenClosed, After, AfterDot, AfterMember, AfterNew, AfterClass, Done}
use Rattle.expression_reader.specs.declared.roles.Settling.{Settling}
use Rattle.expression_reader.specs.declared.roles.Settling.TheVariants.{Stays, Bracket, Cast}

-- What is open round the place that is read, the innermost first; what was read last; and the next slot.
pub record State : Type 0 where
  pub frames : List Frame
  pub mode : Mode
  pub slot : ℕ

abbrev pub at : List Frame → Mode → ℕ → State
at fs m n = record { frames = fs; mode = m; slot = n }

-- the machine goes on there
abbrev pub go : List Frame → Mode → ℕ → Option State
go fs m n = Some (at fs m n)

-- before the first token
abbrev pub start : State
start = at [] Begin 0

-- the whole expression is read
abbrev pub done : Expr → State
done x = at [] (Done x) 0

-- a call, or a `new`, with these arguments
abbrev pub applied : Head → List Arg → Expr
applied (OfCall s on m) args = e.Call s on m args
applied (OfNew s c) args = e.New s c args

-- an argument with these colours
abbrev pub colored_arg : Sides → Expr → Arg
colored_arg colors x = record { colors = colors; expr = x }

-- where an expression must begin
abbrev pub begin : List Frame → ℕ → Token → Option State
begin fs n (Id w) = go fs (After (e.Var n w)) (n + 1)
begin fs n ThisWord = go fs (After (e.Var n (codes "this"))) (n + 1)
begin fs n NewWord = go fs AfterNew n
begin fs n OpenParen = go fs Paren n
begin fs n _ = None

-- The casts round a whole expression end with it: the expression with them, in the frames round it.
abbrev pub uncast : Expr → List Frame → Expr × List Frame
uncast x [] = (x, [])
uncast x (InBracket ∷ fs) = (x, InBracket ∷ fs)
uncast x (InCast s c ∷ fs) = uncast (e.Cast s c x) fs
uncast x (InArgs h before colors ∷ fs) = (x, InArgs h before colors ∷ fs)

-- an expression, by itself or an argument, ends at `)`
abbrev pub close_in : Expr → ℕ → List Frame → Option State
close_in x n (InBracket ∷ fs) = go fs (After x) n
close_in x n (InArgs h before colors ∷ fs) = go fs (After (applied h (before ++ colored_arg colors x ∷ []))) n
close_in x n _ = None

-- an argument ends at a comma
abbrev pub comma_in : Expr → ℕ → List Frame → Option State
comma_in x n (InArgs h before colors ∷ fs) = go fs (InMarks h (before ++ colored_arg colors x ∷ []) no_colors) n
comma_in x n _ = None

-- the whole expression ends at the token behind it
abbrev pub finish_in : Expr → List Frame → Option State
finish_in x [] = Some (done x)
finish_in x _ = None

-- and so with the casts round it
abbrev pub close : Expr → ℕ → List Frame → Option State
close x n fs = let u = uncast x fs in close_in u.0 n u.1

abbrev pub comma : Expr → ℕ → List Frame → Option State
comma x n fs = let u = uncast x fs in comma_in u.0 n u.1

abbrev pub finish : Expr → List Frame → Option State
finish x fs = let u = uncast x fs in finish_in u.0 u.1

-- behind an expression
abbrev pub after : Expr → List Frame → ℕ → Token → Option State
after x fs n Dot = go fs (AfterDot x) n
after x fs n CloseParen = close x n fs
after x fs n Comma = comma x n fs
after x fs n Semicolon = finish x fs
after x fs n _ = None

-- behind the bracket that opens an argument list
abbrev pub first_arg : Head → List Frame → ℕ → Token → Option State
first_arg h fs n CloseParen = go fs (After (applied h [])) n
first_arg h fs n At = go fs (AfterAt h [] no_colors false) n
first_arg h fs n t = begin (InArgs h [] no_colors ∷ fs) n t

-- behind a comma between arguments, or a mark of an argument
abbrev pub in_marks : Head → List Arg → Sides → List Frame → ℕ → Token → Option State
in_marks h before colors fs n At = go fs (AfterAt h before colors false) n
in_marks h before colors fs n t = begin (InArgs h before colors ∷ fs) n t

-- the `!` of a mark stands directly behind its `@`
abbrev pub signed : Bool → Head → List Arg → Sides → List Frame → ℕ → Option State
signed false h before colors fs n = go fs (AfterAt h before colors true) n
signed true h before colors fs n = None

-- one more mark of an argument, over these features, without its `!` or with it
abbrev pub after_at : List (List ℕ) → Head → List Arg → Sides → Bool → List Frame → ℕ → Token → Option State
after_at features h before colors off fs n (Id m) = go fs (InMarks h before (marked features colors (record { off = off; name = m }))) n
after_at features h before colors off fs n Bang = signed off h before colors fs n
after_at features h before colors off fs n _ = None

-- behind a bracket where an expression begins, and behind a name in it
abbrev pub paren : List Frame → ℕ → Token → Option State
paren fs n (Id w) = go fs (ParenName w) n
paren fs n t = begin (InBracket ∷ fs) n t

abbrev pub paren_name : List ℕ → List Frame → ℕ → Token → Option State
paren_name w fs n CloseParen = go fs (ParenClosed w) n
paren_name w fs n Dot = go (InBracket ∷ fs) (AfterDot (e.Var n w)) (n + 1)
paren_name w fs n _ = None

-- the operand of a cast begins so
abbrev pub begins_operand : Token → Bool
begins_operand (Id w) = true
begins_operand ThisWord = true
begins_operand NewWord = true
begins_operand OpenParen = true
begins_operand _ = false

-- by its next token a bracket with a name is a cast, or a variable
abbrev pub paren_closed : List ℕ → List Frame → ℕ → Token → Option State
paren_closed w fs n t = if begins_operand t then begin (InCast n w ∷ fs) (n + 1) t else after (e.Var n w) fs (n + 1) t

-- behind a dot, and behind a member's name
abbrev pub after_dot : Expr → List Frame → ℕ → Token → Option State
after_dot x fs n (Id w) = go fs (AfterMember x w) n
after_dot x fs n _ = None

abbrev pub after_member : Expr → List ℕ → List Frame → ℕ → Token → Option State
after_member x w fs n OpenParen = go fs (FirstArg (OfCall n x w)) (n + 1)
after_member x w fs n t = after (e.Get n x w) fs (n + 1) t

-- behind `new`, and behind the name of its class
abbrev pub after_new : List Frame → ℕ → Token → Option State
after_new fs n (Id c) = go fs (AfterClass c) n
after_new fs n _ = None

abbrev pub after_class : List ℕ → List Frame → ℕ → Token → Option State
after_class c fs n OpenParen = go fs (FirstArg (OfNew n c)) (n + 1)
after_class c fs n _ = None

-- in each mode
abbrev pub step_in : List (List ℕ) → Mode → List Frame → ℕ → Token → Option State
step_in features Begin fs n t = begin fs n t
step_in features (FirstArg h) fs n t = first_arg h fs n t
step_in features (InMarks h before colors) fs n t = in_marks h before colors fs n t
step_in features (AfterAt h before colors off) fs n t = after_at features h before colors off fs n t
step_in features Paren fs n t = paren fs n t
step_in features (ParenName w) fs n t = paren_name w fs n t
step_in features (ParenClosed w) fs n t = paren_closed w fs n t
step_in features (After x) fs n t = after x fs n t
step_in features (AfterDot x) fs n t = after_dot x fs n t
step_in features (AfterMember x w) fs n t = after_member x w fs n t
step_in features AfterNew fs n t = after_new fs n t
step_in features (AfterClass c) fs n t = after_class c fs n t
step_in features (Done x) fs n t = None

-- the next state, over these features; none where the token can't go on
abbrev pub step : List (List ℕ) → State → Token → Option State
step features s t = step_in features s.mode s.frames s.slot t

-- How many argument lists, brackets and casts are open: those of the frames, and the one in which the mode stands.
abbrev pub open_frames : List Frame → ℕ
open_frames [] = 0
open_frames (f ∷ fs) = open_frames fs + 1

abbrev pub open_in : Mode → ℕ → ℕ
open_in (FirstArg h) d = d + 1
open_in (InMarks h before colors) d = d + 1
open_in (AfterAt h before colors off) d = d + 1
open_in Paren d = d + 1
open_in (ParenName w) d = d + 1
open_in (ParenClosed w) d = d + 1
open_in _ d = d

abbrev pub depth : State → ℕ
depth s = open_in s.mode (open_frames s.frames)

-- the roles of the tokens that wait, as a bracket's
abbrev pub pending_in : Mode → ℕ → List Role
pending_in Paren d = opens (d + 1) ∷ []
pending_in (ParenName w) d = opens (d + 1) ∷ var_name w ∷ []
pending_in (ParenClosed w) d = opens (d + 1) ∷ var_name w ∷ other_token ∷ []
pending_in _ d = []

abbrev pub pending : State → List Role
pending s = pending_in s.mode (open_frames s.frames)

-- what becomes of them by a token
abbrev pub settles_in : Mode → Token → Settling
settles_in Paren (Id w) = Stays
settles_in Paren t = Bracket
settles_in (ParenName w) CloseParen = Stays
settles_in (ParenName w) t = Bracket
settles_in (ParenClosed w) t = if begins_operand t then Cast else Bracket
settles_in _ t = Stays

abbrev pub settles : State → Token → Settling
settles s t = settles_in s.mode t

-- whether a token itself waits
abbrev pub waits_in : Mode → Token → Bool
waits_in Begin OpenParen = true
waits_in (FirstArg h) OpenParen = true
waits_in (InMarks h before colors) OpenParen = true
waits_in Paren OpenParen = true
waits_in Paren (Id w) = true
waits_in (ParenName w) CloseParen = true
waits_in (ParenClosed w) OpenParen = true
waits_in _ t = false

abbrev pub waits : State → Token → Bool
waits s t = waits_in s.mode t

-- what an identifier is in a mode
abbrev pub name_role : Mode → List ℕ → Role
name_role (AfterAt h before colors off) w = mark_name w
name_role (AfterDot x) w = used_name w
name_role AfterNew w = used_name w
name_role _ w = var_name w

-- what a token is in a mode, where so many are open
abbrev pub role_in : Mode → ℕ → Token → Role
role_in m d (Id w) = name_role m w
role_in m d OpenParen = opens (d + 1)
role_in m d ThisWord = node
role_in m d NewWord = node
role_in m d Dot = node
role_in m d Bang = sign
role_in m d _ = other_token

-- the role of a token; where it waits, that of a bracket's
abbrev pub role : State → Token → Role
role s t = role_in s.mode (depth s) t

-- the role of a bracket's token where the bracket is a cast
abbrev pub as_cast : Role → Role
as_cast (opens d) = casts d
as_cast (var_name w) = used_name w
as_cast r = r

-- what the tokens that wait are settled as
abbrev pub settled : Settling → List Role → List Role
settled Stays rs = []
settled Bracket rs = rs
settled Cast rs = map as_cast rs

-- what waits on
abbrev pub left : Settling → List Role → List Role
left Stays rs = rs
left Bracket rs = []
left Cast rs = []

-- the role of a token that doesn't wait
abbrev pub unless : Bool → Role → List Role
unless true r = []
unless false r = r ∷ []

-- and of one that does
abbrev pub where_so : Bool → Role → List Role
where_so true r = r ∷ []
where_so false r = []

-- the roles that a step settles, in the order of their tokens
abbrev pub emitted : State → Token → List Role
emitted s t = settled (settles s t) (pending s) ++ unless (waits s t) (role s t)

-- the roles of the tokens that wait behind it
abbrev pub waiting : State → Token → List Role
waiting s t = left (settles s t) (pending s) ++ where_so (waits s t) (role s t)

-- What is reached, and the roles that are settled on the way; where a token can't go on, with those that it would settle.
abbrev pub Run : Type 0
Run = Option State × List Role

abbrev pub with_roles : List Role → Run → Run
with_roles rs p = (p.0, rs ++ p.1)

abbrev pub then_run : (State → Run) → List Role → Option State → Run
then_run f rs None = (None, rs)
then_run f rs (Some s) = with_roles rs (f s)

unfoldable pub run : List (List ℕ) → List Token → State → Run
run features [] s = (Some s, [])
run features (t ∷ ts) s = then_run (run features ts) (emitted s t) (step features s t)

-- some identifier could stand next, and so each
abbrev pub takes_name_in : Mode → Bool
takes_name_in Begin = true
takes_name_in (FirstArg h) = true
takes_name_in (InMarks h before colors) = true
takes_name_in (AfterAt h before colors off) = true
takes_name_in Paren = true
takes_name_in (ParenClosed w) = true
takes_name_in (AfterDot x) = true
takes_name_in AfterNew = true
takes_name_in _ = false

abbrev pub takes_name : State → Bool
takes_name s = takes_name_in s.mode

-- the expression is read, and no token can go on
abbrev pub is_done_mode : Mode → Bool
is_done_mode (Done x) = true
is_done_mode _ = false

abbrev pub is_done : State → Bool
is_done s = is_done_mode s.mode

-- the expression, where it is read
abbrev pub expression_in : Mode → Option Expr
expression_in (Done x) = Some x
expression_in _ = None

abbrev pub expression : State → Option Expr
expression s = expression_in s.mode

-- the whole expression was read
abbrev pub is_read_whole : Option State → Bool
is_read_whole None = false
is_read_whole (Some s) = is_done s
