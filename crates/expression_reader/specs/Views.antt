-- The reader's own type, as the state that it stands for.
use Rattle.std.specs.Prelude.{◌≡◌, ℕ, ◌+◌, ◌^◌, ◌<◌, Bool, true, false, ◌&&◌, not, List, [], ◌∷◌, Option, Some, None}
use Rattle.cfj_model.specs.declared.expr.Expr.{Expr}
use Rattle.cfj_model.specs.Roles.{is_long}
use Rattle.cfj_words.specs.Tokens.{Token, Id, Dot}
use Rattle.expression_reader.specs.declared.frame.Frame.{Frame}
use Rattle.expression_reader.specs.declared.reader.ExpressionReader.{ExpressionReader}
use Rattle.expression_reader.specs.declared.mode.Mode.{Mode}
use Rattle.expression_reader.specs.declared.mode.Mode.TheVariants.{Paren, ParenName, ParenClosed}
use Rattle.expression_reader.specs.Machine.{State, go}

abbrev pub reader_seen : ExpressionReader → State
reader_seen r = record { frames = r.frames; mode = r.mode; slot = r.slot }

-- the state in this mode, if there is one
abbrev pub moved : Option Mode → List Frame → ℕ → Option State
moved None fs n = None
moved (Some m) fs n = go fs m n

-- the reader went on to this state, or could not go on
abbrev pub Goes : Bool → Option State → State → Type 0
Goes true next new = next ≡ Some new
Goes false next new = next ≡ None

-- two more nodes have slots
abbrev pub IsRoomy : State → Type 0
IsRoomy s = s.slot + 2 < 2 ^ 16

-- a name has no more bytes than a name may have
abbrev pub is_short : List ℕ → Bool
is_short w = not (is_long w)

-- and so the name that a token is, if it is one
abbrev pub is_short_token : Token → Bool
is_short_token (Id w) = is_short w
is_short_token t = true

-- the names whose roles a token settles are short
abbrev pub settles_short : Mode → Token → Bool
settles_short Paren t = true
settles_short (ParenName w) Dot = is_short w
settles_short (ParenName w) t = true
settles_short (ParenClosed w) t = is_short w && is_short_token t
settles_short m t = is_short_token t

-- an expression in a frame, which was taken from these frames; no frame is left behind none
abbrev pub IsIn : Expr × List Frame → Expr → Option Frame → List Frame → Type 0
IsIn u x None fs = (u ≡ (x, [])) × (fs ≡ [])
IsIn u x (Some f) fs = u ≡ (x, f ∷ fs)
