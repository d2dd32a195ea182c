-- Every state can be completed: tokens with which a text can end from it.
use Rattle.std.proofs.Common.{◌≡◌, ℕ, ◌+◌, Bool, true, false, List, [], ◌∷◌, ◌++◌, refl, ◌∙◌, ap}
use Rattle.cfj_model.specs.declared.expr.Expr.{Expr}
use Rattle.cfj_model.specs.declared.expr.Expr.TheVariants as e
use Rattle.cfj_model.specs.Marks.{marked}
use Rattle.cfj_words.specs.Tokens.{Token, Id, OpenParen, CloseParen, At, Semicolon}
use Rattle.cfj_model.specs.Roles.{Role}
use Rattle.expression_reader.specs.declared.frame.Frame.{Frame}
use Rattle.expression_reader.specs.declared.frame.Frame.TheVariants.{InBracket, InCast, InArgs}
use Rattle.expression_reader.specs.declared.mode.Mode.{Mode}
use Rattle.expression_reader.specs.declared.mode.Mode.TheVariants.{Begin, FirstArg, InMarks, AfterAt, Paren, ParenName, ParenClosed, After, AfterDot, AfterMember, AfterNew, AfterClass, Done}
use Rattle.expression_reader.specs.Machine.{State, at, applied, colored_arg, open_frames, pending, Run, run, is_read_whole}
use Rattle.expression_reader.proofs.Complete.{Ends, at_close, at_semicolon, cast_ends, member_ends, closed_ends, bracketed}
use Rattle.expression_reader.proofs.Sound.{Accepts}

-- the shortest end of a text behind an expression in these frames
closing : List Frame → List Token
closing [] = Semicolon ∷ []
closing (InBracket ∷ frames) = CloseParen ∷ closing frames
closing (InCast s c ∷ frames) = closing frames
closing (InArgs h before colors ∷ frames) = CloseParen ∷ closing frames

ends_closing : (frames : List Frame) → Ends (closing frames)
unfolding closing
ends_closing [] = at_semicolon _
ends_closing (InBracket ∷ frames) = at_close _
ends_closing (InCast s c ∷ frames) = ends_closing frames
ends_closing (InArgs h before colors ∷ frames) = at_close _

after_completes : (fs : List (List ℕ)) (frames : List Frame) (x : Expr) (n : ℕ) → Accepts fs (closing frames) (at frames (After x) n)
unfolding closing run
after_completes fs [] x n = refl
after_completes fs (InBracket ∷ frames) x n = after_completes fs frames x n
after_completes fs (InCast s c ∷ frames) x n = ap (λ (p : Run). is_read_whole p.0) (cast_ends fs (closing frames) (ends_closing frames) s c frames x n) ∙ after_completes fs frames (e.Cast s c x) n
after_completes fs (InArgs h before colors ∷ frames) x n = after_completes fs frames (applied h (before ++ colored_arg colors x ∷ [])) n

-- no token begins a mark
abbrev pub are_unmarked : List Token → Bool
are_unmarked [] = true
are_unmarked (At ∷ ts) = false
are_unmarked (_ ∷ ts) = are_unmarked ts

closing_unmarked : (frames : List Frame) → are_unmarked (closing frames) ≡ true
unfolding closing
closing_unmarked [] = refl
closing_unmarked (InBracket ∷ frames) = closing_unmarked frames
closing_unmarked (InCast s c ∷ frames) = closing_unmarked frames
closing_unmarked (InArgs h before colors ∷ frames) = closing_unmarked frames

-- tokens without marks with which a text can end from a state, where what waits is a bracket's
pub record Completes (fs : List (List ℕ)) (s : State) : Type 0 where
  pub more : List Token
  pub unmarked : are_unmarked more ≡ true
  pub others : List Role
  pub goes : Accepts fs more s
  pub in_roles : (run fs more s).1 ≡ pending s ++ others

-- a name in a bracket
closed_completes : (fs : List (List ℕ)) (w : List ℕ) (frames : List Frame) (n : ℕ) → Accepts fs (closing frames) (at frames (ParenClosed w) n)
closed_completes fs w frames n = ap (λ (p : Run). is_read_whole p.0) (closed_ends fs (closing frames) (ends_closing frames) w frames n) ∙ after_completes fs frames (e.Var n w) (n + 1)

closed_roles : (fs : List (List ℕ)) (w : List ℕ) (frames : List Frame) (n : ℕ) → (run fs (closing frames) (at frames (ParenClosed w) n)).1 ≡ bracketed (open_frames frames) w ++ (run fs (closing frames) (at frames (After (e.Var n w)) (n + 1))).1
closed_roles fs w frames n = ap (λ (p : Run). p.1) (closed_ends fs (closing frames) (ends_closing frames) w frames n)

-- a member that isn't called
member_completes : (fs : List (List ℕ)) (w : List ℕ) (frames : List Frame) (x : Expr) (n : ℕ) → Accepts fs (closing frames) (at frames (AfterMember x w) n)
member_completes fs w frames x n = ap (λ (p : Run). is_read_whole p.0) (member_ends fs (closing frames) (ends_closing frames) w frames x n) ∙ after_completes fs frames (e.Get n x w) (n + 1)

pub completes : (fs : List (List ℕ)) (m : Mode) (frames : List Frame) (n : ℕ) → Completes fs (at frames m n)
unfolding run
completes fs Begin frames n = record { more = Id [] ∷ closing frames; unmarked = closing_unmarked frames; others = _; goes = after_completes fs frames (e.Var n []) (n + 1); in_roles = refl }
completes fs (FirstArg h) frames n = record { more = CloseParen ∷ closing frames; unmarked = closing_unmarked frames; others = _; goes = after_completes fs frames (applied h []) n; in_roles = refl }
completes fs (InMarks h before colors) frames n = record { more = Id [] ∷ (CloseParen ∷ closing frames); unmarked = closing_unmarked frames; others = _; goes = after_completes fs frames (applied h (before ++ colored_arg colors (e.Var n []) ∷ [])) (n + 1); in_roles = refl }
completes fs (AfterAt h before colors off) frames n = record { more = Id [] ∷ (Id [] ∷ (CloseParen ∷ closing frames)); unmarked = closing_unmarked frames; others = _; goes = after_completes fs frames (applied h (before ++ colored_arg (marked fs colors (record { off = off; name = [] })) (e.Var n []) ∷ [])) (n + 1); in_roles = refl }
completes fs Paren frames n = record { more = Id [] ∷ (CloseParen ∷ closing frames); unmarked = closing_unmarked frames; others = _; goes = closed_completes fs [] frames n; in_roles = closed_roles fs [] frames n }
completes fs (ParenName w) frames n = record { more = CloseParen ∷ closing frames; unmarked = closing_unmarked frames; others = _; goes = closed_completes fs w frames n; in_roles = closed_roles fs w frames n }
completes fs (ParenClosed w) frames n = record { more = closing frames; unmarked = closing_unmarked frames; others = _; goes = closed_completes fs w frames n; in_roles = closed_roles fs w frames n }
completes fs (After x) frames n = record { more = closing frames; unmarked = closing_unmarked frames; others = _; goes = after_completes fs frames x n; in_roles = refl }
completes fs (AfterDot x) frames n = record { more = Id [] ∷ closing frames; unmarked = closing_unmarked frames; others = _; goes = member_completes fs [] frames x n; in_roles = refl }
completes fs (AfterMember x w) frames n = record { more = closing frames; unmarked = closing_unmarked frames; others = _; goes = member_completes fs w frames x n; in_roles = refl }
completes fs AfterNew frames n = record { more = Id [] ∷ (OpenParen ∷ (CloseParen ∷ closing frames)); unmarked = closing_unmarked frames; others = _; goes = after_completes fs frames (e.New n [] []) (n + 1); in_roles = refl }
completes fs (AfterClass c) frames n = record { more = OpenParen ∷ (CloseParen ∷ closing frames); unmarked = closing_unmarked frames; others = _; goes = after_completes fs frames (e.New n c []) (n + 1); in_roles = refl }
completes fs (Done x) frames n = record { more = []; unmarked = refl; others = []; goes = refl; in_roles = refl }
