-- What a tree spells is read as what it stands for, in its roles.
use Rattle.std.proofs.Common.{◌≡◌, ℕ, ◌+◌, Bool, true, false, List, [], ◌∷◌, ◌++◌, Option, Some, None, refl, ◌∙◌, ap, append_assoc}
use Rattle.cfj_model.specs.declared.expr.Arg.{Arg}
use Rattle.cfj_model.specs.declared.expr.Expr.{Expr}
use Rattle.cfj_model.specs.declared.expr.Expr.TheVariants as e
use Rattle.cfj_model.specs.declared.signed.Signed.{Signed}
use Rattle.cfj_logic.specs.Sides.{Sides}
use Rattle.cfj_model.specs.Coloring.{no_colors}
use Rattle.cfj_model.specs.Marks.{spell_sign, spell_marks, roles_sign, roles_mark, roles_marks, marked, colored, colors_of}
use Rattle.cfj_words.specs.Tokens.{Token, Id, CloseParen, Comma, Dot, Semicolon}
use Rattle.cfj_model.specs.Roles.{Role, casts, node, opens, other_token, used_name, var_name, mark_name}
use Rattle.cfj_model.specs.ExpressionGrammar.{ExprTree, cast, chain, StartTree, variable, this_word, made, bracket, StepsTree, stop, get, call, ArgsTree, no_args, first_arg, MoreArgsTree, no_more, next_arg, spell_expr, spell_start, spell_steps, spell_args, spell_more_args, roles_expr, roles_start, roles_steps, roles_args, roles_more_args, value_expr, value_start, value_steps, value_args, value_more_args}
use Rattle.expression_reader.specs.declared.frame.Frame.{Frame}
use Rattle.expression_reader.specs.declared.frame.Frame.TheVariants.{InBracket, InCast, InArgs}
use Rattle.expression_reader.specs.declared.frame.Head.{Head}
use Rattle.expression_reader.specs.declared.frame.Head.TheVariants.{OfCall, OfNew}
use Rattle.expression_reader.specs.declared.mode.Mode.TheVariants.{Begin, FirstArg, InMarks, AfterAt, Paren, ParenClosed, After, AfterMember}
use Rattle.expression_reader.specs.Machine.{State, at, start, done, applied, colored_arg, open_frames, Run, with_roles, then_run, run}

-- the texts that may follow an expression
pub data Ends : List Token → Type 0 where
  at_close : (ts : List Token) → Ends (CloseParen ∷ ts)
  at_comma : (ts : List Token) → Ends (Comma ∷ ts)
  at_semicolon : (ts : List Token) → Ends (Semicolon ∷ ts)

-- and those that may follow the start of a chain
pub data Follows : List Token → Type 0 where
  at_dot : (ts : List Token) → Follows (Dot ∷ ts)
  ends : {ts : List Token} → Ends ts → Follows ts

pub follows_steps : (ss : StepsTree) (ts : List Token) → Ends ts → Follows (spell_steps ss ts)
follows_steps stop ts h = ends h
follows_steps (get f ss) ts h = at_dot _
follows_steps (call m args ss) ts h = at_dot _

pub ends_more : (more : MoreArgsTree) (ts : List Token) → Ends (spell_more_args more (CloseParen ∷ ts))
ends_more no_more ts = at_close ts
ends_more (next_arg ms t more) ts = at_comma _

-- a run whose roles stand among others
abbrev pub on_roles : (List Role → List Role) → Run → Run
on_roles f p = (p.0, f p.1)

-- roles before those of a step
pub then_with : (f : State → Run) (before rs : List Role) (o : Option State) → then_run f (before ++ rs) o ≡ with_roles before (then_run f rs o)
then_with f before rs None = refl
then_with f before rs (Some s) = ap (λ (q : List Role). ((f s).0, q)) (append_assoc before rs (f s).1)

-- A cast ends with its operand.
pub cast_ends : (fs : List (List ℕ)) (ts : List Token) → Ends ts → (s : ℕ) (c : List ℕ) (frames : List Frame) (x : Expr) (n : ℕ) →
    run fs ts (at (InCast s c ∷ frames) (After x) n) ≡ run fs ts (at frames (After (e.Cast s c x)) n)
unfolding run
cast_ends fs _ (at_close ts) s c frames x n = refl
cast_ends fs _ (at_comma ts) s c frames x n = refl
cast_ends fs _ (at_semicolon ts) s c frames x n = refl

-- A member that isn't called is a field.
pub member_ends : (fs : List (List ℕ)) (ts : List Token) → Ends ts → (f : List ℕ) (frames : List Frame) (x : Expr) (n : ℕ) →
    run fs ts (at frames (AfterMember x f) n) ≡ run fs ts (at frames (After (e.Get n x f)) (n + 1))
unfolding run
member_ends fs _ (at_close ts) f frames x n = refl
member_ends fs _ (at_comma ts) f frames x n = refl
member_ends fs _ (at_semicolon ts) f frames x n = refl

member_follows : (fs : List (List ℕ)) (ts : List Token) → Follows ts → (f : List ℕ) (frames : List Frame) (x : Expr) (n : ℕ) →
    run fs ts (at frames (AfterMember x f) n) ≡ run fs ts (at frames (After (e.Get n x f)) (n + 1))
unfolding run
member_follows fs _ (at_dot ts) f frames x n = refl
member_follows fs ts (ends h) f frames x n = member_ends fs ts h f frames x n

-- the roles of a bracket with a variable
abbrev pub bracketed : ℕ → List ℕ → List Role
bracketed d w = opens (d + 1) ∷ (var_name w ∷ (other_token ∷ []))

-- and of the three tokens that begin a cast
abbrev pub cast_to : ℕ → List ℕ → List Role
cast_to d w = casts (d + 1) ∷ (used_name w ∷ (other_token ∷ []))

-- A name in a bracket that nothing follows is a variable.
pub closed_ends : (fs : List (List ℕ)) (ts : List Token) → Ends ts → (w : List ℕ) (frames : List Frame) (n : ℕ) →
    run fs ts (at frames (ParenClosed w) n) ≡ with_roles (bracketed (open_frames frames) w) (run fs ts (at frames (After (e.Var n w)) (n + 1)))
unfolding run
closed_ends fs _ (at_close ts) w frames n = then_with (run fs ts) (bracketed (open_frames frames) w) (other_token ∷ []) _
closed_ends fs _ (at_comma ts) w frames n = then_with (run fs ts) (bracketed (open_frames frames) w) (other_token ∷ []) _
closed_ends fs _ (at_semicolon ts) w frames n = then_with (run fs ts) (bracketed (open_frames frames) w) (other_token ∷ []) _

closed_follows : (fs : List (List ℕ)) (ts : List Token) → Follows ts → (w : List ℕ) (frames : List Frame) (n : ℕ) →
    run fs ts (at frames (ParenClosed w) n) ≡ with_roles (bracketed (open_frames frames) w) (run fs ts (at frames (After (e.Var n w)) (n + 1)))
unfolding run
closed_follows fs _ (at_dot ts) w frames n = refl
closed_follows fs ts (ends h) w frames n = closed_ends fs ts h w frames n

-- The operand of a cast begins.
begins_cast : (fs : List (List ℕ)) (t : ExprTree) (ts : List Token) (c : List ℕ) (frames : List Frame) (n : ℕ) →
    run fs (spell_expr t ts) (at frames (ParenClosed c) n) ≡ with_roles (cast_to (open_frames frames) c) (run fs (spell_expr t ts) (at (InCast n c ∷ frames) Begin (n + 1)))
unfolding run
begins_cast fs (cast d t) ts c frames n = refl
begins_cast fs (chain (variable w) ss) ts c frames n = refl
begins_cast fs (chain this_word ss) ts c frames n = refl
begins_cast fs (chain (made d args) ss) ts c frames n = refl
begins_cast fs (chain (bracket t) ss) ts c frames n = refl

-- The expression of an argument begins, behind its marks.
begins_arg : (fs : List (List ℕ)) (t : ExprTree) (ts : List Token) (h : Head) (before : List Arg) (colors : Sides) (frames : List Frame) (n : ℕ) →
    run fs (spell_expr t ts) (at frames (InMarks h before colors) n) ≡ run fs (spell_expr t ts) (at (InArgs h before colors ∷ frames) Begin n)
unfolding run
begins_arg fs (cast d t) ts h before colors frames n = refl
begins_arg fs (chain (variable w) ss) ts h before colors frames n = refl
begins_arg fs (chain this_word ss) ts h before colors frames n = refl
begins_arg fs (chain (made d args) ss) ts h before colors frames n = refl
begins_arg fs (chain (bracket t) ss) ts h before colors frames n = refl

-- The first argument begins as the others do.
begins_first : (fs : List (List ℕ)) (ms : List Signed) (t : ExprTree) (ts : List Token) (h : Head) (frames : List Frame) (n : ℕ) →
    run fs (spell_marks ms (spell_expr t ts)) (at frames (FirstArg h) n) ≡ run fs (spell_marks ms (spell_expr t ts)) (at frames (InMarks h [] no_colors) n)
unfolding run
begins_first fs [] (cast d t) ts h frames n = refl
begins_first fs [] (chain (variable w) ss) ts h frames n = refl
begins_first fs [] (chain this_word ss) ts h frames n = refl
begins_first fs [] (chain (made d args) ss) ts h frames n = refl
begins_first fs [] (chain (bracket t) ss) ts h frames n = refl
begins_first fs (m ∷ ms) t ts h frames n = refl

-- behind its `@` a mark is read, with its `!` or without
mark_run : (fs : List (List ℕ)) (off : Bool) (w : List ℕ) (ts : List Token) (h : Head) (before : List Arg) (colors : Sides) (frames : List Frame) (n : ℕ) →
    run fs (spell_sign off (Id w ∷ ts)) (at frames (AfterAt h before colors false) n)
    ≡ on_roles (λ q. roles_sign off (mark_name w ∷ q)) (run fs ts (at frames (InMarks h before (marked fs colors (record { off = off; name = w }))) n))
unfolding run
mark_run fs false w ts h before colors frames n = refl
mark_run fs true w ts h before colors frames n = refl

marks_run : (fs : List (List ℕ)) (ms : List Signed) (ts : List Token) (h : Head) (before : List Arg) (colors : Sides) (frames : List Frame) (n : ℕ) →
    run fs (spell_marks ms ts) (at frames (InMarks h before colors) n) ≡ on_roles (roles_marks ms) (run fs ts (at frames (InMarks h before (colored fs colors ms)) n))
unfolding run
marks_run fs [] ts h before colors frames n = refl
marks_run fs (m ∷ ms) ts h before colors frames n =
    ap (with_roles (other_token ∷ [])) (mark_run fs m.off m.name (spell_marks ms ts) h before colors frames n)
    ∙ ap (on_roles (roles_mark m)) (marks_run fs ms ts h before (marked fs colors m) frames n)

-- A bracket begins.
begins_bracket : (fs : List (List ℕ)) (t : ExprTree) (ts : List Token) → Follows ts → (frames : List Frame) (n : ℕ) →
    run fs (spell_expr t (CloseParen ∷ ts)) (at frames Paren n) ≡ with_roles (opens (open_frames frames + 1) ∷ []) (run fs (spell_expr t (CloseParen ∷ ts)) (at (InBracket ∷ frames) Begin n))
unfolding run
begins_bracket fs (cast d t) ts h frames n = refl
begins_bracket fs (chain (variable w) stop) ts h frames n = closed_follows fs ts h w frames n
begins_bracket fs (chain (variable w) (get f ss)) ts h frames n = refl
begins_bracket fs (chain (variable w) (call m args ss)) ts h frames n = refl
begins_bracket fs (chain this_word ss) ts h frames n = refl
begins_bracket fs (chain (made d args) ss) ts h frames n = refl
begins_bracket fs (chain (bracket t) ss) ts h frames n = refl

-- An argument is read, and those behind it, where its expression is, and they are.
arg_runs : (fs : List (List ℕ)) (ms : List Signed) (t : ExprTree) (more : MoreArgsTree) (ts : List Token) (h : Head) (before : List Arg) (frames : List Frame) (n : ℕ) (o : Run) →
    run fs (spell_expr t (spell_more_args more (CloseParen ∷ ts))) (at (InArgs h before (colors_of fs ms) ∷ frames) Begin n)
    ≡ on_roles (roles_expr (open_frames frames + 1) t) (run fs (spell_more_args more (CloseParen ∷ ts)) (at (InArgs h before (colors_of fs ms) ∷ frames) (After (value_expr fs n t).0) (value_expr fs n t).1)) →
    run fs (spell_more_args more (CloseParen ∷ ts)) (at (InArgs h before (colors_of fs ms) ∷ frames) (After (value_expr fs n t).0) (value_expr fs n t).1)
    ≡ on_roles (λ q. roles_more_args (open_frames frames + 1) more (other_token ∷ q)) o →
    run fs (spell_marks ms (spell_expr t (spell_more_args more (CloseParen ∷ ts)))) (at frames (InMarks h before no_colors) n)
    ≡ on_roles (λ q. roles_marks ms (roles_expr (open_frames frames + 1) t (roles_more_args (open_frames frames + 1) more (other_token ∷ q)))) o
arg_runs fs ms t more ts h before frames n o tree rest =
    marks_run fs ms (spell_expr t (spell_more_args more (CloseParen ∷ ts))) h before no_colors frames n
    ∙ ap (on_roles (roles_marks ms)) (begins_arg fs t (spell_more_args more (CloseParen ∷ ts)) h before (colors_of fs ms) frames n ∙ tree ∙ ap (on_roles (roles_expr (open_frames frames + 1) t)) rest)

mutual
  unfolding run

  -- an expression, in any frames and before any text that may follow
  pub expr_runs : (fs : List (List ℕ)) (t : ExprTree) (ts : List Token) → Ends ts → (frames : List Frame) (n : ℕ) →
      run fs (spell_expr t ts) (at frames Begin n)
      ≡ on_roles (roles_expr (open_frames frames) t) (run fs ts (at frames (After (value_expr fs n t).0) (value_expr fs n t).1))
  expr_runs fs (cast c t) ts h frames n =
      begins_cast fs t ts c frames n
      ∙ ap (with_roles (cast_to (open_frames frames) c)) (expr_runs fs t ts h (InCast n c ∷ frames) (n + 1) ∙ ap (on_roles (roles_expr (open_frames frames + 1) t)) (cast_ends fs ts h n c frames _ _))
  expr_runs fs (chain s ss) ts h frames n =
      start_runs fs s (spell_steps ss ts) (follows_steps ss ts h) frames n ∙ ap (on_roles (roles_start (open_frames frames) s)) (steps_run fs ss ts h frames _ _)

  start_runs : (fs : List (List ℕ)) (s : StartTree) (ts : List Token) → Follows ts → (frames : List Frame) (n : ℕ) →
      run fs (spell_start s ts) (at frames Begin n)
      ≡ on_roles (roles_start (open_frames frames) s) (run fs ts (at frames (After (value_start fs n s).0) (value_start fs n s).1))
  start_runs fs (variable w) ts h frames n = refl
  start_runs fs this_word ts h frames n = refl
  start_runs fs (made c args) ts h frames n = ap (with_roles (node ∷ (used_name c ∷ (opens (open_frames frames + 1) ∷ [])))) (args_run fs args ts (OfNew n c) frames (n + 1))
  start_runs fs (bracket t) ts h frames n =
      begins_bracket fs t ts h frames n ∙ ap (with_roles (opens (open_frames frames + 1) ∷ [])) (expr_runs fs t (CloseParen ∷ ts) (at_close ts) (InBracket ∷ frames) n)

  steps_run : (fs : List (List ℕ)) (ss : StepsTree) (ts : List Token) → Ends ts → (frames : List Frame) (x : Expr) (n : ℕ) →
      run fs (spell_steps ss ts) (at frames (After x) n)
      ≡ on_roles (roles_steps (open_frames frames) ss) (run fs ts (at frames (After (value_steps fs n x ss).0) (value_steps fs n x ss).1))
  steps_run fs stop ts h frames x n = refl
  steps_run fs (get f ss) ts h frames x n =
      ap (with_roles (node ∷ (used_name f ∷ []))) (member_follows fs (spell_steps ss ts) (follows_steps ss ts h) f frames x n ∙ steps_run fs ss ts h frames _ _)
  steps_run fs (call m args ss) ts h frames x n =
      ap (with_roles (node ∷ (used_name m ∷ (opens (open_frames frames + 1) ∷ []))))
      (args_run fs args (spell_steps ss ts) (OfCall n x m) frames (n + 1)
      ∙ ap (on_roles (λ q. roles_args (open_frames frames + 1) args (other_token ∷ q))) (steps_run fs ss ts h frames _ _))

  args_run : (fs : List (List ℕ)) (args : ArgsTree) (ts : List Token) (h : Head) (frames : List Frame) (n : ℕ) →
      run fs (spell_args args (CloseParen ∷ ts)) (at frames (FirstArg h) n)
      ≡ on_roles (λ q. roles_args (open_frames frames + 1) args (other_token ∷ q)) (run fs ts (at frames (After (applied h (value_args fs n args).0)) (value_args fs n args).1))
  args_run fs no_args ts h frames n = refl
  args_run fs (first_arg ms t more) ts h frames n =
      begins_first fs ms t (spell_more_args more (CloseParen ∷ ts)) h frames n
      ∙ arg_runs fs ms t more ts h [] frames n _ (expr_runs fs t (spell_more_args more (CloseParen ∷ ts)) (ends_more more ts) (InArgs h [] (colors_of fs ms) ∷ frames) n) (more_run fs more ts h [] (colors_of fs ms) frames (value_expr fs n t).0 (value_expr fs n t).1)

  more_run : (fs : List (List ℕ)) (more : MoreArgsTree) (ts : List Token) (h : Head) (before : List Arg) (colors : Sides) (frames : List Frame) (x : Expr) (n : ℕ) →
      run fs (spell_more_args more (CloseParen ∷ ts)) (at (InArgs h before colors ∷ frames) (After x) n)
      ≡ on_roles (λ q. roles_more_args (open_frames frames + 1) more (other_token ∷ q)) (run fs ts (at frames (After (applied h (value_more_args fs n (before ++ colored_arg colors x ∷ []) more).0)) (value_more_args fs n (before ++ colored_arg colors x ∷ []) more).1))
  more_run fs no_more ts h before colors frames x n = refl
  more_run fs (next_arg ms t more) ts h before colors frames x n =
      ap (with_roles (other_token ∷ []))
      (arg_runs fs ms t more ts h (before ++ colored_arg colors x ∷ []) frames n _ (expr_runs fs t (spell_more_args more (CloseParen ∷ ts)) (ends_more more ts) (InArgs h (before ++ colored_arg colors x ∷ []) (colors_of fs ms) ∷ frames) n) (more_run fs more ts h (before ++ colored_arg colors x ∷ []) (colors_of fs ms) frames (value_expr fs n t).0 (value_expr fs n t).1))

-- The whole text of a tree, with the token behind it, is read as the tree's expression, in the tree's roles.
pub text_runs : (fs : List (List ℕ)) (x : ExprTree) → run fs (spell_expr x (Semicolon ∷ [])) start ≡ (Some (done (value_expr fs 0 x).0), roles_expr 0 x (other_token ∷ []))
unfolding run
text_runs fs x = expr_runs fs x (Semicolon ∷ []) (at_semicolon []) [] 0
