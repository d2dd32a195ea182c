-- A run to the end: how its roles begin where tokens wait, and that it has an expression.
use Rattle.std.proofs.Common.{◌≡◌, ℕ, ◌+◌, ◌≤◌, true, List, [], ◌∷◌, ◌++◌, length, Some, refl, sym, ◌∙◌, ap, subst, arith}
use Rattle.cfj_model.specs.declared.expr.Expr.{Expr}
use Rattle.cfj_words.specs.Tokens.{Token}
use Rattle.cfj_model.specs.Roles.{Role, casts}
use Rattle.expression_reader.specs.declared.mode.Mode.{Mode}
use Rattle.expression_reader.specs.declared.mode.Mode.TheVariants.{Paren, ParenName, ParenClosed, Done}
use Rattle.expression_reader.specs.Machine.{State, open_frames, pending, pending_in, Run, run, is_read_whole, is_done, is_done_mode, expression, expression_in}
use Rattle.expression_reader.proofs.Law.{Shown, a_bracket, a_cast, shown}
use Rattle.expression_reader.proofs.Sound.{never}

-- The roles that a run settles begin with those that waited; or what waited was a cast, at most its bracket, its name and its
-- bracket.
pub data Begun (waited rs : List Role) : Type 0 where
  as_waited : (others : List Role) → rs ≡ waited ++ others → Begun waited rs
  as_a_cast : (d : ℕ) (others : List Role) → rs ≡ casts d ∷ others → 1 ≤ length waited → length waited ≤ 3 → Begun waited rs

-- no token waits
stays : (rs : List Role) → Shown [] rs → Begun [] rs
stays rs (a_bracket others e) = as_waited others e
stays rs (a_cast others not e) = never (sym not)

begun : (m : Mode) (d : ℕ) (rs : List Role) → Shown (pending_in m d) rs → Begun (pending_in m d) rs
begun Paren d rs (a_bracket others e) = as_waited others e
begun Paren d rs (a_cast others not e) = as_a_cast (d + 1) _ e (omega arith) (omega arith)
begun (ParenName w) d rs (a_bracket others e) = as_waited others e
begun (ParenName w) d rs (a_cast others not e) = as_a_cast (d + 1) _ e (omega arith) (omega arith)
begun (ParenClosed w) d rs (a_bracket others e) = as_waited others e
begun (ParenClosed w) d rs (a_cast others not e) = as_a_cast (d + 1) _ e (omega arith) (omega arith)
begun m d rs h = stays rs h

-- What waits is settled first, by a run to the end.
pub waited_first : (features : List (List ℕ)) (ts : List Token) (s n : State) (rs : List Role) → run features ts s ≡ (Some n, rs) → is_done n ≡ true → Begun (pending s) rs
waited_first features ts s n rs ran ended =
    let goes : is_read_whole (run features ts s).0 ≡ true = ap (λ (p : Run). is_read_whole p.0) ran ∙ ended in
    subst (Begun (pending s)) (ap (λ (p : Run). p.1) ran) (begun s.mode (open_frames s.frames) _ (shown features s.mode ts s.frames s.slot goes))

-- Where the expression is read, there is one.
pub has_expression : (s : State) → is_done s ≡ true → (x : Expr) × (expression s ≡ Some x)
has_expression s e = by s.mode e
  where
    by : (m : Mode) → is_done_mode m ≡ true → (x : Expr) × (expression_in m ≡ Some x)
    by (Done x) e = (x, refl)
    by _ e = never e
