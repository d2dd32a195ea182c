-- Where a part of a project is read by itself: what waited in an expression is settled first.
use Rattle.std.proofs.Common.{◌≡◌, ℕ, true, List, [], ◌∷◌, ◌++◌, Option, Some, None, refl, sym, ◌∙◌, ap, append_assoc}
use Rattle.std.proofs.lemmas.List.{append-nil}
use Rattle.std.proofs.lemmas.Option.{none-some, same_Some}
use Rattle.cfj_model.specs.declared.expr.Expr.{Expr}
use Rattle.cfj_model.specs.Roles.{Role}
use Rattle.cfj_model.specs.declared.feature_model.Format.{Format}
use Rattle.cfj_words.specs.Tokens.{Token}
use Rattle.expression_reader.specs.Machine as expression
use Rattle.expression_reader.proofs.Finishing.{waited_first}
use Rattle.fj_parser.specs.Goals.{step_for, reader_for}
use Rattle.fj_parser.specs.Laws.{Settles, alike}
use Rattle.fj_machine.specs.Machine.{State, after_expression, in_expression, step_in, pending, pending_in}
use Rattle.fj_machine.specs.Readers.{Run, then_run, run_of}
use Rattle.fj_parser.specs.declared.goal.Goal.{Goal}
use Rattle.fj_machine.specs.declared.mode.Mode.{Mode}
use Rattle.fj_machine.specs.declared.mode.Mode.TheVariants.{InExpression}
use Rattle.fj_parser.proofs.Expressions.{in_body}
use Rattle.fj_parser.proofs.Law.{begun_on}
use Rattle.fj_parser.proofs.MethodsSound.{whole_done}
use Rattle.fj_parser.proofs.Standing.{is_declaring}

-- Bodies are read as in a project.
abbrev pub ReadsBodies : Goal → Type 0
ReadsBodies g = (s : State) (t : Token) → step_for g InExpression s t ≡ step_in InExpression s t

-- The run of an expression to its end is how a run begins.
record Left (s : State) (e : expression.State) (rs : List Role) : Type 0 where
  us : List Token
  last : expression.State
  own : List Role
  others : List Role
  ran : expression.run s.features us e ≡ (Some last, own)
  whole : expression.is_done last ≡ true
  all : rs ≡ own ++ others

-- its last token
left_by : (t : Token) (s : State) (e n : expression.State) (x : Expr) (rest rs : List Role) → expression.step s.features e t ≡ Some n → expression.expression n ≡ Some x → expression.emitted e t ++ rest ≡ rs → Left s e rs
unfolding expression.run
left_by t s e n x rest rs goes whole all =
    record {
      us = t ∷ [];
      last = n;
      own = expression.emitted e t;
      others = rest;
      ran = ap (expression.then_run (expression.run s.features []) (expression.emitted e t)) goes ∙ ap (λ (q : List Role). (Some n, q)) (append-nil (expression.emitted e t));
      whole = whole_done n x whole;
      all = sym all;
    }

-- one more token before it
left_more : (t : Token) (s : State) (e n : expression.State) (rest rs : List Role) → expression.step s.features e t ≡ Some n → expression.emitted e t ++ rest ≡ rs → Left s n rest → Left s e rs
unfolding expression.run
left_more t s e n rest rs goes all l =
    record {
      us = t ∷ l.us;
      last = l.last;
      own = expression.emitted e t ++ l.own;
      others = l.others;
      ran = ap (expression.then_run (expression.run s.features l.us) (expression.emitted e t)) goes ∙ ap (expression.with_roles (expression.emitted e t)) l.ran;
      whole = l.whole;
      all = sym all ∙ ap (λ q. expression.emitted e t ++ q) l.all ∙ sym (append_assoc (expression.emitted e t) l.own l.others);
    }

-- A run that leaves an expression reads it to its end.
leaves : (g : Goal) (format : Format) (features : List (List ℕ)) (class : List ℕ) → ReadsBodies g → (ts : List Token) (s n : State) (e : expression.State) (rs : List Role) → run_of (reader_for g format features class) ts (in_body s e) ≡ (Some n, rs) → is_declaring n.mode ≡ true → Left s e rs
unfolding run_of
leaves g format features class same [] s n e rs h outside =
    let is : in_body s e ≡ n = same_Some (in_body s e) n (ap (λ (p : Run State). p.0) h) in
    let no : is_declaring InExpression ≡ true = ap (λ (x : State). is_declaring x.mode) is ∙ outside in
    absurd (let false_is_true : ⊥ = cc no in false_is_true)
leaves g format features class same (t ∷ ts) s n e rs h outside =
    go (λ m k. leaves g format features class same ts s n m (run_of (reader_for g format features class) ts (in_body s m)).1 k outside) (expression.step s.features e t) refl (sym (ap (then_run (run_of (reader_for g format features class) ts) (expression.emitted e t)) (same (in_body s e) t)) ∙ h)
  where
    go : ((m : expression.State) → run_of (reader_for g format features class) ts (in_body s m) ≡ (Some n, (run_of (reader_for g format features class) ts (in_body s m)).1) → Left s m (run_of (reader_for g format features class) ts (in_body s m)).1)
        → (o : Option expression.State) → expression.step s.features e t ≡ o → then_run (run_of (reader_for g format features class) ts) (expression.emitted e t) (in_expression (in_body s e) o) ≡ (Some n, rs) → Left s e rs
    go ih None stuck k = absurd (none-some n (ap (λ (p : Run State). p.0) k))
    go ih (Some m) steps k = by (expression.expression m) refl k
      where
        by : (q : Option Expr) → expression.expression m ≡ q → then_run (run_of (reader_for g format features class) ts) (expression.emitted e t) (Some (after_expression (in_body s e) m q)) ≡ (Some n, rs) → Left s e rs
        by None unread k =
            let rest : List Role = (run_of (reader_for g format features class) ts (in_body s m)).1 in
            left_more t s e m rest rs steps (ap (λ (p : Run State). p.1) k) (ih m (ap (λ (p : Run State). (p.0, rest)) k))
        by (Some x) whole k = left_by t s e m x (run_of (reader_for g format features class) ts (after_expression (in_body s e) m (Some x))).1 rs steps whole (ap (λ (p : Run State). p.1) k)

-- What waits is settled first, by a run that doesn't end in an expression.
pub goal_settles : (g : Goal) (format : Format) (features : List (List ℕ)) (class : List ℕ) → ReadsBodies g → (ts : List Token) (s n : State) (rs : List Role) → run_of (reader_for g format features class) ts s ≡ (Some n, rs) → is_declaring n.mode ≡ true → Settles (pending s) rs
goal_settles g format features class same ts s n rs h outside = by s.mode refl
  where
    by : (m : Mode) → s.mode ≡ m → Settles (pending_in m s) rs
    by InExpression here =
        let is : s ≡ in_body s s.expression = ap (λ m. record s { mode = m }) here in
        let l = leaves g format features class same ts s n s.expression rs (ap (run_of (reader_for g format features class) ts) (sym is) ∙ h) outside in
        begun_on (expression.pending s.expression) l.own l.others rs l.all (waited_first s.features l.us s.expression l.last l.own l.ran l.whole)
    by _ here = alike rs refl
