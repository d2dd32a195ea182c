-- Parts of a project that are read by themselves: what their machines have from the one for projects.
use Rattle.std.proofs.Common.{◌≡◌, ℕ, suc, ◌+◌, ◌≤◌, Bool, true, false, List, [], ◌∷◌, ◌++◌, length, Option, Some, None, refl, sym, ◌∙◌, ap, subst, arith, append_assoc, length-append}
use Rattle.std.proofs.lemmas.List.{append-nil}
use Rattle.std.proofs.lemmas.Option.{none-some, same_Some}
use Rattle.cfj_model.specs.declared.feature_model.Format.{Format}
use Rattle.cfj_model.specs.declared.expr.Expr.{Expr}
use Rattle.cfj_model.specs.Roles.{Role}
use Rattle.cfj_words.specs.Tokens.{Token, End}
use Rattle.expression_reader.specs.Machine as expression
use Rattle.expression_reader.proofs.Finishing.{waited_first}
use Rattle.fj_parser.specs.declared.goal.Goal.{Goal}
use Rattle.fj_machine.specs.declared.mode.Mode.{Mode}
use Rattle.fj_machine.specs.declared.mode.Mode.TheVariants.{Begin, Start, BetweenClasses, InMembers, AfterType, InMethods, AfterMethodName, InExpression, AtEnd}
use Rattle.fj_parser.specs.Goals.{step_for, reader_for}
use Rattle.fj_parser.specs.Laws.{Settles, alike}
use Rattle.fj_machine.specs.Machine.{State, with_method, after_expression, in_expression, step_in, step, emitted, pending, pending_in, reader, run}
use Rattle.fj_machine.specs.Readers.{Run, with_roles, then_run, run_of}
use Rattle.fj_parser.proofs.Closing.{Ending}
use Rattle.fj_parser.proofs.Expressions.{in_body}
use Rattle.fj_parser.proofs.Law.{begun_on}
use Rattle.fj_parser.proofs.MethodsSound.{whole_done}
use Rattle.fj_parser.proofs.Readers.{on_from, roles_on, run_append}
use Rattle.fj_parser.proofs.Standing.{is_declaring, declaring_emits, declaring_waits, Stands, StandsIn, stands_step, each_once}

-- ---- lists that begin alike

-- Of two lists with the same whole, one begins with the other.
pub data Overlap (a b c d : List Token) : Type 0 where
  within : (z : List Token) → c ≡ a ++ z → b ≡ z ++ d → Overlap a b c d
  beyond : (t : Token) (z : List Token) → a ≡ c ++ t ∷ z → d ≡ t ∷ (z ++ b) → Overlap a b c d

pub overlap : (a b c d : List Token) → a ++ b ≡ c ++ d → Overlap a b c d
overlap [] b c d e = within c refl e
overlap (t ∷ a) b [] d e = beyond t a refl (sym e)
overlap (t ∷ a) b (u ∷ c) d e =
    let same : t ≡ u = cc e in
    let rest : a ++ b ≡ c ++ d = cc e in
    by same (overlap a b c d rest)
  where
    by : t ≡ u → Overlap a b c d → Overlap (t ∷ a) b (u ∷ c) d
    by same (within z front back) = within z (let is : u ∷ c ≡ t ∷ (a ++ z) = cc in is) back
    by same (beyond v z front back) = beyond v z (let is : t ∷ a ≡ u ∷ (c ++ v ∷ z) = cc in is) back

-- the longer of two lists that begin one list begins with the other
front_of : (p o q r : List Role) → q ++ r ≡ p ++ o → length p ≤ length q → (x : List Role) × (q ≡ p ++ x)
front_of [] o q r e le = (q, refl)
front_of (a ∷ p) o [] r e le = absurd (omega arith)
front_of (a ∷ p) o (b ∷ q) r e le =
    let same : b ≡ a = cc e in
    let rest : q ++ r ≡ p ++ o = cc e in
    by same (front_of p o q r rest (omega arith))
  where
    by : b ≡ a → ((x : List Role) × (q ≡ p ++ x)) → (x : List Role) × (b ∷ q ≡ (a ∷ p) ++ x)
    by same (x, is) = (x, cc)

-- ---- runs of the machine for projects

-- each token gives a role, at once or later
counted : (ts : List Token) (s n : State) (rs : List Role) → Stands s rs → (run ts s).0 ≡ Some n → length (run ts s).1 + length (pending n) ≡ length (pending s) + length ts
unfolding run_of
counted [] s n rs k h =
    let same : length (pending s) ≡ length (pending n) = ap (λ x. length (pending x)) (same_Some s n h) in
    omega arith
counted (t ∷ ts) s n rs k h = go (λ x j e. counted ts x n (rs ++ emitted s t) j e) (step s t) refl (stands_step s t rs k) h
  where
    go : ((x : State) → Stands x (rs ++ emitted s t) → (run ts x).0 ≡ Some n → length (run ts x).1 + length (pending n) ≡ length (pending x) + length ts) → (o : Option State) → step s t ≡ o → StandsIn o (rs ++ emitted s t) → (then_run (run ts) (emitted s t) o).0 ≡ Some n → length (then_run (run ts) (emitted s t) o).1 + length (pending n) ≡ length (pending s) + suc (length ts)
    go ih None goes j h = absurd (none-some n h)
    go ih (Some x) goes j h =
        let long : length (emitted s t ++ (run ts x).1) ≡ length (emitted s t) + length (run ts x).1 = length-append (emitted s t) (run ts x).1 in
        let one : length (emitted s t) + length (pending x) ≡ suc (length (pending s)) = each_once s x t rs k goes in
        let others : length (run ts x).1 + length (pending n) ≡ length (pending x) + length ts = ih x j h in
        omega arith

-- Where a part ends before the text, its roles behind what was read begin with those that wait.
pub waiting_first : (from s d : State) (front z rest : List Token) (rs all : List Role) → run front from ≡ (Some s, rs) → Stands s rs → (e : Ending s) → e.more ≡ z ++ rest → run (front ++ z) from ≡ (Some d, all) → pending d ≡ [] → (others : List Role) × (all ≡ rs ++ (pending s ++ others))
waiting_first from s d front z rest rs all h k e more part none = by (run z s) refl
  where
    both : with_roles rs (run z s) ≡ (Some d, all)
    both = ap (on_from reader z) (sym h) ∙ sym (run_append reader front z from) ∙ part

    reaches : (run z s).0 ≡ Some d
    reaches = ap (λ (p : Run State). p.0) both

    by : (p : Run State) → run z s ≡ p → (others : List Role) × (all ≡ rs ++ (pending s ++ others))
    by p same =
        let q : List Role = (run z s).1 in
        let ran : run z s ≡ (Some d, q) = ap (λ o. (o, q)) reaches in
        let onwards : run e.more s ≡ with_roles q (run rest d) = ap (λ w. run w s) more ∙ run_append reader z rest s ∙ ap (on_from reader rest) ran in
        let begins : q ++ (run rest d).1 ≡ pending s ++ e.others = ap (λ (p : Run State). p.1) (sym onwards) ∙ e.begins in
        let long : length q + length (pending d) ≡ length (pending s) + length z = counted z s d rs k reaches in
        let few : length (pending d) ≡ 0 = ap length none in
        let x = front_of (pending s) e.others q (run rest d).1 begins (omega (arith, long, few)) in
        (x.0, ap (λ (p : Run State). p.1) (sym both) ∙ ap (λ w. rs ++ w) x.1)

-- ---- the same run by both machines

-- the modes in which the machine for fields, for methods and for both is the one for projects
abbrev pub is_inside : Mode → Bool
is_inside Begin = false
is_inside Start = false
is_inside BetweenClasses = false
is_inside InMembers = false
is_inside AfterType = false
is_inside InMethods = false
is_inside AfterMethodName = false
is_inside _ = true

-- what holds of a state, if there is one
abbrev pub OfSome : (State → Type 0) → Option State → Type 0
OfSome p None = Unit {0}
OfSome p (Some s) = p s

-- The machine for projects takes these tokens in such modes alone.
abbrev pub Stays : List Token → State → Type 0
Stays [] s = Unit {0}
Stays (t ∷ ts) s = (is_inside s.mode ≡ true) × OfSome (Stays ts) (step s t)

-- the end alone is taken aside, outside of expressions
abbrev pub AsideAtEnd : State → Token → State → Type 0
AsideAtEnd s t n = (t ≡ End) × (n.mode ≡ AtEnd) × (is_declaring s.mode ≡ true)

-- a token that is taken outside of expressions is settled at once
pub once_aside : (s n : State) (t : Token) → is_declaring s.mode ≡ true → is_declaring n.mode ≡ true → length (emitted s t) + length (pending n) ≡ suc (length (pending s))
once_aside s n t e f =
    let own : length (emitted s t) ≡ 1 = ap length (declaring_emits s.mode s t e) in
    let before : length (pending s) ≡ 0 = ap length (declaring_waits s.mode s e) in
    let behind : length (pending n) ≡ 0 = ap length (declaring_waits n.mode n f) in
    omega arith

module _ (g : Goal) (format : Format) (fs : List (List ℕ)) (class : List ℕ) where
  -- the part's run
  abbrev pub part_run : List Token → State → Run State
  part_run = run_of (reader_for g format fs class)

  abbrev pub IsSameInside : Type 0
  IsSameInside = (m : Mode) (s : State) (t : Token) → is_inside m ≡ true → step_for g m s t ≡ step_in m s t

  -- over such tokens the part's run is that of the machine for projects
  pub stays_run : IsSameInside → (ts more : List Token) (s : State) → Stays ts s → part_run (ts ++ more) s ≡ on_from (reader_for g format fs class) more (run ts s)
  unfolding run_of
  stays_run same [] more s k = refl
  stays_run same (t ∷ ts) more s k = ap (then_run (part_run (ts ++ more)) (emitted s t)) (same s.mode s t k.0) ∙ go (λ n j. stays_run same ts more n j) (step s t) k.1
    where
      go : ((n : State) → Stays ts n → part_run (ts ++ more) n ≡ on_from (reader_for g format fs class) more (run ts n)) → (o : Option State) → OfSome (Stays ts) o → then_run (part_run (ts ++ more)) (emitted s t) o ≡ on_from (reader_for g format fs class) more (then_run (run ts) (emitted s t) o)
      go ih None j = refl
      go ih (Some n) j = ap (with_roles (emitted s t)) (ih n j) ∙ roles_on (reader_for g format fs class) (emitted s t) more (run ts n)

  -- ---- what waits is settled first

  -- A run takes an expression to its end, and its roles come first.
  record Finished (p : Run State) (s : State) (e : expression.State) : Type 0 where
    us : List Token
    last : expression.State
    value : Expr
    own : List Role
    others : List Role
    ran : expression.run s.features us e ≡ (Some last, own)
    whole : expression.expression last ≡ Some value
    all : p.1 ≡ own ++ others

  -- in an expression the part's machine is the one for projects
  abbrev pub IsSameInExpression : Type 0
  IsSameInExpression = (s : State) (t : Token) → step_for g InExpression s t ≡ step_in InExpression s t

  finished : IsSameInExpression → (ts : List Token) (s n : State) (e : expression.State) → n.mode ≡ AtEnd → (part_run ts (in_body s e)).0 ≡ Some n → Finished (part_run ts (in_body s e)) s e
  unfolding run_of expression.run
  finished same [] s n e end h =
      let no : InExpression ≡ AtEnd = ap (λ x. x.mode) (same_Some (in_body s e) n h) ∙ end in
      absurd (let never_so : ⊥ = cc no in never_so)
  finished same (t ∷ ts) s n e end h =
      let steps : then_run (part_run ts) (emitted (in_body s e) t) (in_expression (in_body s e) (expression.step s.features e t)) ≡ part_run (t ∷ ts) (in_body s e) = ap (then_run (part_run ts) (emitted (in_body s e) t)) (sym (same (in_body s e) t)) in
      subst (λ (p : Run State). Finished p s e) steps (go (λ x k. finished same ts s n x end k) (expression.step s.features e t) refl (ap (λ (p : Run State). p.0) steps ∙ h))
    where
      go : ((x : expression.State) → (part_run ts (in_body s x)).0 ≡ Some n → Finished (part_run ts (in_body s x)) s x) → (o : Option expression.State) → expression.step s.features e t ≡ o → (then_run (part_run ts) (emitted (in_body s e) t) (in_expression (in_body s e) o)).0 ≡ Some n → Finished (then_run (part_run ts) (emitted (in_body s e) t) (in_expression (in_body s e) o)) s e
      go ih None goes h = absurd (none-some n h)
      go ih (Some x) goes h = by (expression.expression x) refl h
        where
          by : (q : Option Expr) → expression.expression x ≡ q → (with_roles (emitted (in_body s e) t) (part_run ts (after_expression (in_body s e) x q))).0 ≡ Some n → Finished (with_roles (emitted (in_body s e) t) (part_run ts (after_expression (in_body s e) x q))) s e
          by None unread k =
              let r = ih x k in
              record {
                us = t ∷ r.us;
                last = r.last;
                value = r.value;
                own = expression.emitted e t ++ r.own;
                others = r.others;
                ran = ap (expression.then_run (expression.run s.features r.us) (expression.emitted e t)) goes ∙ ap (expression.with_roles (expression.emitted e t)) r.ran;
                whole = r.whole;
                all = ap (λ q. expression.emitted e t ++ q) r.all ∙ sym (append_assoc (expression.emitted e t) r.own r.others);
              }
          by (Some v) read k =
              let q : List Role = (part_run ts (with_method s v)).1 in
              record {
                us = t ∷ [];
                last = x;
                value = v;
                own = expression.emitted e t ++ [];
                others = q;
                ran = ap (expression.then_run (expression.run s.features []) (expression.emitted e t)) goes;
                whole = read;
                all = ap (λ w. w ++ q) (sym (append-nil (expression.emitted e t)));
              }

  pub part_settles : IsSameInExpression → (ts : List Token) (s n : State) (rs : List Role) → n.mode ≡ AtEnd → part_run ts s ≡ (Some n, rs) → Settles (pending s) rs
  part_settles same ts s n rs end h = by s.mode refl
    where
      by : (m : Mode) → s.mode ≡ m → Settles (pending_in m s) rs
      by InExpression here =
          let is : s ≡ in_body s s.expression = ap (λ m. record s { mode = m }) here in
          let ran : part_run ts (in_body s s.expression) ≡ (Some n, rs) = ap (part_run ts) (sym is) ∙ h in
          let f = finished same ts s n s.expression end (ap (λ (p : Run State). p.0) ran) in
          begun_on (expression.pending s.expression) f.own f.others rs (ap (λ (p : Run State). p.1) (sym ran) ∙ f.all) (waited_first s.features f.us s.expression f.last f.own f.ran (whole_done f.last f.value f.whole))
      by _ here = alike rs refl

  -- ---- where the part's machine leaves the other

  -- Each of its tokens is taken by the machine for projects too, or the first that isn't is taken aside.
  pub data Strays (Aside : State → Token → State → Type 0) (front : List Token) (from s : State) (rs : List Role) : Type 0 where
    along : run front from ≡ (Some s, rs) → Strays Aside front from s rs
    off : (us : List Token) (t : Token) (vs : List Token) (x n : State) (qs : List Role)
        → front ≡ us ++ t ∷ vs → run us from ≡ (Some x, qs) → part_run us from ≡ (Some x, qs) → Aside x t n → step_for g x.mode x t ≡ Some n → (part_run vs n).0 ≡ Some s → Strays Aside front from s rs

  -- so each step
  pub data Goes (Aside : State → Token → State → Type 0) (s : State) (t : Token) (n : State) : Type 0 where
    on : step s t ≡ Some n → Goes Aside s t n
    aside : Aside s t n → Goes Aside s t n

  pub strays : (Aside : State → Token → State → Type 0) → ((s n : State) (t : Token) → step_for g s.mode s t ≡ Some n → Goes Aside s t n) → (front : List Token) (from s : State) (rs : List Role) → part_run front from ≡ (Some s, rs) → Strays Aside front from s rs
  unfolding run_of
  strays Aside goes [] from s rs h = along h
  strays Aside goes (t ∷ ts) from s rs h = go (λ x k. strays Aside goes ts x s (part_run ts x).1 k) (step_for g from.mode from t) refl h
    where
      go : ((x : State) → part_run ts x ≡ (Some s, (part_run ts x).1) → Strays Aside ts x s (part_run ts x).1) → (o : Option State) → step_for g from.mode from t ≡ o → then_run (part_run ts) (emitted from t) o ≡ (Some s, rs) → Strays Aside (t ∷ ts) from s rs
      go ih None steps h = absurd (none-some s (ap (λ (p : Run State). p.0) h))
      go ih (Some x) steps h = by (goes from x t steps)
        where
          reaches : (part_run ts x).0 ≡ Some s
          reaches = ap (λ (p : Run State). p.0) h

          all : emitted from t ++ (part_run ts x).1 ≡ rs
          all = ap (λ (p : Run State). p.1) h

          behind : step from t ≡ Some x → Strays Aside ts x s (part_run ts x).1 → Strays Aside (t ∷ ts) from s rs
          behind e (along k) = along (ap (then_run (run ts) (emitted from t)) e ∙ ap (with_roles (emitted from t)) k ∙ ap (λ (q : List Role). (Some s, q)) all)
          behind e (off us u vs y n qs is ran own a next rest) =
              off (t ∷ us) u vs y n (emitted from t ++ qs)
              (ap (λ w. t ∷ w) is)
              (ap (then_run (run us) (emitted from t)) e ∙ ap (with_roles (emitted from t)) ran)
              (ap (then_run (part_run us) (emitted from t)) steps ∙ ap (with_roles (emitted from t)) own)
              a next rest

          by : Goes Aside from t x → Strays Aside (t ∷ ts) from s rs
          by (on e) = behind e (ih x (ap (λ o. (o, (part_run ts x).1)) reaches))
          by (aside a) = off [] t ts from x [] refl refl refl a steps reaches
