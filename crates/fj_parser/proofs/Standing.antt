-- What is known of each state that is reached: a formula in hand isn't whole, and what was read of an expression, and its roles.
use Rattle.std.proofs.Common.{◌≡◌, ℕ, suc, ◌+◌, ◌≤◌, Bool, true, false, if◌then◌else◌, List, [], ◌∷◌, ◌++◌, length, Option, Some, None, refl, sym, ◌∙◌, ap, subst, arith, append_assoc, length-append}
use Rattle.std.proofs.lemmas.Bool.{and_from, and_parts, leb-true, le-leb}
use Rattle.std.proofs.lemmas.List.{append-nil}
use Rattle.std.proofs.lemmas.Option.{none-some, same_Some}
use Rattle.std.specs.Str.{bytes_eq}
use Rattle.cfj_model.specs.declared.expr.Expr.{Expr}
use Rattle.cfj_logic.specs.declared.formula.Formula.{Formula}
use Rattle.cfj_model.specs.Grammar.{constraint_word, features_word, format_word}
use Rattle.cfj_words.specs.Tokens.{Token, Id, TrueWord, FalseWord, Bang, Ampersand, Bar, Arrow, DoubleArrow, ClassWord, ExtendsWord, SuperWord, ThisWord, ReturnWord, OpenBrace, CloseBrace, OpenParen, CloseParen, Semicolon, Comma, Dot, Equals, At, End}
use Rattle.cfj_model.specs.Roles.{Role, casts, format_line, used_name, is_settled, are_settled}
use Rattle.formula_reader.specs.Machine as formula
use Rattle.expression_reader.specs.Machine as expression
use Rattle.expression_reader.specs.declared.mode.Mode as expression_mode
use Rattle.expression_reader.specs.declared.mode.Mode.TheVariants as expression_variant
use Rattle.expression_reader.proofs.Counting.{read_settled}
use Rattle.expression_reader.proofs.Law as expression_law
use Rattle.fj_machine.specs.declared.mode.Owner.TheVariants as owner
use Rattle.fj_machine.specs.declared.mode.Node.TheVariants as node
use Rattle.fj_machine.specs.declared.mode.Mode.{Mode}
use Rattle.fj_machine.specs.declared.mode.Mode.TheVariants.{Begin, AfterFormat, AfterFeatures, AfterFeature, AfterFeatureComma, Start, InConstraint, BetweenClasses, AfterAt, AfterMark, AfterMarkedType, AfterClass, AfterClassName, AfterExtends, AfterParent, InMembers, AfterType, AfterFieldName, InParams, AfterParamComma, AfterParamType, AfterParam, AfterParams, InBody, AfterSuper, InSends, AfterSendComma, AfterSend, AfterSends, InAssigns, AfterThis, AfterThisDot, AfterAssigned, AfterEquals, AfterSecondName, InMethods, AfterResult, AfterMethodName, InMethodBody, InExpression, AfterBody}
use Rattle.fj_machine.specs.Machine.{unnamed, State, start, with_method, after_formula, in_formula, after_expression, in_expression, opens_constraint, opens_format, to, step_in, step, token_role, role_in, pending_in, pending, settles_in, waits_in, emitted, run}
use Rattle.fj_machine.specs.Readers.{Run, then_run, run_of}
use Rattle.fj_parser.proofs.ListsSound.{never}
use Rattle.fj_parser.proofs.Sound.{none_undone}

-- ---- the modes outside of formulas and expressions

abbrev pub is_declaring : Mode → Bool
is_declaring InConstraint = false
is_declaring InExpression = false
is_declaring _ = true

-- The same formula and the same expression are in hand behind a step, if there is one.
abbrev Alike : State → Option State → Type 0
Alike s None = Unit {0}
Alike s (Some n) = (n.formula ≡ s.formula) × (n.expression ≡ s.expression)

alike_if : (b : Bool) (s n : State) → Alike s (Some n) → Alike s (if b then Some n else None)
alike_if true s n h = h
alike_if false s n h = tt

alike_either : (b : Bool) (s n : State) (o : Option State) → Alike s (Some n) → Alike s o → Alike s (if b then Some n else o)
alike_either true s n o h k = h
alike_either false s n o h k = k

-- a token outside of them leaves both as they are
alike_step : (m : Mode) (s : State) (t : Token) → is_declaring m ≡ true → Alike s (step_in m s t)
alike_step InConstraint s t e = never e
alike_step InExpression s t e = never e
alike_step Begin s (Id w) e = alike_either (opens_format s w) s (record s { mode = AfterFormat }) (if bytes_eq w features_word then to AfterFeatures s else opens_constraint s w) (refl, refl) (alike_either (bytes_eq w features_word) s (record s { mode = AfterFeatures }) (opens_constraint s w) (refl, refl) (alike_if (bytes_eq w constraint_word) s (record s { mode = InConstraint }) (refl, refl)))
alike_step Begin s At e = (refl, refl)
alike_step Begin s ClassWord e = (refl, refl)
alike_step Begin s End e = (refl, refl)
alike_step AfterFormat s Semicolon e = (refl, refl)
alike_step AfterFeatures s (Id w) e = (refl, refl)
alike_step AfterFeature s Comma e = (refl, refl)
alike_step AfterFeature s Semicolon e = (refl, refl)
alike_step AfterFeatureComma s (Id w) e = (refl, refl)
alike_step Start s (Id w) e = alike_if (bytes_eq w constraint_word) s (record s { mode = InConstraint }) (refl, refl)
alike_step Start s At e = (refl, refl)
alike_step Start s ClassWord e = (refl, refl)
alike_step Start s End e = (refl, refl)
alike_step BetweenClasses s At e = (refl, refl)
alike_step BetweenClasses s ClassWord e = (refl, refl)
alike_step BetweenClasses s End e = (refl, refl)
alike_step (AfterAt n off) s (Id w) e = (refl, refl)
alike_step (AfterAt n false) s Bang e = (refl, refl)
alike_step (AfterAt n true) s Bang e = tt
alike_step (AfterMark node.Class) s At e = (refl, refl)
alike_step (AfterMark node.Class) s ClassWord e = (refl, refl)
alike_step (AfterMark node.Member) s At e = (refl, refl)
alike_step (AfterMark node.Member) s (Id w) e = (refl, refl)
alike_step (AfterMark node.Method) s At e = (refl, refl)
alike_step (AfterMark node.Method) s (Id w) e = (refl, refl)
alike_step (AfterMark (node.Param o)) s At e = (refl, refl)
alike_step (AfterMark (node.Param o)) s (Id w) e = (refl, refl)
alike_step (AfterMark node.Send) s At e = (refl, refl)
alike_step (AfterMark node.Send) s (Id w) e = (refl, refl)
alike_step (AfterMark node.Assign) s At e = (refl, refl)
alike_step (AfterMark node.Assign) s ThisWord e = (refl, refl)
alike_step AfterClass s (Id w) e = (refl, refl)
alike_step AfterClassName s ExtendsWord e = (refl, refl)
alike_step AfterExtends s (Id w) e = (refl, refl)
alike_step AfterParent s OpenBrace e = (refl, refl)
alike_step InMembers s At e = (refl, refl)
alike_step InMembers s (Id w) e = (refl, refl)
alike_step AfterType s (Id w) e = (refl, refl)
alike_step AfterType s OpenParen e = alike_if (bytes_eq s.of s.name) s (record s { mode = InParams owner.Constructor; of = unnamed }) (refl, refl)
alike_step AfterMarkedType s (Id w) e = (refl, refl)
alike_step AfterFieldName s Semicolon e = (refl, refl)
alike_step (InParams o) s At e = (refl, refl)
alike_step (InParams o) s (Id w) e = (refl, refl)
alike_step (InParams o) s CloseParen e = (refl, refl)
alike_step (AfterParamComma o) s At e = (refl, refl)
alike_step (AfterParamComma o) s (Id w) e = (refl, refl)
alike_step (AfterParamType o) s (Id w) e = (refl, refl)
alike_step (AfterParam o) s Comma e = (refl, refl)
alike_step (AfterParam o) s CloseParen e = (refl, refl)
alike_step (AfterParams owner.Constructor) s OpenBrace e = (refl, refl)
alike_step (AfterParams owner.Method) s OpenBrace e = (refl, refl)
alike_step InBody s SuperWord e = (refl, refl)
alike_step AfterSuper s OpenParen e = (refl, refl)
alike_step InSends s At e = (refl, refl)
alike_step InSends s (Id w) e = (refl, refl)
alike_step InSends s CloseParen e = (refl, refl)
alike_step AfterSendComma s At e = (refl, refl)
alike_step AfterSendComma s (Id w) e = (refl, refl)
alike_step AfterSend s Comma e = (refl, refl)
alike_step AfterSend s CloseParen e = (refl, refl)
alike_step AfterSends s Semicolon e = (refl, refl)
alike_step InAssigns s At e = (refl, refl)
alike_step InAssigns s ThisWord e = (refl, refl)
alike_step InAssigns s CloseBrace e = (refl, refl)
alike_step AfterThis s Dot e = (refl, refl)
alike_step AfterThisDot s (Id w) e = (refl, refl)
alike_step AfterAssigned s Equals e = (refl, refl)
alike_step AfterEquals s (Id w) e = alike_if (bytes_eq w s.last) s (record s { mode = AfterSecondName; last = unnamed }) (refl, refl)
alike_step AfterSecondName s Semicolon e = (refl, refl)
alike_step InMethods s At e = (refl, refl)
alike_step InMethods s (Id w) e = (refl, refl)
alike_step InMethods s CloseBrace e = (refl, refl)
alike_step AfterResult s (Id w) e = (refl, refl)
alike_step AfterMethodName s OpenParen e = (refl, refl)
alike_step InMethodBody s ReturnWord e = (refl, refl)
alike_step AfterBody s CloseBrace e = (refl, refl)
alike_step _ s t e = tt

-- the roles that a token settles in a mode
abbrev pub emitted_in : Mode → State → Token → List Role
emitted_in m s t = expression.settled (settles_in m s t) (pending_in m s) ++ expression.unless (waits_in m s t) (role_in m s t)

-- outside of them that is its own, and none waits
pub declaring_emits : (m : Mode) (s : State) (t : Token) → is_declaring m ≡ true → emitted_in m s t ≡ token_role m t ∷ []
declaring_emits InConstraint s t e = never e
declaring_emits InExpression s t e = never e
declaring_emits _ s t e = refl

pub declaring_waits : (m : Mode) (s : State) → is_declaring m ≡ true → pending_in m s ≡ []
declaring_waits InExpression s e = never e
declaring_waits _ s e = refl

-- ---- settled roles

-- settled roles stay so before others
still_settled : (r : Role) (a b : List Role) → is_settled r a ≡ true → is_settled r (a ++ b) ≡ true
still_settled (casts n) a b h =
    let long : 3 ≤ length a = leb-true 3 (length a) h in
    le-leb 3 (length (a ++ b)) (omega (arith, length-append a b))
still_settled _ a b h = refl

pub settled_append : (a b : List Role) → are_settled a ≡ true → are_settled b ≡ true → are_settled (a ++ b) ≡ true
settled_append [] b h k = k
settled_append (r ∷ a) b h k =
    let p = and_parts (is_settled r a) (are_settled a) h in
    and_from (is_settled r (a ++ b)) (are_settled (a ++ b)) (still_settled r a b p.0) (settled_append a b p.1 k)

-- a token outside of expressions is no cast's
-- the word of a line
line_settled : (b : Bool) (w : List ℕ) → are_settled ((if b then format_line else used_name w) ∷ []) ≡ true
line_settled true w = refl
line_settled false w = refl

name_settled : (m : Mode) (w : List ℕ) → are_settled (token_role m (Id w) ∷ []) ≡ true
name_settled Begin w = line_settled (bytes_eq w format_word) w
name_settled (AfterMark node.Class) w = refl
name_settled (AfterMark node.Member) w = refl
name_settled (AfterMark node.Method) w = refl
name_settled (AfterMark (node.Param o)) w = refl
name_settled (AfterMark node.Send) w = refl
name_settled (AfterMark node.Assign) w = refl
name_settled (AfterParamType owner.Constructor) w = refl
name_settled (AfterParamType owner.Method) w = refl
name_settled _ w = refl

token_settled : (m : Mode) (t : Token) → are_settled (token_role m t ∷ []) ≡ true
token_settled m (Id w) = name_settled m w
token_settled m _ = refl

formula_settled : (f : formula.State) (t : Token) → are_settled (formula.role f t ∷ []) ≡ true
formula_settled f (Id w) = refl
formula_settled f TrueWord = refl
formula_settled f FalseWord = refl
formula_settled f Bang = refl
formula_settled f OpenParen = refl
formula_settled f Ampersand = refl
formula_settled f Bar = refl
formula_settled f Arrow = refl
formula_settled f DoubleArrow = refl
formula_settled f _ = refl

-- ---- what is known of a state

-- An expression in hand was read from its first token on, and isn't whole; the roles before it are settled.
pub record BodyRead (s : State) (rs : List Role) : Type 0 where
  pub before : List Role
  pub us : List Token
  pub own : List Role
  pub all : rs ≡ before ++ own
  pub settled : are_settled before ≡ true
  pub ran : expression.run s.features us expression.start ≡ (Some s.expression, own)
  pub goes : expression.is_done s.expression ≡ false

-- No expression is in hand, and all roles are settled.
pub record NoBody (s : State) (rs : List Role) : Type 0 where
  pub settled : are_settled rs ≡ true
  pub none : s.expression ≡ expression.start

abbrev pub Holds : Mode → State → List Role → Type 0
Holds InExpression s rs = BodyRead s rs
Holds _ s rs = NoBody s rs

pub record Stands (s : State) (rs : List Role) : Type 0 where
  pub formula_goes : formula.is_done s.formula ≡ false
  pub holds : Holds s.mode s rs

-- outside of an expression nothing of one is in hand
pub no_body : (m : Mode) (s : State) (rs : List Role) → is_declaring m ≡ true → Holds m s rs → NoBody s rs
no_body InExpression s rs e h = never e
no_body _ s rs e h = h

-- an expression begins
as_body : (s : State) (rs : List Role) → NoBody s rs → BodyRead s rs
unfolding expression.run
as_body s rs h =
    record {
      before = rs;
      us = [];
      own = [];
      all = sym (append-nil rs);
      settled = h.settled;
      ran = ap (λ e. (Some e, [])) (sym h.none);
      goes = ap expression.is_done h.none;
    }

holds_in : (m : Mode) (s : State) (rs : List Role) → NoBody s rs → Holds m s rs
holds_in InExpression s rs h = as_body s rs h
holds_in _ s rs h = h

-- before its first token nothing waits
start_waits : (m : Mode) (s : State) → s.expression ≡ expression.start → pending_in m s ≡ []
start_waits InExpression s e = ap expression.pending e
start_waits _ s e = refl

-- what waits is settled as it is
pub waiting_settled : (m : Mode) (s : State) (rs : List Role) → Holds m s rs → are_settled (rs ++ pending_in m s) ≡ true
waiting_settled InExpression s rs h =
    let own : are_settled (h.own ++ expression.pending s.expression) ≡ true = read_settled s.features h.us s.expression h.own h.ran in
    ap are_settled (ap (λ q. q ++ expression.pending s.expression) h.all ∙ append_assoc h.before h.own (expression.pending s.expression)) ∙ settled_append h.before (h.own ++ expression.pending s.expression) h.settled own
waiting_settled _ s rs h = ap are_settled (append-nil rs) ∙ h.settled

-- ---- steps

-- and so behind a step, if there is one
abbrev pub StandsIn : Option State → List Role → Type 0
StandsIn None rs = Unit {0}
StandsIn (Some n) rs = Stands n rs

-- by a token outside of a formula and of an expression
declaring_stands : (m : Mode) (s : State) (t : Token) (rs : List Role) → is_declaring m ≡ true → formula.is_done s.formula ≡ false → NoBody s rs → StandsIn (step_in m s t) (rs ++ emitted_in m s t)
declaring_stands m s t rs e f h = go (step_in m s t) (alike_step m s t e)
  where
    settled : are_settled (rs ++ emitted_in m s t) ≡ true
    settled = ap (λ q. are_settled (rs ++ q)) (declaring_emits m s t e) ∙ settled_append rs (token_role m t ∷ []) h.settled (token_settled m t)

    go : (o : Option State) → Alike s o → StandsIn o (rs ++ emitted_in m s t)
    go None k = tt
    go (Some n) k = record { formula_goes = ap formula.is_done k.0 ∙ f; holds = holds_in n.mode n (rs ++ emitted_in m s t) (record { settled = settled; none = k.1 ∙ h.none }) }

-- by one of a formula
formula_stands : (s : State) (t : Token) (rs : List Role) (o : Option formula.State) → NoBody s rs → StandsIn (in_formula s o) (rs ++ emitted_in InConstraint s t)
formula_stands s t rs None h = tt
formula_stands s t rs (Some f) h = by (formula.formula_of f) refl
  where
    settled : are_settled (rs ++ emitted_in InConstraint s t) ≡ true
    settled = settled_append rs (formula.role s.formula t ∷ []) h.settled (formula_settled s.formula t)

    by : (q : Option Formula) → formula.formula_of f ≡ q → StandsIn (Some (after_formula s f q)) (rs ++ emitted_in InConstraint s t)
    by None e = record { formula_goes = none_undone f e; holds = holds_in s.mode (record s { formula = f }) (rs ++ emitted_in InConstraint s t) (record { settled = settled; none = h.none }) }
    by (Some x) e = record { formula_goes = refl; holds = record { settled = settled; none = h.none } }

-- an expression with no value isn't whole, and behind a whole one nothing waits
unread_goes : (e : expression.State) → expression.expression e ≡ None → expression.is_done e ≡ false
unread_goes e h = go e.mode h
  where
    go : (m : expression_mode.Mode) → expression.expression_in m ≡ None → expression.is_done_mode m ≡ false
    go (expression_variant.Done x) h = absurd (none-some x (sym h))
    go _ h = refl

pub whole_waits : (e : expression.State) (x : Expr) → expression.expression e ≡ Some x → expression.pending e ≡ []
whole_waits e x h = go e.mode h
  where
    go : (m : expression_mode.Mode) → expression.expression_in m ≡ Some x → expression.pending_in m (expression.open_frames e.frames) ≡ []
    go (expression_variant.Done y) h = refl
    go _ h = absurd (none-some x h)

-- by one of an expression
expression_stands : (s : State) (t : Token) (rs : List Role) → s.mode ≡ InExpression → formula.is_done s.formula ≡ false → (o : Option expression.State) → expression.step s.features s.expression t ≡ o → BodyRead s rs → StandsIn (in_expression s o) (rs ++ expression.emitted s.expression t)
expression_stands s t rs here f None goes h = tt
expression_stands s t rs here f (Some n) goes h = by (expression.expression n) refl
  where
    ran : expression.run s.features (h.us ++ t ∷ []) expression.start ≡ (Some n, h.own ++ expression.emitted s.expression t)
    ran = expression_law.run_more s.features h.us t s.expression n h.own h.ran goes

    all : rs ++ expression.emitted s.expression t ≡ h.before ++ (h.own ++ expression.emitted s.expression t)
    all = ap (λ q. q ++ expression.emitted s.expression t) h.all ∙ append_assoc h.before h.own (expression.emitted s.expression t)

    by : (q : Option Expr) → expression.expression n ≡ q → StandsIn (Some (after_expression s n q)) (rs ++ expression.emitted s.expression t)
    by None e =
        let b : BodyRead (record s { expression = n }) (rs ++ expression.emitted s.expression t) = record { before = h.before; us = h.us ++ t ∷ []; own = h.own ++ expression.emitted s.expression t; all = all; settled = h.settled; ran = ran; goes = unread_goes n e } in
        record { formula_goes = f; holds = subst (λ m. Holds m (record s { expression = n }) (rs ++ expression.emitted s.expression t)) (sym here) b }
    by (Some x) e =
        let own : are_settled ((h.own ++ expression.emitted s.expression t) ++ expression.pending n) ≡ true = read_settled s.features (h.us ++ t ∷ []) n (h.own ++ expression.emitted s.expression t) ran in
        let alone : are_settled (h.own ++ expression.emitted s.expression t) ≡ true = sym (ap are_settled (ap (λ q. (h.own ++ expression.emitted s.expression t) ++ q) (whole_waits n x e) ∙ append-nil (h.own ++ expression.emitted s.expression t))) ∙ own in
        record { formula_goes = f; holds = record { settled = ap are_settled all ∙ settled_append h.before (h.own ++ expression.emitted s.expression t) h.settled alone; none = refl } }

-- the token of a formula is settled at once
formula_once : (s n : State) (t : Token) (o : Option formula.State) → s.expression ≡ expression.start → in_formula s o ≡ Some n → length (emitted_in InConstraint s t) + length (pending n) ≡ suc (length (pending_in InConstraint s))
formula_once s n t None none g = absurd (none-some n g)
formula_once s n t (Some f) none g = by (formula.formula_of f) g
  where
    by : (q : Option Formula) → Some (after_formula s f q) ≡ Some n → length (emitted_in InConstraint s t) + length (pending n) ≡ suc (length (pending_in InConstraint s))
    by None g =
        let same : record s { formula = f } ≡ n = same_Some (record s { formula = f }) n g in
        let behind : length (pending n) ≡ 0 = ap (λ (x : State). length (pending x)) (sym same) ∙ ap length (start_waits s.mode (record s { formula = f }) none) in
        omega arith
    by (Some x) g =
        let same : after_formula s f (Some x) ≡ n = same_Some (after_formula s f (Some x)) n g in
        let behind : length (pending n) ≡ 0 = ap (λ (x : State). length (pending x)) (sym same) in
        omega arith

-- one of an expression is settled or waits
one_read : (fs : List (List ℕ)) (e n : expression.State) (t : Token) → expression.step fs e t ≡ Some n → length (expression.emitted e t) + length (expression.pending n) ≡ suc (length (expression.pending e))
unfolding expression.run
one_read fs e n t goes =
    let ran : expression.run fs (t ∷ []) e ≡ (Some n, expression.emitted e t ++ []) = ap (expression.then_run (expression.run fs []) (expression.emitted e t)) goes in
    let long : length (expression.run fs (t ∷ []) e).1 + length (expression.pending n) ≡ length (expression.pending e) + 1 = expression_law.run_long fs (t ∷ []) e n (ap (λ (p : expression.Run). p.0) ran) in
    let own : length (expression.run fs (t ∷ []) e).1 ≡ length (expression.emitted e t) = ap (λ (p : expression.Run). length p.1) ran ∙ ap length (append-nil (expression.emitted e t)) in
    omega arith

expression_once : (s n : State) (t : Token) → s.mode ≡ InExpression → (o : Option expression.State) → expression.step s.features s.expression t ≡ o → in_expression s o ≡ Some n → length (expression.emitted s.expression t) + length (pending n) ≡ suc (length (expression.pending s.expression))
expression_once s n t here None goes g = absurd (none-some n g)
expression_once s n t here (Some e) goes g = by (expression.expression e) refl g
  where
    once : length (expression.emitted s.expression t) + length (expression.pending e) ≡ suc (length (expression.pending s.expression))
    once = one_read s.features s.expression e t goes

    by : (q : Option Expr) → expression.expression e ≡ q → Some (after_expression s e q) ≡ Some n → length (expression.emitted s.expression t) + length (pending n) ≡ suc (length (expression.pending s.expression))
    by None none g =
        let same : record s { expression = e } ≡ n = same_Some (record s { expression = e }) n g in
        let behind : length (pending n) ≡ length (expression.pending e) = ap (λ (x : State). length (pending x)) (sym same) ∙ ap (λ m. length (pending_in m (record s { expression = e }))) here in
        omega (arith, once)
    by (Some x) whole g =
        let same : with_method s x ≡ n = same_Some (with_method s x) n g in
        let behind : length (pending n) ≡ 0 = ap (λ (x : State). length (pending x)) (sym same) in
        let none : length (expression.pending e) ≡ 0 = ap length (whole_waits e x whole) in
        omega (arith, once)

-- a step keeps it
pub stands_step : (s : State) (t : Token) (rs : List Role) → Stands s rs → StandsIn (step s t) (rs ++ emitted s t)
stands_step s t rs h = by (is_declaring s.mode) refl
  where
    hosted : (m : Mode) → s.mode ≡ m → is_declaring m ≡ false → Holds m s rs → StandsIn (step_in m s t) (rs ++ emitted_in m s t)
    hosted InConstraint here e k = formula_stands s t rs (formula.step s.features s.formula t) k
    hosted InExpression here e k = expression_stands s t rs here h.formula_goes (expression.step s.features s.expression t) refl k
    hosted _ here e k = never (sym e)

    by : (b : Bool) → is_declaring s.mode ≡ b → StandsIn (step s t) (rs ++ emitted s t)
    by true e = declaring_stands s.mode s t rs e h.formula_goes (no_body s.mode s rs e h.holds)
    by false e = hosted s.mode refl e h.holds

-- Behind a step each token is settled or waits.
pub each_once : (s n : State) (t : Token) (rs : List Role) → Stands s rs → step s t ≡ Some n → length (emitted s t) + length (pending n) ≡ suc (length (pending s))
each_once s n t rs h goes = by (is_declaring s.mode) refl
  where
    declaring : is_declaring s.mode ≡ true → length (emitted s t) + length (pending n) ≡ suc (length (pending s))
    declaring e =
        let next : Alike s (Some n) = subst (Alike s) goes (alike_step s.mode s t e) in
        let own : length (emitted s t) ≡ 1 = ap length (declaring_emits s.mode s t e) in
        let before : length (pending s) ≡ 0 = ap length (declaring_waits s.mode s e) in
        let behind : length (pending n) ≡ 0 = ap length (start_waits n.mode n (next.1 ∙ (no_body s.mode s rs e h.holds).none)) in
        omega arith

    hosted : (m : Mode) → s.mode ≡ m → is_declaring m ≡ false → Holds m s rs → step_in m s t ≡ Some n → length (emitted_in m s t) + length (pending n) ≡ suc (length (pending_in m s))
    hosted InConstraint here e k g = formula_once s n t (formula.step s.features s.formula t) k.none g
    hosted InExpression here e k g = expression_once s n t here (expression.step s.features s.expression t) refl g
    hosted _ here e k g = never (sym e)

    by : (b : Bool) → is_declaring s.mode ≡ b → length (emitted s t) + length (pending n) ≡ suc (length (pending s))
    by true e = declaring e
    by false e = hosted s.mode refl e h.holds goes

-- and so does a run
pub stands_run : (ts : List Token) (s n : State) (rs qs : List Role) → Stands s rs → run ts s ≡ (Some n, qs) → Stands n (rs ++ qs)
unfolding run_of
stands_run [] s n rs qs h e =
    let same : s ≡ n = same_Some s n (ap (λ (p : Run State). p.0) e) in
    let none : [] ≡ qs = ap (λ (p : Run State). p.1) e in
    subst (λ x. Stands x (rs ++ qs)) same (subst (λ q. Stands s (rs ++ q)) none (subst (λ q. Stands s q) (sym (append-nil rs)) h))
stands_run (t ∷ ts) s n rs qs h e = go (λ x k g. stands_run ts x n (rs ++ emitted s t) (run ts x).1 k g) (step s t) (stands_step s t rs h) e
  where
    go : ((x : State) → Stands x (rs ++ emitted s t) → run ts x ≡ (Some n, (run ts x).1) → Stands n ((rs ++ emitted s t) ++ (run ts x).1)) → (o : Option State) → StandsIn o (rs ++ emitted s t) → then_run (run ts) (emitted s t) o ≡ (Some n, qs) → Stands n (rs ++ qs)
    go ih None k e = absurd (none-some n (ap (λ (p : Run State). p.0) e))
    go ih (Some x) k e =
        let g : run ts x ≡ (Some n, (run ts x).1) = ap (λ (p : Run State). (p.0, (run ts x).1)) e in
        let is : (rs ++ emitted s t) ++ (run ts x).1 ≡ rs ++ qs = append_assoc rs (emitted s t) (run ts x).1 ∙ ap (λ (p : Run State). rs ++ p.1) e in
        subst (Stands n) is (ih x k g)

-- each state that is reached stands
pub reached : (front : List Token) (s : State) (rs : List Role) → run front start ≡ (Some s, rs) → Stands s rs
reached front s rs h = stands_run front start s [] rs (record { formula_goes = refl; holds = record { settled = refl; none = refl } }) h
