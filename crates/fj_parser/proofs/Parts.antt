-- The machine for projects and those for parts of them: which goes on where the other does, and how far a state is.
use Rattle.std.proofs.Common.{◌≡◌, ℕ, suc, ◌+◌, ◌*◌, ◌≤◌, Bool, true, false, if◌then◌else◌, List, [], ◌∷◌, ◌++◌, length, Option, Some, None, refl, sym, ◌∙◌, ap, subst, arith, length-append, nat_le}
use Rattle.std.proofs.lemmas.Bool.{leb-true}
use Rattle.std.proofs.lemmas.Option.{none-some, same_Some}
use Rattle.std.specs.Str.{bytes_eq}
use Rattle.cfj_model.specs.declared.class.Class.{Class}
use Rattle.cfj_model.specs.declared.class.Method.{Method}
use Rattle.cfj_model.specs.declared.expr.Expr.{Expr}
use Rattle.cfj_model.specs.declared.feature_model.Format.{Format}
use Rattle.cfj_logic.specs.declared.formula.Formula.{Formula}
use Rattle.cfj_model.specs.Grammar.{constraint_word, features_word}
use Rattle.cfj_words.specs.Tokens.{Token, Id, ClassWord, ExtendsWord, SuperWord, ThisWord, ReturnWord, OpenBrace, CloseBrace, OpenParen, CloseParen, Semicolon, Comma, Dot, Equals, At, Bang, End}
use Rattle.cfj_model.specs.Roles.{Role}
use Rattle.formula_reader.specs.Machine as formula
use Rattle.expression_reader.specs.Machine as expression
use Rattle.fj_parser.specs.declared.goal.Goal.{Goal}
use Rattle.fj_machine.specs.declared.mode.Owner.{Owner}
use Rattle.fj_machine.specs.declared.mode.Owner.TheVariants as owner
use Rattle.fj_machine.specs.declared.mode.Node.{Node}
use Rattle.fj_machine.specs.declared.mode.Node.TheVariants as node
use Rattle.fj_machine.specs.declared.mode.Mode.{Mode}
use Rattle.fj_machine.specs.declared.mode.Mode.TheVariants.{Begin, AfterFormat, AfterFeatures, AfterFeature, AfterFeatureComma, Start, InConstraint, BetweenClasses, AfterAt, AfterMark, AfterMarkedType, AfterClass, AfterClassName, AfterExtends, AfterParent, InMembers, AfterType, AfterFieldName, InParams, AfterParamComma, AfterParamType, AfterParam, AfterParams, InBody, AfterSuper, InSends, AfterSendComma, AfterSend, AfterSends, InAssigns, AfterThis, AfterThisDot, AfterAssigned, AfterEquals, AfterSecondName, InMethods, AfterResult, AfterMethodName, InMethodBody, InExpression, AfterBody, AtEnd}
use Rattle.fj_parser.specs.Goals.{none_yet, step_for, reader_for}
use Rattle.fj_machine.specs.Machine.{unnamed, State, class_of, after_formula, in_formula, after_expression, in_expression, opens_constraint, opens_format, to, step_in, step, emitted}
use Rattle.fj_machine.specs.Readers.{Run, then_run, run_of}

-- lists that are the same with one more item
pub same_but_last : (a b : List Token) (t u : Token) → a ++ t ∷ [] ≡ b ++ u ∷ [] → a ≡ b
same_but_last [] [] t u e = refl
same_but_last [] (y ∷ b) t u e =
    let long : 1 ≡ suc (length b + 1) = ap length e ∙ ap suc (length-append b (u ∷ [])) in
    absurd (omega (arith, long))
same_but_last (x ∷ a) [] t u e =
    let long : suc (length a + 1) ≡ 1 = ap suc (sym (length-append a (t ∷ []))) ∙ ap length e in
    absurd (omega (arith, long))
same_but_last (x ∷ a) (y ∷ b) t u e =
    let first : x ≡ y = cc e in
    let rest : a ++ t ∷ [] ≡ b ++ u ∷ [] = cc e in
    let same : a ≡ b = same_but_last a b t u rest in
    cc

-- ---- the same run by two machines

-- Where the second machine takes each token that the first takes. The states that the first reaches from such as are `Here` are
-- too, and those from which it reaches `Good` ones are good.
pub record Follows (g h : Goal) (Here Good : State → Type 0) : Type 0 where
  pub onwards : (s n : State) (t : Token) → Here s → step_for g s.mode s t ≡ Some n → Here n
  pub back : (s n : State) (t : Token) → step_for g s.mode s t ≡ Some n → Good n → Good s
  pub same : (s n : State) (t : Token) → Here s → Good n → step_for g s.mode s t ≡ Some n → step_for h s.mode s t ≡ Some n

module _ (g h : Goal) (Here Good : State → Type 0) (f : Follows g h Here Good) (format format2 : Format) (fs fs2 : List (List ℕ)) (class class2 : List ℕ) where
  -- each state that is reached is as its start
  pub here_run : (ts : List Token) (s n : State) (rs : List Role) → Here s → run_of (reader_for g format fs class) ts s ≡ (Some n, rs) → Here n
  unfolding run_of
  here_run [] s n rs k e = subst Here (same_Some s n (ap (λ (p : Run State). p.0) e)) k
  here_run (t ∷ ts) s n rs k e = go (λ x j r. here_run ts x n (run_of (reader_for g format fs class) ts x).1 j r) (step_for g s.mode s t) refl e
    where
      go : ((x : State) → Here x → run_of (reader_for g format fs class) ts x ≡ (Some n, (run_of (reader_for g format fs class) ts x).1) → Here n) → (o : Option State) → step_for g s.mode s t ≡ o → then_run (run_of (reader_for g format fs class) ts) (emitted s t) o ≡ (Some n, rs) → Here n
      go ih None goes e = absurd (none-some n (ap (λ (p : Run State). p.0) e))
      go ih (Some x) goes e = ih x (f.onwards s x t k goes) (ap (λ (p : Run State). (p.0, (run_of (reader_for g format fs class) ts x).1)) e)

  -- a run that leads to a good state began at one
  pub good_run : (ts : List Token) (s n : State) (rs : List Role) → Good n → run_of (reader_for g format fs class) ts s ≡ (Some n, rs) → Good s
  unfolding run_of
  good_run [] s n rs k e = subst Good (sym (same_Some s n (ap (λ (p : Run State). p.0) e))) k
  good_run (t ∷ ts) s n rs k e = go (λ x r. good_run ts x n (run_of (reader_for g format fs class) ts x).1 k r) (step_for g s.mode s t) refl e
    where
      go : ((x : State) → run_of (reader_for g format fs class) ts x ≡ (Some n, (run_of (reader_for g format fs class) ts x).1) → Good x) → (o : Option State) → step_for g s.mode s t ≡ o → then_run (run_of (reader_for g format fs class) ts) (emitted s t) o ≡ (Some n, rs) → Good s
      go ih None goes e = absurd (none-some n (ap (λ (p : Run State). p.0) e))
      go ih (Some x) goes e = f.back s x t goes (ih x (ap (λ (p : Run State). (p.0, (run_of (reader_for g format fs class) ts x).1)) e))

  -- and is the second machine's
  pub same_run : (ts : List Token) (s n : State) (rs : List Role) → Here s → Good n → run_of (reader_for g format fs class) ts s ≡ (Some n, rs) → run_of (reader_for h format2 fs2 class2) ts s ≡ (Some n, rs)
  unfolding run_of
  same_run [] s n rs here k e = e
  same_run (t ∷ ts) s n rs here k e = go (λ x j r. same_run ts x n (run_of (reader_for g format fs class) ts x).1 j k r) (step_for g s.mode s t) refl e
    where
      go : ((x : State) → Here x → run_of (reader_for g format fs class) ts x ≡ (Some n, (run_of (reader_for g format fs class) ts x).1) → run_of (reader_for h format2 fs2 class2) ts x ≡ (Some n, (run_of (reader_for g format fs class) ts x).1))
          → (o : Option State) → step_for g s.mode s t ≡ o → then_run (run_of (reader_for g format fs class) ts) (emitted s t) o ≡ (Some n, rs) → then_run (run_of (reader_for h format2 fs2 class2) ts) (emitted s t) (step_for h s.mode s t) ≡ (Some n, rs)
      go ih None goes e = absurd (none-some n (ap (λ (p : Run State). p.0) e))
      go ih (Some x) goes e =
          let r : run_of (reader_for g format fs class) ts x ≡ (Some n, (run_of (reader_for g format fs class) ts x).1) = ap (λ (p : Run State). (p.0, (run_of (reader_for g format fs class) ts x).1)) e in
          let all : emitted s t ++ (run_of (reader_for g format fs class) ts x).1 ≡ rs = ap (λ (p : Run State). p.1) e in
          ap (then_run (run_of (reader_for h format2 fs2 class2) ts) (emitted s t)) (f.same s x t here (good_run ts x n (run_of (reader_for g format fs class) ts x).1 k r) goes)
          ∙ ap (λ (p : Run State). (p.0, emitted s t ++ p.1)) (ih x (f.onwards s x t here goes) r)
          ∙ ap (λ (q : List Role). (Some n, q)) all

-- ---- how far a state is

-- The regions of a project's text, in their order: what stands before the classes, the place between two of them, a class's head, its
-- fields, its constructor, the place behind it where no method was read, its methods, and the end.
abbrev pub region_of_owner : Owner → ℕ
region_of_owner owner.Constructor = 4
region_of_owner owner.Method = 6

abbrev pub region_of_node : Node → ℕ
region_of_node node.Class = 2
region_of_node node.Member = 3
region_of_node node.Method = 6
region_of_node (node.Param o) = region_of_owner o
region_of_node node.Send = 4
region_of_node node.Assign = 4

abbrev pub behind_methods : Bool → ℕ
behind_methods true = 5
behind_methods false = 6

-- the region of a mode, where there are no methods yet or some
abbrev pub region : Mode → Bool → ℕ
region Begin b = 0
region AfterFormat b = 0
region AfterFeatures b = 0
region AfterFeature b = 0
region AfterFeatureComma b = 0
region Start b = 0
region InConstraint b = 0
region BetweenClasses b = 1
region (AfterAt n off) b = region_of_node n
region (AfterMark n) b = region_of_node n
region AfterMarkedType b = 3
region AfterClass b = 2
region AfterClassName b = 2
region AfterExtends b = 2
region AfterParent b = 2
region InMembers b = 3
region AfterType b = 3
region AfterFieldName b = 3
region (InParams o) b = region_of_owner o
region (AfterParamComma o) b = region_of_owner o
region (AfterParamType o) b = region_of_owner o
region (AfterParam o) b = region_of_owner o
region (AfterParams o) b = region_of_owner o
region InMethods b = behind_methods b
region AfterBody b = behind_methods b
region AfterResult b = 6
region AfterMethodName b = 6
region InMethodBody b = 6
region InExpression b = 6
region AtEnd b = 30
region _ b = 4

-- how far a state is: by its classes, and by its region
abbrev pub phase : State → ℕ
phase s = 10 * length s.classes + region s.mode (none_yet s.methods)

-- A step keeps the classes, and goes to the same region or a later one; or it ends a class.
pub data Moves (r : ℕ) (cs : List Class) (n : State) : Type 0 where
  kept : n.classes ≡ cs → nat_le r (region n.mode (none_yet n.methods)) ≡ true → Moves r cs n
  grown : (k : Class) → n.classes ≡ cs ++ k ∷ [] → n.mode ≡ BetweenClasses → nat_le r 6 ≡ true → Moves r cs n

-- and so behind a step, if there is one
abbrev Later : ℕ → List Class → Option State → Type 0
Later r cs None = Unit {0}
Later r cs (Some n) = Moves r cs n

later_if : (b : Bool) (r : ℕ) (cs : List Class) (n : State) → Moves r cs n → Later r cs (if b then Some n else None)
later_if true r cs n h = h
later_if false r cs n h = tt

later_either : (b : Bool) (r : ℕ) (cs : List Class) (n : State) (o : Option State) → Moves r cs n → Later r cs o → Later r cs (if b then Some n else o)
later_either true r cs n o h k = h
later_either false r cs n o h k = k

-- behind the methods
same_behind : (b : Bool) → nat_le (behind_methods b) (behind_methods b) ≡ true
same_behind true = refl
same_behind false = refl

up_to_methods : (b : Bool) → nat_le (behind_methods b) 6 ≡ true
up_to_methods true = refl
up_to_methods false = refl

some_methods : (ms : List Method) (m : Method) → nat_le 6 (behind_methods (none_yet (ms ++ m ∷ []))) ≡ true
some_methods [] m = refl
some_methods (x ∷ ms) m = refl

later_formula : (s : State) → s.mode ≡ InConstraint → (o : Option formula.State) → Later 0 s.classes (in_formula s o)
later_formula s e None = tt
later_formula s e (Some f) = by (formula.formula_of f)
  where
    by : (q : Option Formula) → Later 0 s.classes (Some (after_formula s f q))
    by None = kept refl (ap (λ m. nat_le 0 (region m (none_yet s.methods))) e)
    by (Some x) = kept refl refl

later_expression : (s : State) → s.mode ≡ InExpression → (o : Option expression.State) → Later 6 s.classes (in_expression s o)
later_expression s e None = tt
later_expression s e (Some n) = by (expression.expression n)
  where
    by : (q : Option Expr) → Later 6 s.classes (Some (after_expression s n q))
    by None = kept refl (ap (λ m. nat_le 6 (region m (none_yet s.methods))) e)
    by (Some x) = kept refl (some_methods s.methods _)

later : (m : Mode) (s : State) (t : Token) → Later (region m (none_yet s.methods)) s.classes (step_in m (record s { mode = m }) t)
later Begin s (Id w) = later_either (opens_format s w) 0 s.classes (record s { mode = AfterFormat }) (if bytes_eq w features_word then to AfterFeatures s else opens_constraint s w) (kept refl refl) (later_either (bytes_eq w features_word) 0 s.classes (record s { mode = AfterFeatures }) (opens_constraint s w) (kept refl refl) (later_if (bytes_eq w constraint_word) 0 s.classes (record s { mode = InConstraint }) (kept refl refl)))
later Begin s At = kept refl refl
later Begin s ClassWord = kept refl refl
later Begin s End = kept refl refl
later AfterFormat s Semicolon = kept refl refl
later AfterFeatures s (Id w) = kept refl refl
later AfterFeature s Comma = kept refl refl
later AfterFeature s Semicolon = kept refl refl
later AfterFeatureComma s (Id w) = kept refl refl
later Start s (Id w) = later_if (bytes_eq w constraint_word) 0 s.classes (record s { mode = InConstraint }) (kept refl refl)
later Start s At = kept refl refl
later Start s ClassWord = kept refl refl
later Start s End = kept refl refl
later InConstraint s t = later_formula (record s { mode = InConstraint }) refl (formula.step s.features s.formula t)
later BetweenClasses s At = kept refl refl
later BetweenClasses s ClassWord = kept refl refl
later BetweenClasses s End = kept refl refl
later (AfterAt node.Class off) s (Id w) = kept refl refl
later (AfterAt node.Class false) s Bang = kept refl refl
later (AfterAt node.Class true) s Bang = tt
later (AfterAt node.Member off) s (Id w) = kept refl refl
later (AfterAt node.Member false) s Bang = kept refl refl
later (AfterAt node.Member true) s Bang = tt
later (AfterAt node.Method off) s (Id w) = kept refl refl
later (AfterAt node.Method false) s Bang = kept refl refl
later (AfterAt node.Method true) s Bang = tt
later (AfterAt (node.Param owner.Constructor) off) s (Id w) = kept refl refl
later (AfterAt (node.Param owner.Constructor) false) s Bang = kept refl refl
later (AfterAt (node.Param owner.Constructor) true) s Bang = tt
later (AfterAt (node.Param owner.Method) off) s (Id w) = kept refl refl
later (AfterAt (node.Param owner.Method) false) s Bang = kept refl refl
later (AfterAt (node.Param owner.Method) true) s Bang = tt
later (AfterAt node.Send off) s (Id w) = kept refl refl
later (AfterAt node.Send false) s Bang = kept refl refl
later (AfterAt node.Send true) s Bang = tt
later (AfterAt node.Assign off) s (Id w) = kept refl refl
later (AfterAt node.Assign false) s Bang = kept refl refl
later (AfterAt node.Assign true) s Bang = tt
later (AfterMark node.Class) s At = kept refl refl
later (AfterMark node.Class) s ClassWord = kept refl refl
later (AfterMark node.Member) s At = kept refl refl
later (AfterMark node.Member) s (Id w) = kept refl refl
later (AfterMark node.Method) s At = kept refl refl
later (AfterMark node.Method) s (Id w) = kept refl refl
later (AfterMark (node.Param owner.Constructor)) s At = kept refl refl
later (AfterMark (node.Param owner.Constructor)) s (Id w) = kept refl refl
later (AfterMark (node.Param owner.Method)) s At = kept refl refl
later (AfterMark (node.Param owner.Method)) s (Id w) = kept refl refl
later (AfterMark node.Send) s At = kept refl refl
later (AfterMark node.Send) s (Id w) = kept refl refl
later (AfterMark node.Assign) s At = kept refl refl
later (AfterMark node.Assign) s ThisWord = kept refl refl
later AfterClass s (Id w) = kept refl refl
later AfterClassName s ExtendsWord = kept refl refl
later AfterExtends s (Id w) = kept refl refl
later AfterParent s OpenBrace = kept refl refl
later InMembers s At = kept refl refl
later InMembers s (Id w) = kept refl refl
later AfterType s (Id w) = kept refl refl
later AfterType s OpenParen = later_if (bytes_eq s.of s.name) 3 s.classes (record s { mode = InParams owner.Constructor; of = unnamed }) (kept refl refl)
later AfterMarkedType s (Id w) = kept refl refl
later AfterFieldName s Semicolon = kept refl refl
later (InParams owner.Constructor) s At = kept refl refl
later (InParams owner.Constructor) s (Id w) = kept refl refl
later (InParams owner.Constructor) s CloseParen = kept refl refl
later (InParams owner.Method) s At = kept refl refl
later (InParams owner.Method) s (Id w) = kept refl refl
later (InParams owner.Method) s CloseParen = kept refl refl
later (AfterParamComma owner.Constructor) s At = kept refl refl
later (AfterParamComma owner.Constructor) s (Id w) = kept refl refl
later (AfterParamComma owner.Method) s At = kept refl refl
later (AfterParamComma owner.Method) s (Id w) = kept refl refl
later (AfterParamType owner.Constructor) s (Id w) = kept refl refl
later (AfterParamType owner.Method) s (Id w) = kept refl refl
later (AfterParam owner.Constructor) s Comma = kept refl refl
later (AfterParam owner.Constructor) s CloseParen = kept refl refl
later (AfterParam owner.Method) s Comma = kept refl refl
later (AfterParam owner.Method) s CloseParen = kept refl refl
later (AfterParams owner.Constructor) s OpenBrace = kept refl refl
later (AfterParams owner.Method) s OpenBrace = kept refl refl
later InBody s SuperWord = kept refl refl
later AfterSuper s OpenParen = kept refl refl
later InSends s At = kept refl refl
later InSends s (Id w) = kept refl refl
later InSends s CloseParen = kept refl refl
later AfterSendComma s At = kept refl refl
later AfterSendComma s (Id w) = kept refl refl
later AfterSend s Comma = kept refl refl
later AfterSend s CloseParen = kept refl refl
later AfterSends s Semicolon = kept refl refl
later InAssigns s At = kept refl refl
later InAssigns s ThisWord = kept refl refl
later InAssigns s CloseBrace = kept refl (from_constructor (none_yet s.methods))
  where
    from_constructor : (b : Bool) → nat_le 4 (behind_methods b) ≡ true
    from_constructor true = refl
    from_constructor false = refl
later AfterThis s Dot = kept refl refl
later AfterThisDot s (Id w) = kept refl refl
later AfterAssigned s Equals = kept refl refl
later AfterEquals s (Id w) = later_if (bytes_eq w s.last) 4 s.classes (record s { mode = AfterSecondName; last = unnamed }) (kept refl refl)
later AfterSecondName s Semicolon = kept refl refl
later InMethods s At = kept refl (up_to_methods (none_yet s.methods))
later InMethods s (Id w) = kept refl (up_to_methods (none_yet s.methods))
later InMethods s CloseBrace = grown (class_of s) refl refl (up_to_methods (none_yet s.methods))
later AfterResult s (Id w) = kept refl refl
later AfterMethodName s OpenParen = kept refl refl
later InMethodBody s ReturnWord = kept refl refl
later InExpression s t = later_expression (record s { mode = InExpression }) refl (expression.step s.features s.expression t)
later AfterBody s CloseBrace = kept refl (same_behind (none_yet s.methods))
later _ s t = tt

pub moves : (s n : State) (t : Token) → step s t ≡ Some n → Moves (region s.mode (none_yet s.methods)) s.classes n
moves s n t e = subst (Later (region s.mode (none_yet s.methods)) s.classes) e (later s.mode s t)

-- a step of the machine for projects never goes back
pub phase_grows : (s n : State) (t : Token) → step s t ≡ Some n → phase s ≤ phase n
phase_grows s n t e = by (moves s n t e)
  where
    by : Moves (region s.mode (none_yet s.methods)) s.classes n → phase s ≤ phase n
    by (kept same on) =
        let long : length n.classes ≡ length s.classes = ap length same in
        let far : region s.mode (none_yet s.methods) ≤ region n.mode (none_yet n.methods) = leb-true (region s.mode (none_yet s.methods)) (region n.mode (none_yet n.methods)) on in
        omega (arith, long, far)
    by (grown k more here few) =
        let long : length n.classes ≡ length s.classes + 1 = ap length more ∙ length-append s.classes (k ∷ []) in
        let far : region s.mode (none_yet s.methods) ≤ 6 = leb-true (region s.mode (none_yet s.methods)) 6 few in
        let at : region n.mode (none_yet n.methods) ≡ 1 = ap (λ m. region m (none_yet n.methods)) here in
        omega (arith, long, far, at)
