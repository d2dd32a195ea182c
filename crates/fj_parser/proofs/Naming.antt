-- Where some identifier could stand, one can; and elsewhere none.
use lib.Utf8.{encode}
use Rattle.std.proofs.Common.{◌≡◌, ℕ, Bool, true, false, not, ◌&&◌, ◌||◌, if◌then◌else◌, List, [], ◌∷◌, codes, Option, Some, None, refl, sym, ◌∙◌, ap, subst}
use Rattle.std.specs.Str.{chars, bytes_eq, is_utf8}
use Rattle.cfj_model.specs.declared.expr.Expr.{Expr}
use Rattle.cfj_logic.specs.declared.formula.Formula.{Formula}
use Rattle.cfj_words.specs.Names.{is_identifier, is_reserved}
use Rattle.cfj_model.specs.Coloring.{is_two}
use Rattle.cfj_model.specs.Grammar.{constraint_word, features_word, format_word}
use Rattle.cfj_model.specs.Roles.{Role}
use Rattle.cfj_words.specs.Tokens.{Token, Id, ClassWord, ExtendsWord, SuperWord, ThisWord, ReturnWord, OpenBrace, CloseBrace, OpenParen, CloseParen, Semicolon, Comma, Dot, Equals, At, Bang, End}
use Rattle.cfj_words.proofs.Identifiers.{features_is_identifier, constraint_is_identifier}
use Rattle.fj_symbols.specs.Views.{is_read, are_read}
use Rattle.formula_reader.specs.Machine as formula
use Rattle.formula_reader.proofs.Law as formula_law
use Rattle.expression_reader.specs.Machine as expression
use Rattle.expression_reader.proofs.Law as expression_law
use Rattle.fj_parser.specs.Laws.{GoesByName}
use Rattle.fj_machine.specs.declared.mode.Owner.TheVariants as owner
use Rattle.fj_machine.specs.declared.mode.Node.TheVariants as node
use Rattle.fj_machine.specs.declared.mode.Mode.{Mode}
use Rattle.fj_machine.specs.declared.mode.Mode.TheVariants.{Begin, AfterFormat, AfterFeatures, AfterFeature, AfterFeatureComma, Start, InConstraint, BetweenClasses, AfterAt, AfterMark, AfterMarkedType, AfterClass, AfterClassName, AfterExtends, AfterParent, InMembers, AfterType, AfterFieldName, InParams, AfterParamComma, AfterParamType, AfterParam, AfterParams, InBody, AfterSuper, InSends, AfterSendComma, AfterSend, AfterSends, InAssigns, AfterThis, AfterThisDot, AfterAssigned, AfterEquals, AfterSecondName, InMethods, AfterResult, AfterMethodName, InMethodBody, InExpression, AfterBody}
use Rattle.fj_machine.specs.Machine.{unnamed, State, start, after_formula, in_formula, after_expression, in_expression, opens_constraint, opens_format, to, step_in, step, emitted, takes_name_in, reader, run}
use Rattle.fj_machine.specs.Readers.{Run, then_run, run_of}
use Rattle.fj_parser.proofs.Complete.{same_name}

-- whatever the first tests say
last_holds : (a : Bool) → ((a || false || true) && true && true) ≡ true
last_holds true = refl
last_holds false = refl

-- some identifier
pub some_name : List ℕ
some_name = codes "$"

-- it is one, whatever Unicode says of other characters
pub some_name_is : is_identifier some_name ≡ true
unfolding is_identifier is_reserved is_utf8 some_name chars encode
some_name_is = search last_holds

-- Where the name of an assigned field has been read, it is an identifier.
abbrev pub Kept : Mode → State → Type 0
Kept AfterAssigned s = is_identifier s.last ≡ true
Kept AfterEquals s = is_identifier s.last ≡ true
Kept _ s = Unit {0}

-- and so behind a step, if there is one
abbrev KeptIn : Option State → Type 0
KeptIn None = Unit {0}
KeptIn (Some n) = Kept n.mode n

-- behind a test
kept_if : (b : Bool) (n : State) → Kept n.mode n → KeptIn (if b then Some n else None)
kept_if true n k = k
kept_if false n k = tt

kept_either : (b : Bool) (n : State) (o : Option State) → Kept n.mode n → KeptIn o → KeptIn (if b then Some n else o)
kept_either true n o k j = k
kept_either false n o k j = j

-- behind a token of a formula nothing is assigned, nor behind one of an expression
kept_formula : (s : State) → s.mode ≡ InConstraint → (o : Option formula.State) → KeptIn (in_formula s o)
kept_formula s e None = tt
kept_formula s e (Some f) = by (formula.formula_of f)
  where
    by : (q : Option Formula) → KeptIn (Some (after_formula s f q))
    by None = subst (λ m. Kept m (record s { mode = m; formula = f })) (sym e) tt
    by (Some x) = tt

kept_expression : (s : State) → s.mode ≡ InExpression → (o : Option expression.State) → KeptIn (in_expression s o)
kept_expression s e None = tt
kept_expression s e (Some n) = by (expression.expression n)
  where
    by : (q : Option Expr) → KeptIn (Some (after_expression s n q))
    by None = subst (λ m. Kept m (record s { mode = m; expression = n })) (sym e) tt
    by (Some x) = tt

-- a step keeps it
kept_step : (m : Mode) (s : State) (t : Token) → Kept m s → is_read t ≡ true → KeptIn (step_in m (record s { mode = m }) t)
kept_step Begin s (Id w) k r = kept_either (opens_format s w) (record s { mode = AfterFormat }) (if bytes_eq w features_word then to AfterFeatures s else opens_constraint s w) tt (kept_either (bytes_eq w features_word) (record s { mode = AfterFeatures }) (opens_constraint s w) tt (kept_if (bytes_eq w constraint_word) (record s { mode = InConstraint }) tt))
kept_step Begin s At k r = tt
kept_step Begin s ClassWord k r = tt
kept_step Begin s End k r = tt
kept_step AfterFormat s Semicolon k r = tt
kept_step AfterFeatures s (Id w) k r = tt
kept_step AfterFeature s Comma k r = tt
kept_step AfterFeature s Semicolon k r = tt
kept_step AfterFeatureComma s (Id w) k r = tt
kept_step Start s (Id w) k r = kept_if (bytes_eq w constraint_word) (record s { mode = InConstraint }) tt
kept_step InConstraint s t k r = kept_formula (record s { mode = InConstraint }) refl (formula.step s.features s.formula t)
kept_step BetweenClasses s At k r = tt
kept_step BetweenClasses s ClassWord k r = tt
kept_step BetweenClasses s End k r = tt
kept_step Start s At k r = tt
kept_step Start s ClassWord k r = tt
kept_step Start s End k r = tt
kept_step (AfterAt n off) s (Id w) k r = tt
kept_step (AfterAt n false) s Bang k r = tt
kept_step (AfterAt n true) s Bang k r = tt
kept_step (AfterMark node.Class) s At k r = tt
kept_step (AfterMark node.Class) s ClassWord k r = tt
kept_step (AfterMark node.Member) s At k r = tt
kept_step (AfterMark node.Member) s (Id w) k r = tt
kept_step (AfterMark node.Method) s At k r = tt
kept_step (AfterMark node.Method) s (Id w) k r = tt
kept_step (AfterMark (node.Param o)) s At k r = tt
kept_step (AfterMark (node.Param o)) s (Id w) k r = tt
kept_step (AfterMark node.Send) s At k r = tt
kept_step (AfterMark node.Send) s (Id w) k r = tt
kept_step (AfterMark node.Assign) s At k r = tt
kept_step (AfterMark node.Assign) s ThisWord k r = tt
kept_step AfterClass s (Id w) k r = tt
kept_step AfterClassName s ExtendsWord k r = tt
kept_step AfterExtends s (Id w) k r = tt
kept_step AfterParent s OpenBrace k r = tt
kept_step InMembers s At k r = tt
kept_step InMembers s (Id w) k r = tt
kept_step AfterType s (Id w) k r = tt
kept_step AfterType s OpenParen k r = kept_if (bytes_eq s.of s.name) (record s { mode = InParams owner.Constructor; of = unnamed }) tt
kept_step AfterMarkedType s (Id w) k r = tt
kept_step AfterFieldName s Semicolon k r = tt
kept_step (InParams o) s At k r = tt
kept_step (InParams o) s (Id w) k r = tt
kept_step (InParams o) s CloseParen k r = tt
kept_step (AfterParamComma o) s At k r = tt
kept_step (AfterParamComma o) s (Id w) k r = tt
kept_step (AfterParamType o) s (Id w) k r = tt
kept_step (AfterParam o) s Comma k r = tt
kept_step (AfterParam o) s CloseParen k r = tt
kept_step (AfterParams owner.Constructor) s OpenBrace k r = tt
kept_step (AfterParams owner.Method) s OpenBrace k r = tt
kept_step InBody s SuperWord k r = tt
kept_step AfterSuper s OpenParen k r = tt
kept_step InSends s At k r = tt
kept_step InSends s (Id w) k r = tt
kept_step InSends s CloseParen k r = tt
kept_step AfterSendComma s At k r = tt
kept_step AfterSendComma s (Id w) k r = tt
kept_step AfterSend s Comma k r = tt
kept_step AfterSend s CloseParen k r = tt
kept_step AfterSends s Semicolon k r = tt
kept_step InAssigns s At k r = tt
kept_step InAssigns s ThisWord k r = tt
kept_step InAssigns s CloseBrace k r = tt
kept_step AfterThis s Dot k r = tt
kept_step AfterThisDot s (Id w) k r = r
kept_step AfterAssigned s Equals k r = k
kept_step AfterEquals s (Id w) k r = kept_if (bytes_eq w s.last) (record s { mode = AfterSecondName; last = unnamed }) tt
kept_step AfterSecondName s Semicolon k r = tt
kept_step InMethods s At k r = tt
kept_step InMethods s (Id w) k r = tt
kept_step InMethods s CloseBrace k r = tt
kept_step AfterResult s (Id w) k r = tt
kept_step AfterMethodName s OpenParen k r = tt
kept_step InMethodBody s ReturnWord k r = tt
kept_step InExpression s t k r = kept_expression (record s { mode = InExpression }) refl (expression.step s.features s.expression t)
kept_step AfterBody s CloseBrace k r = tt
kept_step _ s t k r = tt

-- two tests that hold
both : (a b : Bool) → (a && b) ≡ true → (a ≡ true) × (b ≡ true)
both true b e = (refl, e)
both false b e = absurd (let no : ⊥ = cc e in no)

-- a run over tokens that a text can have keeps it
pub kept_run : (ts : List Token) (s n : State) → Kept s.mode s → are_read ts ≡ true → (run ts s).0 ≡ Some n → Kept n.mode n
unfolding run_of
kept_run [] s n k r h = let same : s ≡ n = cc h in subst (λ (x : State). Kept x.mode x) same k
kept_run (t ∷ ts) s n k r h =
    let are = both (is_read t) (are_read ts) r in
    go (λ x kept e. kept_run ts x n kept are.1 e) (emitted s t) (step s t) (kept_step s.mode s t k are.0) h
  where
    go : ((x : State) → Kept x.mode x → (run ts x).0 ≡ Some n → Kept n.mode n) → (q : List Role) (o : Option State) → KeptIn o → (then_run (run ts) q o).0 ≡ Some n → Kept n.mode n
    go ih q None kept h = absurd (let no : ⊥ = cc h in no)
    go ih q (Some x) kept h = ih x kept h

-- an identifier with which the machine goes on in a mode
pub record GoesIn (m : Mode) (s : State) : Type 0 where
  pub name : List ℕ
  pub next : State
  pub is : is_identifier name ≡ true
  pub goes : step_in m s (Id name) ≡ Some next

-- by the identifier above
by_some : (m : Mode) (s n : State) → step_in m s (Id some_name) ≡ Some n → GoesIn m s
by_some m s n e = record { name = some_name; next = n; is = some_name_is; goes = e }

-- the word of the feature line isn't that of the line for format Two
not_format_word : (s : State) → step_in Begin s (Id features_word) ≡ (if bytes_eq features_word features_word then to AfterFeatures s else opens_constraint s features_word)
not_format_word s =
    let differs : bytes_eq features_word format_word ≡ false = refl in
    ap (λ b. if b && not (is_two s.format) then to AfterFormat s else if bytes_eq features_word features_word then to AfterFeatures s else opens_constraint s features_word) differs

-- where some identifier could stand, one can
pub name_goes : (m : Mode) (s : State) → Kept m s → takes_name_in m s ≡ true → GoesIn m s
name_goes Begin s k e =
    let n : State = record s { mode = AfterFeatures } in
    record { name = features_word; next = n; is = features_is_identifier; goes = not_format_word s ∙ ap (λ b. if b then Some n else opens_constraint s features_word) (same_name features_word) }
name_goes Start s k e =
    let n : State = record s { mode = InConstraint } in
    record { name = constraint_word; next = n; is = constraint_is_identifier; goes = ap (λ b. if b then Some n else None) (same_name constraint_word) }
name_goes InConstraint s k e = record { name = some_name; next = _; is = some_name_is; goes = ap (in_formula s) (formula_law.name_goes s.features s.formula some_name e) }
name_goes AfterFeatures s k e = by_some AfterFeatures s _ refl
name_goes AfterFeatureComma s k e = by_some AfterFeatureComma s _ refl
name_goes (AfterAt n off) s k e = by_some (AfterAt n off) s _ refl
name_goes (AfterMark node.Member) s k e = by_some (AfterMark node.Member) s _ refl
name_goes InExpression s k e =
    let g = expression_law.name_goes s.features s.expression some_name e in
    record { name = some_name; next = after_expression s g.0 (expression.expression g.0); is = some_name_is; goes = ap (in_expression s) g.1 }
name_goes (AfterMark node.Method) s k e = by_some (AfterMark node.Method) s _ refl
name_goes (AfterMark (node.Param o)) s k e = by_some (AfterMark (node.Param o)) s _ refl
name_goes (AfterMark node.Send) s k e = by_some (AfterMark node.Send) s _ refl
name_goes AfterMarkedType s k e = by_some AfterMarkedType s _ refl
name_goes AfterClass s k e = by_some AfterClass s _ refl
name_goes AfterExtends s k e = by_some AfterExtends s _ refl
name_goes InMembers s k e = by_some InMembers s _ refl
name_goes AfterType s k e = by_some AfterType s _ refl
name_goes (InParams o) s k e = by_some (InParams o) s _ refl
name_goes (AfterParamComma o) s k e = by_some (AfterParamComma o) s _ refl
name_goes (AfterParamType o) s k e = by_some (AfterParamType o) s _ refl
name_goes InSends s k e = by_some InSends s _ refl
name_goes AfterSendComma s k e = by_some AfterSendComma s _ refl
name_goes AfterThisDot s k e = by_some AfterThisDot s _ refl
name_goes InMethods s k e = by_some InMethods s _ refl
name_goes AfterResult s k e = by_some AfterResult s _ refl
name_goes AfterEquals s k e =
    let n : State = record s { mode = AfterSecondName; last = unnamed } in
    record { name = s.last; next = n; is = k; goes = ap (λ b. if b then Some n else None) (same_name s.last) }
name_goes _ s k e = absurd (let no : ⊥ = cc e in no)

-- elsewhere none can
pub name_stops : (m : Mode) (s : State) (w : List ℕ) → takes_name_in m s ≡ false → step_in m s (Id w) ≡ None
name_stops InConstraint s w e = ap (in_formula s) (formula_law.name_stops s.features s.formula w e)
name_stops InExpression s w e = ap (in_expression s) (expression_law.name_stops s.features s.expression w e)
name_stops Start s w e = absurd (let no : ⊥ = cc e in no)
name_stops Begin s w e = absurd (let no : ⊥ = cc e in no)
name_stops AfterFeatures s w e = absurd (let no : ⊥ = cc e in no)
name_stops AfterFeatureComma s w e = absurd (let no : ⊥ = cc e in no)
name_stops (AfterAt n off) s w e = absurd (let no : ⊥ = cc e in no)
name_stops (AfterMark node.Member) s w e = absurd (let no : ⊥ = cc e in no)
name_stops (AfterMark node.Method) s w e = absurd (let no : ⊥ = cc e in no)
name_stops (AfterMark (node.Param o)) s w e = absurd (let no : ⊥ = cc e in no)
name_stops (AfterMark node.Send) s w e = absurd (let no : ⊥ = cc e in no)
name_stops AfterMarkedType s w e = absurd (let no : ⊥ = cc e in no)
name_stops AfterClass s w e = absurd (let no : ⊥ = cc e in no)
name_stops AfterExtends s w e = absurd (let no : ⊥ = cc e in no)
name_stops InMembers s w e = absurd (let no : ⊥ = cc e in no)
name_stops AfterType s w e = absurd (let no : ⊥ = cc e in no)
name_stops (InParams o) s w e = absurd (let no : ⊥ = cc e in no)
name_stops (AfterParamComma o) s w e = absurd (let no : ⊥ = cc e in no)
name_stops (AfterParamType o) s w e = absurd (let no : ⊥ = cc e in no)
name_stops InSends s w e = absurd (let no : ⊥ = cc e in no)
name_stops AfterSendComma s w e = absurd (let no : ⊥ = cc e in no)
name_stops AfterThisDot s w e = absurd (let no : ⊥ = cc e in no)
name_stops InMethods s w e = absurd (let no : ⊥ = cc e in no)
name_stops AfterResult s w e = absurd (let no : ⊥ = cc e in no)
name_stops AfterEquals s w e = absurd (let no : ⊥ = cc e in no)
name_stops (AfterParams owner.Constructor) s w e = refl
name_stops (AfterParams owner.Method) s w e = refl
name_stops _ s w e = refl

pub goes_by_name : (front : List Token) (s : State) (rs : List Role) → run front start ≡ (Some s, rs) → are_read front ≡ true → takes_name_in s.mode s ≡ true → GoesByName reader s
goes_by_name front s rs h read name =
    let n = name_goes s.mode s (kept_run front start s tt read (ap (λ (p : Run State). p.0) h)) name in
    record { name = n.name; next = n.next; is = n.is; goes = n.goes }
