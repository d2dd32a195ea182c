-- Each state can be completed: tokens that lead from it to the end of a text.
use Rattle.std.proofs.Common.{◌≡◌, ℕ, Bool, true, false, if◌then◌else◌, List, [], ◌∷◌, ◌++◌, Option, Some, None, refl, sym, ◌∙◌, ap, subst, append_assoc}
use Rattle.std.specs.Str.{bytes_eq}
use Rattle.cfj_model.specs.ExpressionGrammar.{value_expr}
use Rattle.cfj_model.specs.Marks.{marked}
use Rattle.cfj_words.specs.Tokens.{Token, Id, ClassWord, ExtendsWord, SuperWord, ThisWord, ReturnWord, OpenBrace, CloseBrace, OpenParen, CloseParen, Semicolon, Dot, Equals, End}
use Rattle.cfj_model.specs.Roles.{Role, used_name, other_token}
use Rattle.formula_reader.specs.Machine as formula
use Rattle.formula_reader.proofs.Law.{completes}
use Rattle.formula_reader.proofs.Leads.{run_leads}
use Rattle.expression_reader.specs.Machine as expression
use Rattle.expression_reader.specs.Reading as expression_reading
use Rattle.expression_reader.proofs.Law as expression_law
use Rattle.fj_machine.specs.declared.mode.Owner.{Owner}
use Rattle.fj_machine.specs.declared.mode.Owner.TheVariants as owner
use Rattle.fj_machine.specs.declared.mode.Node.{Node}
use Rattle.fj_machine.specs.declared.mode.Node.TheVariants as node
use Rattle.fj_machine.specs.declared.mode.Mode.{Mode}
use Rattle.fj_machine.specs.declared.mode.Mode.TheVariants.{Begin, AfterFormat, AfterFeatures, AfterFeature, AfterFeatureComma, Start, InConstraint, BetweenClasses, AfterAt, AfterMark, AfterMarkedType, AfterClass, AfterClassName, AfterExtends, AfterParent, InMembers, AfterType, AfterFieldName, InParams, AfterParamComma, AfterParamType, AfterParam, AfterParams, InBody, AfterSuper, InSends, AfterSendComma, AfterSend, AfterSends, InAssigns, AfterThis, AfterThisDot, AfterAssigned, AfterEquals, AfterSecondName, InMethods, AfterResult, AfterMethodName, InMethodBody, InExpression, AfterBody, AtEnd}
use Rattle.fj_machine.specs.Machine.{unnamed, State, with_field, with_method, pending, run}
use Rattle.fj_machine.specs.Readers.{Run, with_roles, then_run, run_of}
use Rattle.fj_parser.proofs.Complete.{same_name, formula_runs}
use Rattle.fj_parser.proofs.Expressions.{in_body, expression_runs, rest_reads}
use Rattle.fj_parser.proofs.ListsSound.{never}
use Rattle.fj_parser.proofs.Standing.{is_declaring, BodyRead, Holds, no_body, declaring_waits}

-- a mode is reached
abbrev pub Reaches : Mode → Option State → Type 0
Reaches m None = ⊥
Reaches m (Some n) = n.mode ≡ m

-- a test that holds lets the run go on
pub let_through : (b : Bool) (f : State → Run State) (rs : List Role) (n : State) → b ≡ true → Reaches AtEnd (f n).0 → Reaches AtEnd (then_run f rs (if b then Some n else None)).0
let_through true f rs n e h = h
let_through false f rs n e h = never e

-- The shortest ends of a text: from the methods, from the assignments, from the second name of one, from the sent names, from a
-- body, from the parameters before it, from a class's constructor, and from the name of its superclass.
unfoldable pub methods_end : List Token
methods_end = CloseBrace ∷ (End ∷ [])

unfoldable pub assigns_end : List Token
assigns_end = CloseBrace ∷ methods_end

unfoldable pub second_end : List ℕ → List Token
second_end w = Id w ∷ (Semicolon ∷ assigns_end)

unfoldable pub sends_end : List Token
sends_end = CloseParen ∷ (Semicolon ∷ assigns_end)

unfoldable pub method_end : List Token
method_end = ReturnWord ∷ (Id [] ∷ (Semicolon ∷ assigns_end))

unfoldable pub body_end : Owner → List Token
body_end owner.Constructor = OpenBrace ∷ (SuperWord ∷ (OpenParen ∷ sends_end))
body_end owner.Method = OpenBrace ∷ method_end

unfoldable pub params_end : Owner → List Token
params_end o = CloseParen ∷ body_end o

unfoldable pub ctor_end : List ℕ → List Token
ctor_end w = Id w ∷ (OpenParen ∷ params_end owner.Constructor)

unfoldable pub parent_end : List ℕ → List Token
parent_end w = Id [] ∷ (OpenBrace ∷ ctor_end w)

-- behind the marks of a node, in a class of this name
unfoldable pub marked_end : Node → List ℕ → List Token
marked_end node.Class w = ClassWord ∷ (Id [] ∷ (ExtendsWord ∷ parent_end []))
marked_end node.Member w = Id [] ∷ (Id [] ∷ (Semicolon ∷ ctor_end w))
marked_end node.Method w = Id [] ∷ (Id [] ∷ (OpenParen ∷ params_end owner.Method))
marked_end (node.Param o) w = Id [] ∷ (Id [] ∷ params_end o)
marked_end node.Send w = Id [] ∷ sends_end
marked_end node.Assign w = ThisWord ∷ (Dot ∷ (Id [] ∷ (Equals ∷ second_end [])))

-- tokens with which a text can end from a state
unfoldable pub closing : Mode → State → List Token
closing Begin s = End ∷ []
closing AfterFormat s = Semicolon ∷ (End ∷ [])
closing AfterFeatures s = Id [] ∷ (Semicolon ∷ (End ∷ []))
closing AfterFeature s = Semicolon ∷ (End ∷ [])
closing AfterFeatureComma s = Id [] ∷ (Semicolon ∷ (End ∷ []))
closing Start s = End ∷ []
closing InConstraint s = []
closing BetweenClasses s = End ∷ []
closing (AfterAt n off) s = Id [] ∷ marked_end n s.name
closing (AfterMark n) s = marked_end n s.name
closing AfterMarkedType s = Id [] ∷ (Semicolon ∷ ctor_end s.name)
closing AfterClass s = Id [] ∷ (ExtendsWord ∷ parent_end [])
closing AfterClassName s = ExtendsWord ∷ parent_end s.name
closing AfterExtends s = parent_end s.name
closing AfterParent s = OpenBrace ∷ ctor_end s.name
closing InMembers s = ctor_end s.name
closing AfterType s = Id [] ∷ (Semicolon ∷ ctor_end s.name)
closing AfterFieldName s = Semicolon ∷ ctor_end s.name
closing (InParams o) s = params_end o
closing (AfterParamComma o) s = Id [] ∷ (Id [] ∷ params_end o)
closing (AfterParamType o) s = Id [] ∷ params_end o
closing (AfterParam o) s = params_end o
closing (AfterParams o) s = body_end o
closing InBody s = SuperWord ∷ (OpenParen ∷ sends_end)
closing AfterSuper s = OpenParen ∷ sends_end
closing InSends s = sends_end
closing AfterSendComma s = Id [] ∷ sends_end
closing AfterSend s = sends_end
closing AfterSends s = Semicolon ∷ assigns_end
closing InAssigns s = assigns_end
closing AfterThis s = Dot ∷ (Id [] ∷ (Equals ∷ second_end []))
closing AfterThisDot s = Id [] ∷ (Equals ∷ second_end [])
closing AfterAssigned s = Equals ∷ second_end s.last
closing AfterEquals s = second_end s.last
closing AfterSecondName s = Semicolon ∷ assigns_end
closing InMethods s = methods_end
closing AfterResult s = Id [] ∷ (OpenParen ∷ params_end owner.Method)
closing AfterMethodName s = OpenParen ∷ params_end owner.Method
closing InMethodBody s = method_end
closing InExpression s = []
closing AfterBody s = assigns_end
closing AtEnd s = []

-- a class with no constructor yet is completed by one of its name
pub ctor_closes : (s : State) → Reaches AtEnd (run (ctor_end s.name) (record s { mode = InMembers })).0
unfolding run_of ctor_end params_end body_end sends_end assigns_end methods_end
ctor_closes s = let_through (bytes_eq s.name s.name) (run (params_end owner.Constructor)) (other_token ∷ []) (record s { mode = InParams owner.Constructor; of = unnamed }) (same_name s.name) refl

-- an assignment is completed by the same name again
second_closes : (s : State) → Reaches AtEnd (run (second_end s.last) (record s { mode = AfterEquals })).0
unfolding run_of second_end assigns_end methods_end
second_closes s = let_through (bytes_eq s.last s.last) (run (Semicolon ∷ assigns_end)) (used_name s.last ∷ []) (record s { mode = AfterSecondName; last = unnamed }) (same_name s.last) refl

-- with no expression in hand
abbrev pub in_mode : Mode → State → State
in_mode m s = record s { mode = m; expression = expression.start }

-- a constructor and a method are completed from their parameters on
params_close : (o : Owner) (s : State) → Reaches AtEnd (run (params_end o) (in_mode (AfterParam o) s)).0
unfolding run_of params_end body_end sends_end method_end assigns_end methods_end
params_close owner.Constructor s = refl
params_close owner.Method s = refl

-- behind marks, a state is completed by their node and what follows it
marked_closes : (n : Node) (s : State) → Reaches AtEnd (run (marked_end n s.name) (in_mode (AfterMark n) s)).0
unfolding run_of marked_end parent_end ctor_end params_end body_end sends_end method_end second_end assigns_end methods_end
marked_closes node.Class s = refl
marked_closes node.Member s = ctor_closes (with_field (record (in_mode InMembers s) { of = []; last = [] }))
marked_closes node.Method s = refl
marked_closes (node.Param owner.Constructor) s = refl
marked_closes (node.Param owner.Method) s = refl
marked_closes node.Send s = refl
marked_closes node.Assign s = refl

-- each state outside of formulas and expressions is completed by its closing
closes : (m : Mode) (s : State) → is_declaring m ≡ true → Reaches AtEnd (run (closing m s) (in_mode m s)).0
unfolding run_of closing parent_end ctor_end params_end body_end sends_end method_end second_end assigns_end methods_end
closes InConstraint s e = never e
closes InExpression s e = never e
closes (AfterAt n off) s e = marked_closes n (record s { colors = marked s.features s.colors (record { off = off; name = [] }) })
closes (AfterMark n) s e = marked_closes n s
closes AfterMarkedType s e = ctor_closes (with_field (record (in_mode InMembers s) { last = [] }))
closes AfterClass s e = refl
closes AfterClassName s e = ctor_closes (record (in_mode InMembers s) { parent = [] })
closes AfterExtends s e = ctor_closes (record (in_mode InMembers s) { parent = [] })
closes AfterParent s e = ctor_closes (in_mode InMembers s)
closes InMembers s e = ctor_closes (in_mode InMembers s)
closes AfterType s e = ctor_closes (with_field (record (in_mode InMembers s) { last = [] }))
closes AfterFieldName s e = ctor_closes (with_field (in_mode InMembers s))
closes (InParams owner.Constructor) s e = refl
closes (InParams owner.Method) s e = refl
closes (AfterParamComma owner.Constructor) s e = refl
closes (AfterParamComma owner.Method) s e = refl
closes (AfterParamType owner.Constructor) s e = refl
closes (AfterParamType owner.Method) s e = refl
closes (AfterParam o) s e = params_close o s
closes (AfterParams owner.Constructor) s e = refl
closes (AfterParams owner.Method) s e = refl
closes AfterAssigned s e = second_closes (in_mode AfterEquals s)
closes AfterEquals s e = second_closes (in_mode AfterEquals s)
closes _ s e = refl

-- Tokens that lead from a state to the end, in roles that begin with those that wait.
pub record Ending (s : State) : Type 0 where
  pub more : List Token
  pub others : List Role
  pub reaches : Reaches AtEnd (run more s).0
  pub begins : (run more s).1 ≡ pending s ++ others

-- where no role waits
ending_of : (s : State) (more : List Token) → pending s ≡ [] → Reaches AtEnd (run more s).0 → Ending s
ending_of s more none h = record { more = more; others = (run more s).1; reaches = h; begins = ap (λ q. q ++ (run more s).1) (sym none) }

-- a formula that isn't whole is completed, and then the text
formula_closes : (s : State) → formula.is_done s.formula ≡ false → Ending (record s { mode = InConstraint })
unfolding run_of
formula_closes s undone =
    let c = completes s.features s.formula undone in
    let l = run_leads s.features c.more s.formula c.others c.value undone c.goes in
    ending_of (record s { mode = InConstraint }) (c.more ++ End ∷ []) refl (subst (λ (p : Run State). Reaches AtEnd p.0) (sym (formula_runs s c.more s.formula c.others c.value l (End ∷ []))) refl)

-- lists that begin alike and are the same go on alike
pub same_rest : (a b c : List Role) → a ++ b ≡ a ++ c → b ≡ c
same_rest [] b c e = e
same_rest (r ∷ a) b c e = let rest : a ++ b ≡ a ++ c = cc e in same_rest a b c rest

-- an expression that isn't whole is completed, and then the text
expression_closes : (s : State) (rs : List Role) → BodyRead s rs → Ending (in_body s s.expression)
unfolding run_of assigns_end methods_end
expression_closes s rs h = of_front (expression_law.reads_begin s.features h.us s.expression h.own h.ran)
  where
    of_front : expression_reading.Begins h.us (h.own ++ expression.pending s.expression) → Ending (in_body s s.expression)
    of_front b =
        let r = rest_reads s.features h.us b.more s.expression h.own b.tree h.ran b.text in
        let gives : List Role = (expression.run s.features b.more s.expression).1 in
        let x = (value_expr s.features 0 b.tree).0 in
        let behind : Run State = run assigns_end (with_method s x) in
        let whole : run (b.more ++ assigns_end) (in_body s s.expression) ≡ with_roles gives behind = expression_runs s s.expression (expression.done x) b.more gives x h.goes r.0 refl assigns_end in
        let same : gives ≡ expression.pending s.expression ++ b.others = same_rest h.own gives (expression.pending s.expression ++ b.others) (r.1 ∙ b.in_roles ∙ append_assoc h.own (expression.pending s.expression) b.others) in
        record {
          more = b.more ++ assigns_end;
          others = b.others ++ behind.1;
          reaches = subst (λ (p : Run State). Reaches AtEnd p.0) (sym whole) refl;
          begins = ap (λ (p : Run State). p.1) whole ∙ ap (λ q. q ++ behind.1) same ∙ append_assoc (expression.pending s.expression) b.others behind.1;
        }

-- each state is completed, where the formula in hand isn't whole, and what is in hand of an expression was read so
pub ending : (m : Mode) (s : State) (rs : List Role) → formula.is_done s.formula ≡ false → Holds m s rs → Ending (record s { mode = m })
ending m s rs undone h = go (is_declaring m) refl
  where
    hosted : (m : Mode) → is_declaring m ≡ false → Holds m s rs → Ending (record s { mode = m })
    hosted InConstraint e k = formula_closes s undone
    hosted InExpression e k = expression_closes s rs k
    hosted _ e k = never (sym e)

    go : (b : Bool) → is_declaring m ≡ b → Ending (record s { mode = m })
    go true e =
        let none : s.expression ≡ expression.start = (no_body m s rs e h).none in
        subst (λ x. Ending (record s { mode = m; expression = x })) (sym none) (ending_of (in_mode m s) (closing m s) (declaring_waits m (in_mode m s) e) (closes m s e))
    go false e = hosted m e h
