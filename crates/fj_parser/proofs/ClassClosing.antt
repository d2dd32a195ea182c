-- Each state in a single class can be completed: tokens that lead from it to the end of the class's text.
use Rattle.std.proofs.Common.{◌≡◌, ℕ, ◌≤◌, Bool, true, false, List, [], ◌∷◌, ◌++◌, length, Option, Some, refl, sym, ◌∙◌, ap, subst, arith, append_assoc}
use Rattle.std.proofs.lemmas.List.{append-nil}
use Rattle.std.specs.Str.{bytes_eq}
use Rattle.cfj_model.specs.declared.class.Class.{Class}
use Rattle.cfj_model.specs.declared.expr.Expr.{Expr}
use Rattle.cfj_model.specs.ExpressionGrammar.{value_expr}
use Rattle.cfj_model.specs.Marks.{marked}
use Rattle.cfj_words.specs.Tokens.{Token, Semicolon, End}
use Rattle.cfj_model.specs.Roles.{Role, used_name, other_token}
use Rattle.cfj_model.specs.declared.feature_model.Format.{Format}
use Rattle.expression_reader.specs.Machine as expression
use Rattle.expression_reader.specs.Reading as expression_reading
use Rattle.expression_reader.proofs.Law as expression_law
use Rattle.fj_machine.specs.declared.mode.Owner.{Owner}
use Rattle.fj_machine.specs.declared.mode.Owner.TheVariants as owner
use Rattle.fj_machine.specs.declared.mode.Node.{Node}
use Rattle.fj_machine.specs.declared.mode.Node.TheVariants as node
use Rattle.fj_machine.specs.declared.mode.Mode.{Mode}
use Rattle.fj_machine.specs.declared.mode.Mode.TheVariants.{Begin, AfterFormat, AfterFeatures, AfterFeature, AfterFeatureComma, Start, InConstraint, BetweenClasses, AfterAt, AfterMark, AfterMarkedType, AfterClass, AfterClassName, AfterExtends, AfterParent, InMembers, AfterType, AfterFieldName, InParams, AfterParamComma, AfterParamType, AfterParam, AfterParams, AfterAssigned, AfterEquals, AfterSecondName, InExpression, AfterBody, AtEnd}
use Rattle.fj_parser.specs.Goals.{none_yet}
use Rattle.fj_machine.specs.Machine.{unnamed, State, with_field, method_of, with_method, pending, run}
use Rattle.fj_machine.specs.Readers.{Run, with_roles, run_of}
use Rattle.fj_parser.proofs.ClassRuns.{class_reader, Stage, in_first, behind_first, behind_end, wide_run}
use Rattle.fj_parser.proofs.Closing.{Reaches, let_through, same_rest, methods_end, assigns_end, second_end, sends_end, method_end, body_end, params_end, ctor_end, parent_end, marked_end, closing}
use Rattle.fj_parser.proofs.Complete.{same_name}
use Rattle.fj_parser.proofs.Expressions.{in_body, expression_runs, rest_reads}
use Rattle.fj_parser.proofs.Parts.{phase, region}
use Rattle.fj_parser.proofs.Readers.{on_from, run_append}
use Rattle.fj_parser.proofs.Standing.{is_declaring, BodyRead, Holds, no_body, declaring_waits}

-- what tokens reach from a state in the class
abbrev reached_by : Format → List (List ℕ) → List Token → State → Option State
reached_by format features ts s = (run_of (class_reader format features) ts s).0

-- before the first class is read whole
abbrev in_class : State → State
in_class s = record s { classes = []; expression = expression.start }

abbrev class_mode : Mode → State → State
class_mode m s = record (in_class s) { mode = m }

module _ (format : Format) (features : List (List ℕ)) where
  -- a class with no constructor yet is completed by one of its name
  ctor_closes : (s : State) → Reaches AtEnd (reached_by format features (ctor_end s.name) (class_mode InMembers s))
  unfolding run_of ctor_end params_end body_end sends_end assigns_end methods_end
  ctor_closes s = let_through (bytes_eq s.name s.name) (run_of (class_reader format features) (params_end owner.Constructor)) (other_token ∷ []) (record (in_class s) { mode = InParams owner.Constructor; of = unnamed }) (same_name s.name) refl

  -- an assignment is completed by the same name again
  second_closes : (s : State) → Reaches AtEnd (reached_by format features (second_end s.last) (class_mode AfterEquals s))
  unfolding run_of second_end assigns_end methods_end
  second_closes s = let_through (bytes_eq s.last s.last) (run_of (class_reader format features) (Semicolon ∷ assigns_end)) (used_name s.last ∷ []) (record (in_class s) { mode = AfterSecondName; last = unnamed }) (same_name s.last) refl

  -- a constructor and a method are completed from their parameters on
  params_close : (o : Owner) (s : State) → Reaches AtEnd (reached_by format features (params_end o) (class_mode (AfterParam o) s))
  unfolding run_of params_end body_end sends_end method_end assigns_end methods_end
  params_close owner.Constructor s = refl
  params_close owner.Method s = refl

  -- behind marks, a state is completed by their node and what follows it
  marked_closes : (n : Node) (s : State) → Reaches AtEnd (reached_by format features (marked_end n s.name) (class_mode (AfterMark n) s))
  unfolding run_of marked_end parent_end ctor_end params_end body_end sends_end method_end second_end assigns_end methods_end
  marked_closes node.Class s = refl
  marked_closes node.Member s = ctor_closes (with_field (record s { of = []; last = [] }))
  marked_closes node.Method s = refl
  marked_closes (node.Param owner.Constructor) s = refl
  marked_closes (node.Param owner.Method) s = refl
  marked_closes node.Send s = refl
  marked_closes node.Assign s = refl

  -- the modes in a class, outside of expressions
  abbrev pub is_in_class : Mode → Bool
  is_in_class Begin = false
  is_in_class AfterFormat = false
  is_in_class AfterFeatures = false
  is_in_class AfterFeature = false
  is_in_class AfterFeatureComma = false
  is_in_class Start = false
  is_in_class InConstraint = false
  is_in_class BetweenClasses = false
  is_in_class InExpression = false
  is_in_class AtEnd = false
  is_in_class _ = true

  -- each state in a class and outside of expressions is completed by its closing
  closes : (m : Mode) (s : State) → is_in_class m ≡ true → Reaches AtEnd (reached_by format features (closing m s) (class_mode m s))
  unfolding run_of closing parent_end ctor_end params_end body_end sends_end method_end second_end assigns_end methods_end
  closes Begin s e = absurd (let no : ⊥ = cc e in no)
  closes AfterFormat s e = absurd (let no : ⊥ = cc e in no)
  closes AfterFeatures s e = absurd (let no : ⊥ = cc e in no)
  closes AfterFeature s e = absurd (let no : ⊥ = cc e in no)
  closes AfterFeatureComma s e = absurd (let no : ⊥ = cc e in no)
  closes Start s e = absurd (let no : ⊥ = cc e in no)
  closes InConstraint s e = absurd (let no : ⊥ = cc e in no)
  closes BetweenClasses s e = absurd (let no : ⊥ = cc e in no)
  closes InExpression s e = absurd (let no : ⊥ = cc e in no)
  closes AtEnd s e = absurd (let no : ⊥ = cc e in no)
  closes (AfterAt n off) s e = marked_closes n (record s { colors = marked s.features s.colors (record { off = off; name = [] }) })
  closes (AfterMark n) s e = marked_closes n s
  closes AfterMarkedType s e = ctor_closes (with_field (record s { last = [] }))
  closes AfterClass s e = refl
  closes AfterClassName s e = ctor_closes (record s { parent = [] })
  closes AfterExtends s e = ctor_closes (record s { parent = [] })
  closes AfterParent s e = ctor_closes s
  closes InMembers s e = ctor_closes s
  closes AfterType s e = ctor_closes (with_field (record s { last = [] }))
  closes AfterFieldName s e = ctor_closes (with_field s)
  closes (InParams owner.Constructor) s e = refl
  closes (InParams owner.Method) s e = refl
  closes (AfterParamComma owner.Constructor) s e = refl
  closes (AfterParamComma owner.Method) s e = refl
  closes (AfterParamType owner.Constructor) s e = refl
  closes (AfterParamType owner.Method) s e = refl
  closes (AfterParam o) s e = params_close o s
  closes (AfterParams owner.Constructor) s e = refl
  closes (AfterParams owner.Method) s e = refl
  closes AfterAssigned s e = second_closes s
  closes AfterEquals s e = second_closes s
  closes _ s e = refl

-- Tokens that lead from a state to the end, in roles that begin with those that wait.
pub record ClassEnding (format : Format) (features : List (List ℕ)) (s : State) : Type 0 where
  pub more : List Token
  pub others : List Role
  pub reaches : Reaches AtEnd (reached_by format features more s)
  pub begins : (run_of (class_reader format features) more s).1 ≡ pending s ++ others

module _ (format : Format) (features : List (List ℕ)) where
  -- where no role waits
  ending_of : (s : State) (more : List Token) → pending s ≡ [] → Reaches AtEnd (reached_by format features more s) → ClassEnding format features s
  ending_of s more none h = record { more = more; others = (run_of (class_reader format features) more s).1; reaches = h; begins = ap (λ q. q ++ (run_of (class_reader format features) more s).1) (sym none) }

  -- what is known of states before the class is read whole
  first_far : (s : State) (x : Expr) → s.classes ≡ [] → phase (with_method s x) ≤ 11
  first_far s x e =
      let long : length s.classes ≡ 0 = ap length e in
      omega (arith, long, some_or_none (none_yet (s.methods ++ method_of s x ∷ [])))
    where
      some_or_none : (b : Bool) → region AfterBody b ≤ 6
      some_or_none true = omega arith
      some_or_none false = omega arith

  -- behind the body of a method
  body_closes : (s : State) (x : Expr) → s.classes ≡ [] → Reaches AtEnd (reached_by format features assigns_end (with_method s x))
  unfolding run_of assigns_end methods_end
  body_closes s x e = subst (λ cs. Reaches AtEnd (reached_by format features assigns_end (with_method (record s { classes = cs }) x))) (sym e) refl

  -- an expression that isn't whole is completed, and then the text
  expression_closes : (s : State) (rs : List Role) → s.classes ≡ [] → BodyRead s rs → ClassEnding format features (in_body s s.expression)
  unfolding run_of
  expression_closes s rs e h = of_front (expression_law.reads_begin s.features h.us s.expression h.own h.ran)
    where
      of_front : expression_reading.Begins h.us (h.own ++ expression.pending s.expression) → ClassEnding format features (in_body s s.expression)
      of_front b =
          let r = rest_reads s.features h.us b.more s.expression h.own b.tree h.ran b.text in
          let gives : List Role = (expression.run s.features b.more s.expression).1 in
          let x = (value_expr s.features 0 b.tree).0 in
          let n : State = with_method s x in
          let whole : run (b.more ++ []) (in_body s s.expression) ≡ (Some n, gives ++ []) = expression_runs s s.expression (expression.done x) b.more gives x h.goes r.0 refl [] in
          let ours : run_of (class_reader format features) b.more (in_body s s.expression) ≡ (Some n, gives) = wide_run format features b.more (in_body s s.expression) n gives (first_far s x e) (ap (λ w. run w (in_body s s.expression)) (sym (append-nil b.more)) ∙ whole ∙ ap (λ (q : List Role). (Some n, q)) (append-nil gives)) in
          let behind : Run State = run_of (class_reader format features) assigns_end n in
          let all : run_of (class_reader format features) (b.more ++ assigns_end) (in_body s s.expression) ≡ with_roles gives behind = run_append (class_reader format features) b.more assigns_end (in_body s s.expression) ∙ ap (on_from (class_reader format features) assigns_end) ours in
          let same : gives ≡ expression.pending s.expression ++ b.others = same_rest h.own gives (expression.pending s.expression ++ b.others) (r.1 ∙ b.in_roles ∙ append_assoc h.own (expression.pending s.expression) b.others) in
          record {
            more = b.more ++ assigns_end;
            others = b.others ++ behind.1;
            reaches = subst (λ (p : Run State). Reaches AtEnd p.0) (sym all) (body_closes s x e);
            begins = ap (λ (p : Run State). p.1) all ∙ ap (λ q. q ++ behind.1) same ∙ append_assoc (expression.pending s.expression) b.others behind.1;
          }

  -- a class from its first word on
  between_closes : (s : State) → Reaches AtEnd (reached_by format features (marked_end node.Class unnamed) (class_mode BetweenClasses s))
  unfolding run_of marked_end parent_end ctor_end params_end body_end sends_end assigns_end methods_end
  between_closes s = refl

  -- behind a whole class
  whole_closes : (s : State) (k : Class) (ks : List Class) → Reaches AtEnd (reached_by format features (End ∷ []) (record s { mode = BetweenClasses; classes = k ∷ ks }))
  unfolding run_of
  whole_closes s k ks = refl

  -- and behind the end
  end_closes : (s : State) → Reaches AtEnd (reached_by format features [] (record s { mode = AtEnd }))
  unfolding run_of
  end_closes s = refl

  -- before the class is whole
  first_ending : (m : Mode) (s : State) (rs : List Role) → s.classes ≡ [] → 1 ≤ region m (none_yet s.methods) → Holds m s rs → ClassEnding format features (record s { mode = m })
  first_ending m s rs none on h = go m on h
    where
      -- outside of expressions
      by_closing : (m : Mode) (more : List Token) → is_declaring m ≡ true → Holds m s rs → Reaches AtEnd (reached_by format features more (class_mode m s)) → ClassEnding format features (record s { mode = m })
      by_closing m more e h reaches =
          let same : class_mode m s ≡ record s { mode = m } = ap (λ cs. record s { mode = m; classes = cs; expression = expression.start }) (sym none) ∙ ap (λ x. record s { mode = m; expression = x }) (sym (no_body m s rs e h).none) in
          subst (ClassEnding format features) same (ending_of (class_mode m s) more (declaring_waits m (class_mode m s) e) reaches)

      go : (m : Mode) → 1 ≤ region m (none_yet s.methods) → Holds m s rs → ClassEnding format features (record s { mode = m })
      go Begin on h = absurd (omega (arith, on))
      go AfterFormat on h = absurd (omega (arith, on))
      go AfterFeatures on h = absurd (omega (arith, on))
      go AfterFeature on h = absurd (omega (arith, on))
      go AfterFeatureComma on h = absurd (omega (arith, on))
      go Start on h = absurd (omega (arith, on))
      go InConstraint on h = absurd (omega (arith, on))
      go BetweenClasses on h = by_closing BetweenClasses (marked_end node.Class unnamed) refl h (between_closes s)
      go InExpression on h = expression_closes s rs none h
      go AtEnd on h = ending_of (record s { mode = AtEnd }) [] refl (end_closes s)
      go m on h = by_closing m (closing m s) refl h (closes format features m s refl)

  -- each state that is reached is completed
  pub class_ending : (s : State) (rs : List Role) → Stage s → Holds s.mode s rs → ClassEnding format features s
  class_ending s rs (in_first none on) h = first_ending s.mode s rs none on h
  class_ending s rs (behind_first here) h = by s.classes refl
    where
      by : (cs : List Class) → s.classes ≡ cs → ClassEnding format features s
      by [] none = first_ending s.mode s rs none (subst (λ m. 1 ≤ region m (none_yet s.methods)) (sym here) (omega arith)) h
      by (k ∷ ks) some =
          let same : record s { mode = BetweenClasses; classes = k ∷ ks } ≡ s = ap (λ m. record s { mode = m; classes = k ∷ ks }) (sym here) ∙ ap (λ cs. record s { classes = cs }) (sym some) in
          subst (ClassEnding format features) same (ending_of (record s { mode = BetweenClasses; classes = k ∷ ks }) (End ∷ []) refl (whole_closes s k ks))
  class_ending s rs (behind_end here) h = subst (ClassEnding format features) (ap (λ m. record s { mode = m }) (sym here)) (ending_of (record s { mode = AtEnd }) [] refl (end_closes s))
