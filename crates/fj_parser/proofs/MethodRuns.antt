-- A method behind its head, read by itself: the run of the machine for projects is the part's.
use Rattle.std.proofs.Common.{◌≡◌, ℕ, Bool, true, false, List, [], ◌∷◌, ◌++◌, Option, Some, None, refl, sym, ◌∙◌, ap, subst}
use Rattle.cfj_model.specs.declared.class.Param.{Param}
use Rattle.cfj_model.specs.declared.expr.Expr.{Expr}
use Rattle.cfj_model.specs.ExpressionGrammar.{ExprTree, spell_expr, roles_expr, value_expr}
use Rattle.cfj_model.specs.Grammar.{Declared, MethodTree, spell_param, value_method}
use Rattle.cfj_model.specs.Marks.{each_behind, separated, spell_sign, spell_marks, marked}
use Rattle.cfj_model.specs.Roles.{Role, other_token}
use Rattle.cfj_model.specs.declared.feature_model.Format.{Format}
use Rattle.cfj_model.specs.declared.signed.Signed.{Signed}
use Rattle.cfj_model.specs.Coloring.{no_colors}
use Rattle.cfj_logic.specs.Sides.{Sides}
use Rattle.cfj_words.specs.Tokens.{Token, Id, ReturnWord, OpenBrace, CloseBrace, OpenParen, CloseParen, Semicolon, Comma, End}
use Rattle.expression_reader.specs.Machine as expression
use Rattle.expression_reader.proofs.Complete.{text_runs}
use Rattle.fj_parser.specs.declared.goal.Goal.{Goal}
use Rattle.fj_machine.specs.declared.mode.Owner.TheVariants as owner
use Rattle.fj_machine.specs.declared.mode.Node.{Node}
use Rattle.fj_machine.specs.declared.mode.Node.TheVariants as node
use Rattle.fj_machine.specs.declared.mode.Mode.TheVariants.{AfterAt, AfterMark}
use Rattle.fj_parser.specs.Goals.{reader_for}
use Rattle.fj_machine.specs.Machine.{State, with_method, after_expression, in_expression}
use Rattle.fj_machine.specs.Readers.{run_of}
use Rattle.fj_parser.proofs.Complete.{with_roles, at_again, in_params, after_param_comma, after_param, after_params, in_methods, method_rest, roles_method_rest, behind_head, method_rest_run}
use Rattle.fj_parser.proofs.Expressions.{unread_none, some_same, end_of_run, in_body, expression_text}
use Rattle.fj_parser.proofs.MethodsSound.{methods_text}
use Rattle.fj_parser.proofs.Readers.{on_from}
use Rattle.fj_parser.proofs.SingleParts.{OfSome, Stays, part_run, IsSameInside, stays_run}
use Rattle.fj_parser.proofs.Spelled.{method_rest_before, method_rest_roles_before}

-- ---- the modes behind the head

-- one mark behind its `@`
sign_stays : (n : Node) (off : Bool) (w : List ℕ) (ts : List Token) (s : State) → Stays ts (record s { mode = AfterMark n; colors = marked s.features s.colors (record { off = off; name = w }) })
    → Stays (spell_sign off (Id w ∷ ts)) (record s { mode = AfterAt n false })
sign_stays n false w ts s h = (refl, h)
sign_stays n true w ts s h = (refl, (refl, h))

marks_stay : (n : Node) (ms : List Signed) (ts : List Token) (s : State) → ((colors : Sides) → Stays ts (record s { mode = AfterMark n; colors = colors })) → Stays (spell_marks ms ts) (record s { mode = AfterMark n })
marks_stay n [] ts s h = h s.colors
marks_stay n (m ∷ ms) ts s h =
    let rest : Stays (spell_marks ms ts) (record s { mode = AfterMark n; colors = marked s.features s.colors m }) = marks_stay n ms ts (record s { colors = marked s.features s.colors m }) h in
    (refl, subst (OfSome (Stays (spell_sign m.off (Id m.name ∷ spell_marks ms ts)))) (sym (at_again n (record s { mode = AfterMark n }))) (sign_stays n m.off m.name (spell_marks ms ts) s rest))

-- a parameter behind a comma, and the first
param_stays : (ms : List Signed) (of name : List ℕ) (ts : List Token) (s : State) → ((ps : List Param) → Stays ts (after_param owner.Method (record s { params = ps }))) → Stays (spell_param (record { marks = ms; of = of; name = name }) ts) (after_param_comma owner.Method s)
param_stays [] of name ts s h = (refl, (refl, h _))
param_stays (m ∷ ms) of name ts s h =
    let rest : Stays (spell_marks ms (Id of ∷ (Id name ∷ ts))) (record (after_param_comma owner.Method s) { mode = AfterMark (node.Param owner.Method); colors = marked s.features no_colors m }) = marks_stay (node.Param owner.Method) ms (Id of ∷ (Id name ∷ ts)) (record (after_param_comma owner.Method s) { colors = marked s.features no_colors m }) (λ colors. (refl, (refl, h _))) in
    (refl, sign_stays (node.Param owner.Method) m.off m.name (spell_marks ms (Id of ∷ (Id name ∷ ts))) (after_param_comma owner.Method s) rest)

first_param_stays : (ms : List Signed) (of name : List ℕ) (ts : List Token) (s : State) → ((ps : List Param) → Stays ts (after_param owner.Method (record s { params = ps }))) → Stays (spell_param (record { marks = ms; of = of; name = name }) ts) (in_params owner.Method s)
first_param_stays [] of name ts s h = (refl, (refl, h _))
first_param_stays (m ∷ ms) of name ts s h =
    let rest : Stays (spell_marks ms (Id of ∷ (Id name ∷ ts))) (record (in_params owner.Method s) { mode = AfterMark (node.Param owner.Method); colors = marked s.features no_colors m }) = marks_stay (node.Param owner.Method) ms (Id of ∷ (Id name ∷ ts)) (record (in_params owner.Method s) { colors = marked s.features no_colors m }) (λ colors. (refl, (refl, h _))) in
    (refl, sign_stays (node.Param owner.Method) m.off m.name (spell_marks ms (Id of ∷ (Id name ∷ ts))) (in_params owner.Method s) rest)

-- the parameters after the first, and all
more_params_stay : (ds : List Declared) (ts : List Token) (s : State) → ((ps : List Param) → Stays ts (after_params owner.Method (record s { params = ps }))) → Stays (each_behind Comma spell_param ds (CloseParen ∷ ts)) (after_param owner.Method s)
more_params_stay [] ts s h = (refl, h s.params)
more_params_stay (d ∷ ds) ts s h = (refl, param_stays d.marks d.of d.name (each_behind Comma spell_param ds (CloseParen ∷ ts)) s (λ ps. more_params_stay ds ts (record s { params = ps }) h))

params_stay : (ds : List Declared) (ts : List Token) (s : State) → ((ps : List Param) → Stays ts (after_params owner.Method (record s { params = ps }))) → Stays (separated Comma spell_param ds (CloseParen ∷ ts)) (in_params owner.Method s)
params_stay [] ts s h = (refl, h [])
params_stay (d ∷ ds) ts s h = first_param_stays d.marks d.of d.name (each_behind Comma spell_param ds (CloseParen ∷ ts)) s (λ ps. more_params_stay ds ts (record s { params = ps }) h)

-- an expression, and its semicolon
expression_stays : (s : State) (e n : expression.State) (us : List Token) (rs : List Role) (x : Expr) (ts : List Token) → expression.is_done e ≡ false → expression.run s.features us e ≡ (Some n, rs) → expression.expression n ≡ Some x → Stays ts (with_method s x) → Stays (us ++ ts) (in_body s e)
unfolding expression.run
expression_stays s e n [] rs x ts goes h whole k =
    let o : None ≡ Some x = sym (unread_none e goes) ∙ ap expression.expression (some_same e n (ap (λ (p : expression.Run). p.0) h)) ∙ whole in
    absurd (let no : ⊥ = cc o in no)
expression_stays s e n (t ∷ us) rs x ts goes h whole k = (refl, go (λ m g f. expression_stays s m n us (expression.run s.features us m).1 x ts g f whole k) (expression.step s.features e t) refl h)
  where
    go : ((m : expression.State) → expression.is_done m ≡ false → expression.run s.features us m ≡ (Some n, (expression.run s.features us m).1) → Stays (us ++ ts) (in_body s m))
        → (o : Option expression.State) → expression.step s.features e t ≡ o → expression.then_run (expression.run s.features us) (expression.emitted e t) o ≡ (Some n, rs) → OfSome (Stays (us ++ ts)) (in_expression (in_body s e) o)
    go ih None stuck h = tt
    go ih (Some m) steps h = by (expression.is_done m) refl
      where
        reaches : expression.run s.features us m ≡ (Some n, (expression.run s.features us m).1)
        reaches = ap (λ (o : Option expression.State). (o, (expression.run s.features us m).1)) (ap (λ (p : expression.Run). p.0) h)

        by : (b : Bool) → expression.is_done m ≡ b → Stays (us ++ ts) (after_expression (in_body s e) m (expression.expression m))
        by false g = subst (λ q. Stays (us ++ ts) (after_expression (in_body s e) m q)) (sym (unread_none m g)) (ih m g reaches)
        by true g =
            let b = end_of_run s.features us m n (expression.run s.features us m).1 g reaches in
            subst (λ q. Stays (us ++ ts) (after_expression (in_body s e) m q)) (sym (ap expression.expression b.1 ∙ whole)) (subst (λ (ws : List Token). Stays (ws ++ ts) (with_method s x)) (sym b.0) k)

-- the expression of a body, and what follows it
body_stays : (x : ExprTree) (s : State) → Stays (spell_expr x (Semicolon ∷ (CloseBrace ∷ []))) (in_body s expression.start)
body_stays x s =
    subst (λ w. Stays w (in_body s expression.start)) (sym (expression_text x (CloseBrace ∷ [])))
    (expression_stays s expression.start (expression.done (value_expr s.features 0 x).0) (spell_expr x (Semicolon ∷ [])) (roles_expr 0 x (other_token ∷ [])) (value_expr s.features 0 x).0 (CloseBrace ∷ []) refl (text_runs s.features x) refl (refl, tt))

-- a method behind its head
method_rest_stays : (m : MethodTree) (colors : Sides) (s : State) → Stays (method_rest m []) (behind_head s colors m.result m.name)
method_rest_stays m colors s =
    let n : State = record (in_methods s) { method_colors = colors; result_type = m.result; method = m.name } in
    params_stay m.params (OpenBrace ∷ (ReturnWord ∷ spell_expr m.body (Semicolon ∷ (CloseBrace ∷ [])))) n (λ ps. (refl, (refl, body_stays m.body (record n { params = ps }))))

-- ---- methods

-- the text of methods and what follows it never begins with the end
pub no_end_first : (ms : List MethodTree) (rest ts : List Token) → methods_text ms rest ≡ End ∷ ts → ⊥
no_end_first [] rest ts e = cc e
no_end_first (m ∷ ms) rest ts e = go m.marks e
  where
    go : (ws : List Signed) → spell_marks ws (Id m.result ∷ (Id m.name ∷ (OpenParen ∷ method_rest m (methods_text ms rest)))) ≡ End ∷ ts → ⊥
    go [] e = cc e
    go (w ∷ ws) e = cc e

-- ---- the part's run

module _ (g : Goal) (format : Format) (fs : List (List ℕ)) (class : List ℕ) where
  -- a method behind its head is read
  pub rest_read : IsSameInside g format fs class → (m : MethodTree) (colors : Sides) (ts : List Token) (s : State) → part_run g format fs class (method_rest m ts) (behind_head s colors m.result m.name) ≡ with_roles (roles_method_rest m) (part_run g format fs class ts (in_methods (record s { methods = s.methods ++ record (value_method s.features m) { colors = colors } ∷ [] })))
  unfolding run_of
  rest_read same m colors ts s =
      let n : State = in_methods (record s { methods = s.methods ++ record (value_method s.features m) { colors = colors } ∷ [] }) in
      ap (λ w. part_run g format fs class w (behind_head s colors m.result m.name)) (method_rest_before m [] ts)
      ∙ stays_run g format fs class same (method_rest m []) ts (behind_head s colors m.result m.name) (method_rest_stays m colors s)
      ∙ ap (on_from (reader_for g format fs class) ts) (method_rest_run m colors [] s)
      ∙ ap (λ (q : List Role). ((part_run g format fs class ts n).0, q)) (sym (method_rest_roles_before m [] (part_run g format fs class ts n).1))
