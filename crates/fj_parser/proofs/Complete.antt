-- The text of each tree is read: in the tree's roles, and to the tree's value.
use Rattle.std.proofs.Common.{◌≡◌, ℕ, ◌+◌, Bool, true, false, not, ◌&&◌, if◌then◌else◌, List, [], ◌∷◌, ◌++◌, length, map, Some, None, refl, sym, ◌∙◌, ap, append_assoc, length-append}
use Rattle.std.proofs.lemmas.List.{append-nil}
use Rattle.std.proofs.lemmas.Slice.Eq.{bytes_eq-Decides}
use Rattle.std.specs.Str.{bytes_eq}
use Rattle.cfj_logic.specs.Sides.{Sides}
use Rattle.cfj_model.specs.Coloring.{is_two, no_colors}
use Rattle.cfj_model.specs.declared.class.Class.{Class}
use Rattle.cfj_model.specs.declared.feature_model.Format.{Format}
use Rattle.cfj_model.specs.declared.feature_model.Format.TheVariants.{One, Two}
use Rattle.cfj_model.specs.declared.signed.Signed.{Signed}
use Rattle.cfj_words.specs.Tokens.{Token, Id, ClassWord, ExtendsWord, SuperWord, ThisWord, ReturnWord, OpenBrace, CloseBrace, OpenParen, CloseParen, Semicolon, Comma, Dot, Equals, At, End}
use Rattle.cfj_logic.specs.declared.formula.Formula.{Formula}
use Rattle.cfj_model.specs.ExpressionGrammar.{spell_expr, roles_expr}
use Rattle.cfj_model.specs.FormulaGrammar.{IffTree, spell_iff, roles_iff, value_iff}
use Rattle.cfj_model.specs.Grammar.{Declared, Named, MethodTree, ClassTree, Tree, constraint_word, features_word, format_word, spell_name, spell_format, spell_features, spell_field, spell_param, spell_sent, spell_assign, spell_ctor, spell_method, spell_constraint, spell_class, spell, numbered, value_field, value_param, value_sent, value_ctor, value_method, value_class}
use Rattle.cfj_model.specs.Marks.{in_order, each_behind, separated, spell_sign, spell_marks, roles_sign, roles_mark, roles_marks, marked, colored, colors_of}
use Rattle.cfj_model.specs.Roles.{Role, format_line, mark_name, class_name, method_name, assigned_name, used_name, other_token}
use Rattle.cfj_model.specs.TreeRoles.{roles_format, roles_feature, roles_features, roles_field, roles_param, roles_method_param, roles_sent, roles_assign, roles_ctor, roles_method, roles_constraint, roles_class, roles}
use Rattle.formula_reader.specs.Machine as formula
use Rattle.formula_reader.specs.declared.mode.Mode as formula_mode
use Rattle.formula_reader.specs.declared.mode.Mode.TheVariants.{Want, After, Done}
use Rattle.formula_reader.proofs.Leads.{Leads, last, more, formula_leads}
use Rattle.formula_reader.proofs.Texts.{spell_iff_append, roles_iff_append}
use Rattle.expression_reader.specs.Machine as expression
use Rattle.fj_machine.specs.declared.mode.Owner.{Owner}
use Rattle.fj_machine.specs.declared.mode.Owner.TheVariants as owner
use Rattle.fj_machine.specs.declared.mode.Node.{Node}
use Rattle.fj_machine.specs.declared.mode.Node.TheVariants as node
use Rattle.fj_machine.specs.declared.mode.Mode.{Mode}
use Rattle.fj_machine.specs.declared.mode.Mode.TheVariants.{Begin, AfterFormat, AfterFeatures, AfterFeature, Start, InConstraint, BetweenClasses, AfterAt, AfterMark, AfterClass, InMembers, InParams, AfterParamComma, AfterParam, AfterParams, InSends, AfterSendComma, AfterSend, AfterSends, InAssigns, AfterThis, AfterSecondName, InMethods, AfterResult, AtEnd}
use Rattle.fj_machine.specs.Machine.{unnamed, State, behind, before_classes, start, to, after_formula, in_formula, opens_constraint, step_in, run}
use Rattle.fj_machine.specs.Readers.{Run, then_run, run_of}
use Rattle.fj_parser.proofs.Expressions.{expression_tree_runs}

-- a run with more roles before its own
abbrev pub with_roles : (List Role → List Role) → Run State → Run State
with_roles f p = (p.0, f p.1)

abbrev pub with_role : Role → Run State → Run State
with_role r p = (p.0, r ∷ p.1)

-- where the same name stands twice, the test says so
pub same_name : (w : List ℕ) → bytes_eq w w ≡ true
same_name w = (bytes_eq-Decides w w).1 refl

-- an item at the end of a numbered list, and those after it
pub numbered_on : {A B : Type 0} (f : ℕ → A → B) (before : List B) (x : A) (xs : List A) → (before ++ f (length before) x ∷ []) ++ numbered f (length (before ++ f (length before) x ∷ [])) xs ≡ before ++ numbered f (length before) (x ∷ xs)
numbered_on f before x xs =
    ap (λ n. (before ++ f (length before) x ∷ []) ++ numbered f n xs) (length-append before (f (length before) x ∷ [])) ∙ append_assoc before (f (length before) x ∷ []) (numbered f (length before + 1) xs)

-- ---- marks

-- behind the marks of any node another may follow
pub at_again : (n : Node) (s : State) → step_in (AfterMark n) s At ≡ to (AfterAt n false) s
at_again node.Class s = refl
at_again node.Member s = refl
at_again node.Method s = refl
at_again (node.Param o) s = refl
at_again node.Send s = refl
at_again node.Assign s = refl

-- one mark behind its `@`
mark_run : (n : Node) (off : Bool) (w : List ℕ) (ts : List Token) (s : State) → run (spell_sign off (Id w ∷ ts)) (record s { mode = AfterAt n false })
    ≡ with_roles (λ rs. roles_sign off (mark_name w ∷ rs)) (run ts (record s { mode = AfterMark n; colors = marked s.features s.colors (record { off = off; name = w }) }))
unfolding run_of
mark_run n false w ts s = refl
mark_run n true w ts s = refl

-- the marks after the first
marks_run : (n : Node) (ms : List Signed) (ts : List Token) (s : State) → run (spell_marks ms ts) (record s { mode = AfterMark n })
    ≡ with_roles (roles_marks ms) (run ts (record s { mode = AfterMark n; colors = colored s.features s.colors ms }))
unfolding run_of
marks_run n [] ts s = refl
marks_run n (m ∷ ms) ts s =
    ap (then_run (run (spell_sign m.off (Id m.name ∷ spell_marks ms ts))) (other_token ∷ [])) (at_again n (record s { mode = AfterMark n }))
    ∙ ap (with_role other_token) (mark_run n m.off m.name (spell_marks ms ts) s)
    ∙ ap (with_roles (roles_mark m)) (marks_run n ms ts (record s { colors = marked s.features s.colors m }))

-- the marks of a node that has some, behind the `@` of the first
first_mark_run : (n : Node) (m : Signed) (ms : List Signed) (ts : List Token) (s : State)
    → run (spell_sign m.off (Id m.name ∷ spell_marks ms ts)) (record s { mode = AfterAt n false; colors = no_colors })
    ≡ with_roles (λ rs. roles_sign m.off (mark_name m.name ∷ roles_marks ms rs)) (run ts (record s { mode = AfterMark n; colors = colors_of s.features (m ∷ ms) }))
first_mark_run n m ms ts s =
    mark_run n m.off m.name (spell_marks ms ts) (record s { colors = no_colors })
    ∙ ap (with_roles (λ rs. roles_sign m.off (mark_name m.name ∷ rs))) (marks_run n ms ts (record s { colors = marked s.features no_colors m }))

-- ---- a class's parts

-- the states between the items of each list
abbrev pub in_members : State → State
in_members s = record s { mode = InMembers; colors = no_colors; of = unnamed; last = unnamed }

abbrev pub in_params : Owner → State → State
in_params o s = record s { mode = InParams o; params = []; colors = no_colors; of = unnamed }

abbrev pub after_param_comma : Owner → State → State
after_param_comma o s = record s { mode = AfterParamComma o; colors = no_colors; of = unnamed }

abbrev pub after_param : Owner → State → State
after_param o s = record s { mode = AfterParam o; colors = no_colors; of = unnamed }

abbrev pub after_params : Owner → State → State
after_params o s = record s { mode = AfterParams o; colors = no_colors; of = unnamed }

abbrev pub in_sends : State → State
in_sends s = record s { mode = InSends; sends = []; colors = no_colors }

abbrev pub after_send_comma : State → State
after_send_comma s = record s { mode = AfterSendComma; colors = no_colors }

abbrev pub after_send : State → State
after_send s = record s { mode = AfterSend; colors = no_colors }

abbrev pub after_sends : State → State
after_sends s = record s { mode = AfterSends; colors = no_colors }

abbrev pub in_assigns : State → State
in_assigns s = record s { mode = InAssigns; colors = no_colors; last = unnamed }

-- one more item in hand
abbrev pub with_a_field : State → Declared → State
with_a_field s d = record s { fields = s.fields ++ value_field s.features d ∷ [] }

abbrev pub with_a_param : State → Declared → State
with_a_param s d = record s { params = s.params ++ value_param s.features (length s.params) d ∷ [] }

abbrev pub with_a_sent : State → Named → State
with_a_sent s d = record s { sends = s.sends ++ value_sent s.features (length s.sends) d ∷ [] }

abbrev pub with_an_assign : State → Named → State
with_an_assign s d = record s { assigns = s.assigns ++ value_sent s.features (length s.assigns) d ∷ [] }

-- a field with these marks
pub field_run : (ms : List Signed) (of name : List ℕ) (ts : List Token) (s : State) → run (spell_field (record { marks = ms; of = of; name = name }) ts) (in_members s) ≡ with_roles (roles_field (record { marks = ms; of = of; name = name })) (run ts (in_members (with_a_field s (record { marks = ms; of = of; name = name }))))
unfolding run_of
field_run [] of name ts s = refl
field_run (m ∷ ms) of name ts s = ap (with_role other_token) (first_mark_run node.Member m ms (Id of ∷ (Id name ∷ (Semicolon ∷ ts))) (in_members s))

-- {field}
fields_run : (ds : List Declared) (ts : List Token) (s : State) → run (in_order spell_field ds ts) (in_members s) ≡ with_roles (in_order roles_field ds) (run ts (in_members (record s { fields = s.fields ++ map (value_field s.features) ds })))
fields_run [] ts s = ap (λ fs. run ts (in_members (record s { fields = fs }))) (sym (append-nil s.fields))
fields_run (d ∷ ds) ts s =
    field_run d.marks d.of d.name (in_order spell_field ds ts) s
    ∙ ap (with_roles (roles_field d)) (fields_run ds ts (with_a_field s d))
    ∙ ap (λ fs. with_roles (in_order roles_field (d ∷ ds)) (run ts (in_members (record s { fields = fs })))) (append_assoc s.fields (value_field s.features d ∷ []) (map (value_field s.features) ds))

-- the roles of a parameter, by what it belongs to
abbrev pub roles_param_of : Owner → Declared → List Role → List Role
roles_param_of owner.Constructor = roles_param
roles_param_of owner.Method = roles_method_param

-- a parameter with these marks behind a comma
param_run : (o : Owner) (ms : List Signed) (of name : List ℕ) (ts : List Token) (s : State) → run (spell_param (record { marks = ms; of = of; name = name }) ts) (after_param_comma o s) ≡ with_roles (roles_param_of o (record { marks = ms; of = of; name = name })) (run ts (after_param o (with_a_param s (record { marks = ms; of = of; name = name }))))
unfolding run_of
param_run owner.Constructor [] of name ts s = refl
param_run owner.Method [] of name ts s = refl
param_run owner.Constructor (m ∷ ms) of name ts s = ap (with_role other_token) (first_mark_run (node.Param owner.Constructor) m ms (Id of ∷ (Id name ∷ ts)) (after_param_comma owner.Constructor s))
param_run owner.Method (m ∷ ms) of name ts s = ap (with_role other_token) (first_mark_run (node.Param owner.Method) m ms (Id of ∷ (Id name ∷ ts)) (after_param_comma owner.Method s))

-- the first parameter is read as one behind a comma
first_param_run : (o : Owner) (ms : List Signed) (of name : List ℕ) (ts : List Token) (s : State) → run (spell_param (record { marks = ms; of = of; name = name }) ts) (in_params o s) ≡ run (spell_param (record { marks = ms; of = of; name = name }) ts) (after_param_comma o (record s { params = [] }))
unfolding run_of
first_param_run o [] of name ts s = refl
first_param_run o (m ∷ ms) of name ts s = refl

-- the parameters after the first, and the bracket
pub more_params_run : (o : Owner) (ds : List Declared) (ts : List Token) (s : State) → run (each_behind Comma spell_param ds (CloseParen ∷ ts)) (after_param o s) ≡ with_roles (λ rs. each_behind other_token (roles_param_of o) ds (other_token ∷ rs)) (run ts (after_params o (record s { params = s.params ++ numbered (value_param s.features) (length s.params) ds })))
unfolding run_of
more_params_run o [] ts s = ap (λ ps. with_role other_token (run ts (after_params o (record s { params = ps })))) (sym (append-nil s.params))
more_params_run o (d ∷ ds) ts s =
    ap (with_role other_token) (param_run o d.marks d.of d.name (each_behind Comma spell_param ds (CloseParen ∷ ts)) s)
    ∙ ap (with_roles (λ rs. other_token ∷ roles_param_of o d rs)) (more_params_run o ds ts (with_a_param s d))
    ∙ ap (λ ps. with_roles (λ rs. each_behind other_token (roles_param_of o) (d ∷ ds) (other_token ∷ rs)) (run ts (after_params o (record s { params = ps })))) (numbered_on (value_param s.features) s.params d ds)

-- list(param), and the bracket
pub params_run : (o : Owner) (ds : List Declared) (ts : List Token) (s : State) → run (separated Comma spell_param ds (CloseParen ∷ ts)) (in_params o s) ≡ with_roles (λ rs. separated other_token (roles_param_of o) ds (other_token ∷ rs)) (run ts (after_params o (record s { params = numbered (value_param s.features) 0 ds })))
unfolding run_of
params_run o [] ts s = refl
params_run o (d ∷ ds) ts s =
    first_param_run o d.marks d.of d.name (each_behind Comma spell_param ds (CloseParen ∷ ts)) s
    ∙ param_run o d.marks d.of d.name (each_behind Comma spell_param ds (CloseParen ∷ ts)) (record s { params = [] })
    ∙ ap (with_roles (roles_param_of o d)) (more_params_run o ds ts (record s { params = value_param s.features 0 d ∷ [] }))

-- a sent name with these marks behind a comma
sent_run : (ms : List Signed) (name : List ℕ) (ts : List Token) (s : State) → run (spell_sent (record { marks = ms; name = name }) ts) (after_send_comma s) ≡ with_roles (roles_sent (record { marks = ms; name = name })) (run ts (after_send (with_a_sent s (record { marks = ms; name = name }))))
unfolding run_of
sent_run [] name ts s = refl
sent_run (m ∷ ms) name ts s = ap (with_role other_token) (first_mark_run node.Send m ms (Id name ∷ ts) (after_send_comma s))

-- the first sent name is read as one behind a comma
first_sent_run : (ms : List Signed) (name : List ℕ) (ts : List Token) (s : State) → run (spell_sent (record { marks = ms; name = name }) ts) (in_sends s) ≡ run (spell_sent (record { marks = ms; name = name }) ts) (after_send_comma (record s { sends = [] }))
unfolding run_of
first_sent_run [] name ts s = refl
first_sent_run (m ∷ ms) name ts s = refl

-- the sent names after the first, and the bracket
pub more_sends_run : (ds : List Named) (ts : List Token) (s : State) → run (each_behind Comma spell_sent ds (CloseParen ∷ ts)) (after_send s) ≡ with_roles (λ rs. each_behind other_token roles_sent ds (other_token ∷ rs)) (run ts (after_sends (record s { sends = s.sends ++ numbered (value_sent s.features) (length s.sends) ds })))
unfolding run_of
more_sends_run [] ts s = ap (λ ps. with_role other_token (run ts (after_sends (record s { sends = ps })))) (sym (append-nil s.sends))
more_sends_run (d ∷ ds) ts s =
    ap (with_role other_token) (sent_run d.marks d.name (each_behind Comma spell_sent ds (CloseParen ∷ ts)) s)
    ∙ ap (with_roles (λ rs. other_token ∷ roles_sent d rs)) (more_sends_run ds ts (with_a_sent s d))
    ∙ ap (λ ps. with_roles (λ rs. each_behind other_token roles_sent (d ∷ ds) (other_token ∷ rs)) (run ts (after_sends (record s { sends = ps })))) (numbered_on (value_sent s.features) s.sends d ds)

-- list(sent), and the bracket
sends_run : (ds : List Named) (ts : List Token) (s : State) → run (separated Comma spell_sent ds (CloseParen ∷ ts)) (in_sends s) ≡ with_roles (λ rs. separated other_token roles_sent ds (other_token ∷ rs)) (run ts (after_sends (record s { sends = numbered (value_sent s.features) 0 ds })))
unfolding run_of
sends_run [] ts s = refl
sends_run (d ∷ ds) ts s =
    first_sent_run d.marks d.name (each_behind Comma spell_sent ds (CloseParen ∷ ts)) s
    ∙ sent_run d.marks d.name (each_behind Comma spell_sent ds (CloseParen ∷ ts)) (record s { sends = [] })
    ∙ ap (with_roles (roles_sent d)) (more_sends_run ds ts (record s { sends = value_sent s.features 0 d ∷ [] }))

-- an assignment's words behind the first, with the colours in hand
assign_words_run : (w : List ℕ) (ts : List Token) (s : State) → run (Dot ∷ (Id w ∷ (Equals ∷ (Id w ∷ (Semicolon ∷ ts))))) (record s { mode = AfterThis; last = unnamed }) ≡ with_roles (λ rs. other_token ∷ (assigned_name w ∷ (other_token ∷ (used_name w ∷ (other_token ∷ rs))))) (run ts (in_assigns (record s { assigns = s.assigns ++ record { slot = length s.assigns; colors = s.colors; name = w } ∷ [] })))
unfolding run_of
assign_words_run w ts s =
    let n : State = record s { mode = AfterSecondName; assigns = s.assigns ++ record { slot = length s.assigns; colors = s.colors; name = w } ∷ []; colors = no_colors; last = unnamed } in
    ap (λ b. with_roles (λ rs. other_token ∷ (assigned_name w ∷ (other_token ∷ rs))) (then_run (run (Semicolon ∷ ts)) (used_name w ∷ []) (if b then Some n else None))) (same_name w)

-- an assignment with these marks
assign_run : (ms : List Signed) (w : List ℕ) (ts : List Token) (s : State) → run (spell_assign (record { marks = ms; name = w }) ts) (in_assigns s) ≡ with_roles (roles_assign (record { marks = ms; name = w })) (run ts (in_assigns (with_an_assign s (record { marks = ms; name = w }))))
unfolding run_of
assign_run [] w ts s = ap (with_role other_token) (assign_words_run w ts (in_assigns s))
assign_run (m ∷ ms) w ts s =
    ap (with_role other_token) (first_mark_run node.Assign m ms (ThisWord ∷ (Dot ∷ (Id w ∷ (Equals ∷ (Id w ∷ (Semicolon ∷ ts)))))) (in_assigns s))
    ∙ ap (with_roles (λ rs. roles_marks (m ∷ ms) (other_token ∷ rs))) (assign_words_run w ts (record s { colors = colors_of s.features (m ∷ ms) }))

-- {assign}
pub assigns_run : (ds : List Named) (ts : List Token) (s : State) → run (in_order spell_assign ds ts) (in_assigns s) ≡ with_roles (in_order roles_assign ds) (run ts (in_assigns (record s { assigns = s.assigns ++ numbered (value_sent s.features) (length s.assigns) ds })))
assigns_run [] ts s = ap (λ ps. run ts (in_assigns (record s { assigns = ps }))) (sym (append-nil s.assigns))
assigns_run (d ∷ ds) ts s =
    assign_run d.marks d.name (in_order spell_assign ds ts) s
    ∙ ap (with_roles (roles_assign d)) (assigns_run ds ts (with_an_assign s d))
    ∙ ap (λ ps. with_roles (in_order roles_assign (d ∷ ds)) (run ts (in_assigns (record s { assigns = ps })))) (numbered_on (value_sent s.features) s.assigns d ds)

-- the states of a constructor: before its body, and behind it
abbrev pub before_body : ClassTree → State → State
before_body k s = record s { mode = AfterParams owner.Constructor; params = numbered (value_param s.features) 0 k.params; sends = []; assigns = []; colors = no_colors; of = unnamed; last = unnamed }

abbrev pub behind_ctor : ClassTree → State → State
behind_ctor k s = record s { mode = InMethods; params = []; sends = []; assigns = []; ctor = value_ctor s.features k; colors = no_colors; of = unnamed; last = unnamed }

-- the constructor from its body on
pub body_run : (k : ClassTree) (ts : List Token) (s : State) → run (OpenBrace ∷ (SuperWord ∷ (OpenParen ∷ separated Comma spell_sent k.sends (CloseParen ∷ (Semicolon ∷ in_order spell_assign k.assigns (CloseBrace ∷ ts)))))) (before_body k s) ≡ with_roles (λ rs. other_token ∷ (other_token ∷ (other_token ∷ separated other_token roles_sent k.sends (other_token ∷ (other_token ∷ in_order roles_assign k.assigns (other_token ∷ rs)))))) (run ts (behind_ctor k s))
unfolding run_of
body_run k ts s =
    ap (with_roles (λ rs. other_token ∷ (other_token ∷ (other_token ∷ rs)))) (sends_run k.sends (Semicolon ∷ in_order spell_assign k.assigns (CloseBrace ∷ ts)) (before_body k s))
    ∙ ap (with_roles (λ rs. other_token ∷ (other_token ∷ (other_token ∷ separated other_token roles_sent k.sends (other_token ∷ (other_token ∷ rs)))))) (assigns_run k.assigns (CloseBrace ∷ ts) (record (before_body k s) { sends = numbered (value_sent s.features) 0 k.sends }))

-- a class before its fields, with nothing in hand behind them
abbrev pub named : List ℕ → State → State
named w s = in_members (record s { name = w; params = []; sends = []; assigns = [] })

-- ctor, in a class of its name
ctor_run : (k : ClassTree) (ts : List Token) (s : State) → run (spell_ctor k ts) (named k.name s) ≡ with_roles (roles_ctor k) (run ts (behind_ctor k (record s { name = k.name })))
unfolding run_of
ctor_run k ts s =
    let body : List Token = OpenBrace ∷ (SuperWord ∷ (OpenParen ∷ separated Comma spell_sent k.sends (CloseParen ∷ (Semicolon ∷ in_order spell_assign k.assigns (CloseBrace ∷ ts))))) in
    let n : State = record s { mode = InParams owner.Constructor; name = k.name; params = []; sends = []; assigns = []; colors = no_colors; of = unnamed; last = unnamed } in
    ap (λ b. with_role (used_name k.name) (then_run (run (separated Comma spell_param k.params (CloseParen ∷ body))) (other_token ∷ []) (if b then Some n else None))) (same_name k.name)
    ∙ ap (with_roles (λ rs. used_name k.name ∷ (other_token ∷ rs))) (params_run owner.Constructor k.params body n)
    ∙ ap (with_roles (λ rs. used_name k.name ∷ (other_token ∷ separated other_token roles_param k.params (other_token ∷ rs)))) (body_run k ts (record s { name = k.name }))

-- {field} ctor
pub members_run : (ds : List Declared) (k : ClassTree) (ts : List Token) (s : State) → run (in_order spell_field ds (spell_ctor k ts)) (named k.name s) ≡ with_roles (λ rs. in_order roles_field ds (roles_ctor k rs)) (run ts (behind_ctor k (record s { name = k.name; fields = s.fields ++ map (value_field s.features) ds })))
members_run ds k ts s =
    fields_run ds (spell_ctor k ts) (named k.name s)
    ∙ ap (with_roles (in_order roles_field ds)) (ctor_run k ts (record s { fields = s.fields ++ map (value_field s.features) ds }))

-- ---- methods

-- between methods
abbrev pub in_methods : State → State
in_methods s = record s { mode = InMethods; params = []; method_colors = no_colors; result_type = unnamed; method = unnamed; expression = expression.start; colors = no_colors; of = unnamed }

-- one more method in hand
abbrev pub with_a_method : State → MethodTree → State
with_a_method s m = record s { methods = s.methods ++ value_method s.features m ∷ [] }

-- a method behind its name, and behind the type of its result
abbrev pub method_rest : MethodTree → List Token → List Token
method_rest m ts = separated Comma spell_param m.params (CloseParen ∷ (OpenBrace ∷ (ReturnWord ∷ spell_expr m.body (Semicolon ∷ (CloseBrace ∷ ts)))))

abbrev pub roles_method_rest : MethodTree → List Role → List Role
roles_method_rest m rs = separated other_token roles_method_param m.params (other_token ∷ (other_token ∷ (other_token ∷ roles_expr 0 m.body (other_token ∷ (other_token ∷ rs)))))

-- a method behind its head, with its colours in hand
abbrev pub behind_head : State → Sides → List ℕ → List ℕ → State
behind_head s colors result name = in_params owner.Method (record (in_methods s) { method_colors = colors; result_type = result; method = name })

pub method_rest_run : (m : MethodTree) (colors : Sides) (ts : List Token) (s : State) → run (method_rest m ts) (behind_head s colors m.result m.name) ≡ with_roles (roles_method_rest m) (run ts (in_methods (record s { methods = s.methods ++ record (value_method s.features m) { colors = colors } ∷ [] })))
unfolding run_of
method_rest_run m colors ts s =
    let n : State = record (in_methods s) { method_colors = colors; result_type = m.result; method = m.name } in
    params_run owner.Method m.params (OpenBrace ∷ (ReturnWord ∷ spell_expr m.body (Semicolon ∷ (CloseBrace ∷ ts)))) n
    ∙ ap (with_roles (λ rs. separated other_token roles_method_param m.params (other_token ∷ (other_token ∷ (other_token ∷ rs))))) (expression_tree_runs m.body (CloseBrace ∷ ts) (record n { params = numbered (value_param s.features) 0 m.params }))

-- a method's words behind the first, with its colours in hand
method_words_run : (m : MethodTree) (colors : Sides) (ts : List Token) (s : State) → run (Id m.name ∷ (OpenParen ∷ method_rest m ts)) (record (in_methods s) { mode = AfterResult; colors = colors; of = m.result }) ≡ with_roles (λ rs. method_name m.name ∷ (other_token ∷ roles_method_rest m rs)) (run ts (in_methods (record s { methods = s.methods ++ record (value_method s.features m) { colors = colors } ∷ [] })))
unfolding run_of
method_words_run m colors ts s = ap (with_roles (λ rs. method_name m.name ∷ (other_token ∷ rs))) (method_rest_run m colors ts s)

-- a method's marks and its first word
method_marks_run : (ms : List Signed) (w : List ℕ) (ts : List Token) (s : State) → run (spell_marks ms (Id w ∷ ts)) (in_methods s) ≡ with_roles (λ rs. roles_marks ms (used_name w ∷ rs)) (run ts (record (in_methods s) { mode = AfterResult; colors = colors_of s.features ms; of = w }))
unfolding run_of
method_marks_run [] w ts s = refl
method_marks_run (m ∷ ms) w ts s = ap (with_role other_token) (first_mark_run node.Method m ms (Id w ∷ ts) (in_methods s))

-- method
pub method_run : (m : MethodTree) (ts : List Token) (s : State) → run (spell_method m ts) (in_methods s) ≡ with_roles (roles_method m) (run ts (in_methods (with_a_method s m)))
method_run m ts s =
    method_marks_run m.marks m.result (Id m.name ∷ (OpenParen ∷ method_rest m ts)) s
    ∙ ap (with_roles (λ rs. roles_marks m.marks (used_name m.result ∷ rs))) (method_words_run m (colors_of s.features m.marks) ts s)

-- {method}
pub methods_run : (ms : List MethodTree) (ts : List Token) (s : State) → run (in_order spell_method ms ts) (in_methods s) ≡ with_roles (in_order roles_method ms) (run ts (in_methods (record s { methods = s.methods ++ map (value_method s.features) ms })))
methods_run [] ts s = ap (λ all. run ts (in_methods (record s { methods = all }))) (sym (append-nil s.methods))
methods_run (m ∷ ms) ts s =
    method_run m (in_order spell_method ms ts) s
    ∙ ap (with_roles (roles_method m)) (methods_run ms ts (with_a_method s m))
    ∙ ap (λ all. with_roles (in_order roles_method (m ∷ ms)) (run ts (in_methods (record s { methods = all })))) (append_assoc s.methods (value_method s.features m ∷ []) (map (value_method s.features) ms))

-- ---- classes

-- a class behind its first word, with its colours in hand
class_words_run : (k : ClassTree) (colors : Sides) (ts : List Token) (format : Format) (fs : List (List ℕ)) (gs : List Formula) (cs : List Class) → run (Id k.name ∷ (ExtendsWord ∷ (Id k.parent ∷ (OpenBrace ∷ in_order spell_field k.fields (spell_ctor k (in_order spell_method k.methods (CloseBrace ∷ ts))))))) (record (behind format fs gs cs) { mode = AfterClass; class_colors = colors }) ≡ with_roles (λ rs. class_name k.name ∷ (other_token ∷ (used_name k.parent ∷ (other_token ∷ in_order roles_field k.fields (roles_ctor k (in_order roles_method k.methods (other_token ∷ rs))))))) (run ts (behind format fs gs (cs ++ record (value_class fs k) { colors = colors } ∷ [])))
unfolding run_of
class_words_run k colors ts format fs gs cs =
    let n : State = record (behind format fs gs cs) { class_colors = colors; parent = k.parent } in
    ap (with_roles (λ rs. class_name k.name ∷ (other_token ∷ (used_name k.parent ∷ (other_token ∷ rs)))))
    (members_run k.fields k (in_order spell_method k.methods (CloseBrace ∷ ts)) n
    ∙ ap (with_roles (λ rs. in_order roles_field k.fields (roles_ctor k rs))) (methods_run k.methods (CloseBrace ∷ ts) (behind_ctor k (record n { name = k.name; fields = map (value_field fs) k.fields }))))

-- a class's marks and its first word
class_marks_run : (ms : List Signed) (ts : List Token) (format : Format) (fs : List (List ℕ)) (gs : List Formula) (cs : List Class) → run (spell_marks ms (ClassWord ∷ ts)) (behind format fs gs cs) ≡ with_roles (λ rs. roles_marks ms (other_token ∷ rs)) (run ts (record (behind format fs gs cs) { mode = AfterClass; class_colors = colors_of fs ms }))
unfolding run_of
class_marks_run [] ts format fs gs cs = refl
class_marks_run (m ∷ ms) ts format fs gs cs = ap (with_role other_token) (first_mark_run node.Class m ms (ClassWord ∷ ts) (behind format fs gs cs))

-- a class behind its marks
abbrev class_text : ClassTree → List Token → List Token
class_text k ts = Id k.name ∷ (ExtendsWord ∷ (Id k.parent ∷ (OpenBrace ∷ in_order spell_field k.fields (spell_ctor k (in_order spell_method k.methods (CloseBrace ∷ ts))))))

-- class
pub class_run : (k : ClassTree) (ts : List Token) (format : Format) (fs : List (List ℕ)) (gs : List Formula) (cs : List Class) → run (spell_class k ts) (behind format fs gs cs) ≡ with_roles (roles_class k) (run ts (behind format fs gs (cs ++ value_class fs k ∷ [])))
class_run k ts format fs gs cs =
    class_marks_run k.marks (class_text k ts) format fs gs cs
    ∙ ap (with_roles (λ rs. roles_marks k.marks (other_token ∷ rs))) (class_words_run k (colors_of fs k.marks) ts format fs gs cs)

-- {class}
classes_run_on : (ks : List ClassTree) (ts : List Token) (format : Format) (fs : List (List ℕ)) (gs : List Formula) (cs : List Class) → run (in_order spell_class ks ts) (behind format fs gs cs) ≡ with_roles (in_order roles_class ks) (run ts (behind format fs gs (cs ++ map (value_class fs) ks)))
classes_run_on [] ts format fs gs cs = ap (λ all. run ts (behind format fs gs all)) (sym (append-nil cs))
classes_run_on (k ∷ ks) ts format fs gs cs =
    class_run k (in_order spell_class ks ts) format fs gs cs
    ∙ ap (with_roles (roles_class k)) (classes_run_on ks ts format fs gs (cs ++ value_class fs k ∷ []))
    ∙ ap (λ all. with_roles (in_order roles_class (k ∷ ks)) (run ts (behind format fs gs all))) (append_assoc cs (value_class fs k ∷ []) (map (value_class fs) ks))

-- ---- the lines for the format and the features

-- before the first token, or behind the line for format Two
abbrev pub start_in : Format → State
start_in format = record (behind format [] [] []) { mode = Begin }

-- the words differ
is_no_format_word : (w : List ℕ) → bytes_eq w format_word ≡ false → (format : Format) (ts : List Token)
    → run (Id w ∷ ts) (start_in format) ≡ then_run (run ts) (used_name w ∷ []) (if bytes_eq w features_word then to AfterFeatures (start_in format) else opens_constraint (start_in format) w)
unfolding run_of
is_no_format_word w h format ts =
    ap (λ b. then_run (run ts) ((if b then format_line else used_name w) ∷ [])
    (if b && not (is_two format) then to AfterFormat (start_in format) else
    if bytes_eq w features_word then to AfterFeatures (start_in format) else opens_constraint (start_in format) w)) h

-- the line for format Two, where there is one
format_run : (format : Format) (ts : List Token) → run (spell_format format ts) start ≡ with_roles (roles_format format) (run ts (start_in format))
unfolding run_of
format_run One ts = refl
format_run Two ts =
    ap (λ b. then_run (run (Semicolon ∷ ts)) ((if b then format_line else used_name format_word) ∷ [])
    (if b && true then to AfterFormat start else
    if bytes_eq format_word features_word then to AfterFeatures start else opens_constraint start format_word)) (same_name format_word)

-- the features after the first, and the semicolon
more_features_run : (fs : List (List ℕ)) (ts : List Token) (s : State) → run (each_behind Comma spell_name fs (Semicolon ∷ ts)) (record s { mode = AfterFeature }) ≡ with_roles (λ rs. each_behind other_token roles_feature fs (other_token ∷ rs)) (run ts (record s { mode = Start; features = s.features ++ fs }))
unfolding run_of
more_features_run [] ts s = ap (λ fs. with_role other_token (run ts (record s { mode = Start; features = fs }))) (sym (append-nil s.features))
more_features_run (f ∷ fs) ts s =
    ap (with_roles (λ rs. other_token ∷ roles_feature f rs)) (more_features_run fs ts (record s { features = s.features ++ f ∷ [] }))
    ∙ ap (λ all. with_roles (λ rs. each_behind other_token roles_feature (f ∷ fs) (other_token ∷ rs)) (run ts (record s { mode = Start; features = all }))) (append_assoc s.features (f ∷ []) fs)

-- a line of features
features_run : (format : Format) (f : List ℕ) (fs : List (List ℕ)) (ts : List Token) → run (spell_features (f ∷ fs) ts) (start_in format) ≡ with_roles (roles_features (f ∷ fs)) (run ts (before_classes format (f ∷ fs) []))
unfolding run_of
features_run format f fs ts =
    is_no_format_word features_word refl format (Id f ∷ each_behind Comma spell_name fs (Semicolon ∷ ts))
    ∙ ap (λ b. then_run (run (Id f ∷ each_behind Comma spell_name fs (Semicolon ∷ ts))) (used_name features_word ∷ []) (if b then to AfterFeatures (start_in format) else opens_constraint (start_in format) features_word)) (same_name features_word)
    ∙ ap (with_roles (λ rs. used_name features_word ∷ roles_feature f rs)) (more_features_run fs ts (behind format (f ∷ []) [] []))

-- ---- constraints

-- a formula that isn't whole has no value
pub undone_none : (f : formula.State) → formula.is_done f ≡ false → formula.formula_of f ≡ None
undone_none f e = go f.mode e
  where
    go : (m : formula_mode.Mode) → formula.is_done_in m ≡ false → formula.formula_in m ≡ None
    go Want e = refl
    go (After y) e = refl
    go (Done y) e = absurd (let no : ⊥ = cc e in no)

-- the tokens of a formula and its semicolon are the formula reader's
pub formula_runs : (s : State) (us : List Token) (f : formula.State) (rs : List Role) (y : Formula) → Leads s.features us f rs y → (ts : List Token) → run (us ++ ts) (record s { mode = InConstraint; formula = f }) ≡ with_roles (λ qs. rs ++ qs) (run ts (record s { mode = Start; constraints = s.constraints ++ y ∷ []; formula = formula.start }))
unfolding run_of
formula_runs s _ f _ y (last _ _ e) ts = ap (λ o. then_run (run ts) (other_token ∷ []) (in_formula (record s { mode = InConstraint; formula = f }) o)) e
formula_runs s _ f _ y (more t us _ n rs _ e goes l) ts =
    ap (λ o. then_run (run (us ++ ts)) (formula.role f t ∷ []) (in_formula (record s { mode = InConstraint; formula = f }) o)) e
    ∙ ap (λ o. with_role (formula.role f t) (run (us ++ ts) (after_formula (record s { mode = InConstraint; formula = f }) n o))) (undone_none n goes)
    ∙ ap (with_role (formula.role f t)) (formula_runs s us n rs y l ts)

-- what follows a formula's tokens and its roles stands behind them
pub formula_text : (x : IffTree) (ts : List Token) → spell_iff x (Semicolon ∷ ts) ≡ spell_iff x (Semicolon ∷ []) ++ ts
formula_text x ts = sym (spell_iff_append x (Semicolon ∷ []) ts)

formula_roles : (x : IffTree) (qs : List Role) → roles_iff 0 x (other_token ∷ []) ++ qs ≡ roles_iff 0 x (other_token ∷ qs)
formula_roles x qs = roles_iff_append 0 x (other_token ∷ []) qs

-- a constraint behind its word
constraint_words_run : (x : IffTree) (ts : List Token) (format : Format) (fs : List (List ℕ)) (gs : List Formula) → run (spell_iff x (Semicolon ∷ ts)) (record (before_classes format fs gs) { mode = InConstraint }) ≡ with_roles (λ qs. roles_iff 0 x (other_token ∷ qs)) (run ts (before_classes format fs (gs ++ value_iff fs x ∷ [])))
constraint_words_run x ts format fs gs =
    ap (λ w. run w (record (before_classes format fs gs) { mode = InConstraint })) (formula_text x ts)
    ∙ formula_runs (before_classes format fs gs) (spell_iff x (Semicolon ∷ [])) formula.start (roles_iff 0 x (other_token ∷ [])) (value_iff fs x) (formula_leads fs x) ts
    ∙ ap (λ qs. ((run ts (before_classes format fs (gs ++ value_iff fs x ∷ []))).0, qs)) (formula_roles x (run ts (before_classes format fs (gs ++ value_iff fs x ∷ []))).1)

-- "constraint" iff ";"
constraint_run : (x : IffTree) (ts : List Token) (format : Format) (fs : List (List ℕ)) (gs : List Formula) → run (spell_constraint x ts) (before_classes format fs gs) ≡ with_roles (roles_constraint x) (run ts (before_classes format fs (gs ++ value_iff fs x ∷ [])))
unfolding run_of
constraint_run x ts format fs gs =
    ap (λ b. then_run (run (spell_iff x (Semicolon ∷ ts))) (used_name constraint_word ∷ []) (if b then to InConstraint (before_classes format fs gs) else None)) (same_name constraint_word)
    ∙ ap (with_role (used_name constraint_word)) (constraint_words_run x ts format fs gs)

-- the words differ
is_no_features_word : bytes_eq constraint_word features_word ≡ false
is_no_features_word = refl

-- Where no feature line stands, the first constraint is read as one behind such a line.
first_constraint_run : (format : Format) (x : IffTree) (ts : List Token) → run (spell_constraint x ts) (start_in format) ≡ run (spell_constraint x ts) (before_classes format [] [])
unfolding run_of
first_constraint_run format x ts =
    is_no_format_word constraint_word refl format (spell_iff x (Semicolon ∷ ts))
    ∙ ap (λ b. then_run (run (spell_iff x (Semicolon ∷ ts))) (used_name constraint_word ∷ []) (if b then to AfterFeatures (start_in format) else opens_constraint (start_in format) constraint_word)) is_no_features_word

-- {constraint}
constraints_run : (xs : List IffTree) (ts : List Token) (format : Format) (fs : List (List ℕ)) (gs : List Formula) → run (in_order spell_constraint xs ts) (before_classes format fs gs) ≡ with_roles (in_order roles_constraint xs) (run ts (before_classes format fs (gs ++ map (value_iff fs) xs)))
constraints_run [] ts format fs gs = ap (λ all. run ts (before_classes format fs all)) (sym (append-nil gs))
constraints_run (x ∷ xs) ts format fs gs =
    constraint_run x (in_order spell_constraint xs ts) format fs gs
    ∙ ap (with_roles (roles_constraint x)) (constraints_run xs ts format fs (gs ++ value_iff fs x ∷ []))
    ∙ ap (λ all. with_roles (in_order roles_constraint (x ∷ xs)) (run ts (before_classes format fs all))) (append_assoc gs (value_iff fs x ∷ []) (map (value_iff fs) xs))

-- ---- a tree

-- The first class is read as one behind others, with nothing before it or behind a line of the model.
begins_class : (format : Format) (ms : List Signed) (ts : List Token) → run (spell_marks ms (ClassWord ∷ ts)) (start_in format) ≡ run (spell_marks ms (ClassWord ∷ ts)) (behind format [] [] [])
unfolding run_of
begins_class format [] ts = refl
begins_class format (m ∷ ms) ts = refl

first_class_run : (ms : List Signed) (ts : List Token) (format : Format) (fs : List (List ℕ)) (gs : List Formula) → run (spell_marks ms (ClassWord ∷ ts)) (before_classes format fs gs) ≡ run (spell_marks ms (ClassWord ∷ ts)) (behind format fs gs [])
unfolding run_of
first_class_run [] ts format fs gs = refl
first_class_run (m ∷ ms) ts format fs gs = refl

-- the mode behind the features, the constraints and the classes
abbrev pub mode_behind : List (List ℕ) → List IffTree → List ClassTree → Mode
mode_behind [] [] [] = Begin
mode_behind (f ∷ fs) xs [] = Start
mode_behind [] (x ∷ xs) [] = Start
mode_behind fs xs (k ∷ ks) = BetweenClasses

-- the state behind them
abbrev pub behind_all : Format → List (List ℕ) → List IffTree → List ClassTree → State
behind_all format fs xs ks = record (behind format fs (map (value_iff fs) xs) (map (value_class fs) ks)) { mode = mode_behind fs xs ks }

-- the classes behind a feature line, and behind a constraint
behind_features : (format : Format) (f : List ℕ) (fs : List (List ℕ)) (xs : List IffTree) (ks : List ClassTree) (ts : List Token)
    → run (in_order spell_class ks ts) (before_classes format (f ∷ fs) (map (value_iff (f ∷ fs)) xs)) ≡ with_roles (in_order roles_class ks) (run ts (behind_all format (f ∷ fs) xs ks))
behind_features format f fs xs [] ts = refl
behind_features format f fs xs (k ∷ ks) ts =
    first_class_run k.marks (class_text k (in_order spell_class ks ts)) format (f ∷ fs) (map (value_iff (f ∷ fs)) xs)
    ∙ classes_run_on (k ∷ ks) ts format (f ∷ fs) (map (value_iff (f ∷ fs)) xs) []

behind_constraint : (format : Format) (x : IffTree) (xs : List IffTree) (ks : List ClassTree) (ts : List Token)
    → run (in_order spell_class ks ts) (before_classes format [] (map (value_iff []) (x ∷ xs))) ≡ with_roles (in_order roles_class ks) (run ts (behind_all format [] (x ∷ xs) ks))
behind_constraint format x xs [] ts = refl
behind_constraint format x xs (k ∷ ks) ts =
    first_class_run k.marks (class_text k (in_order spell_class ks ts)) format [] (map (value_iff []) (x ∷ xs))
    ∙ classes_run_on (k ∷ ks) ts format [] (map (value_iff []) (x ∷ xs)) []

-- a tree behind its format, and more
parts_run : (format : Format) (fs : List (List ℕ)) (xs : List IffTree) (ks : List ClassTree) (ts : List Token)
    → run (spell_features fs (in_order spell_constraint xs (in_order spell_class ks ts))) (start_in format)
    ≡ with_roles (λ rs. roles_features fs (in_order roles_constraint xs (in_order roles_class ks rs))) (run ts (behind_all format fs xs ks))
parts_run format [] [] [] ts = refl
parts_run format [] [] (k ∷ ks) ts = begins_class format k.marks (class_text k (in_order spell_class ks ts)) ∙ classes_run_on (k ∷ ks) ts format [] [] []
parts_run format [] (x ∷ xs) ks ts =
    first_constraint_run format x (in_order spell_constraint xs (in_order spell_class ks ts))
    ∙ constraints_run (x ∷ xs) (in_order spell_class ks ts) format [] []
    ∙ ap (with_roles (in_order roles_constraint (x ∷ xs))) (behind_constraint format x xs ks ts)
parts_run format (f ∷ fs) xs ks ts =
    features_run format f fs (in_order spell_constraint xs (in_order spell_class ks ts))
    ∙ ap (with_roles (roles_features (f ∷ fs))) (constraints_run xs (in_order spell_class ks ts) format (f ∷ fs) [])
    ∙ ap (with_roles (λ rs. roles_features (f ∷ fs) (in_order roles_constraint xs rs))) (behind_features format f fs xs ks ts)

tree_run : (x : Tree) (ts : List Token) → run (spell x ts) start ≡ with_roles (roles x) (run ts (behind_all x.format x.features x.constraints x.classes))
tree_run x ts =
    format_run x.format (spell_features x.features (in_order spell_constraint x.constraints (in_order spell_class x.classes ts)))
    ∙ ap (with_roles (roles_format x.format)) (parts_run x.format x.features x.constraints x.classes ts)

-- the tokens of a tree are read, in the tree's roles, to the tree's value
pub classes_run : (x : Tree) → run (spell x []) start ≡ (Some (behind_all x.format x.features x.constraints x.classes), roles x [])
unfolding run_of
classes_run x = tree_run x []

-- behind them the text may end
end_run : (format : Format) (fs : List (List ℕ)) (xs : List IffTree) (ks : List ClassTree) → run (End ∷ []) (behind_all format fs xs ks) ≡ (Some (record (behind_all format fs xs ks) { mode = AtEnd }), other_token ∷ [])
unfolding run_of
end_run format [] [] [] = refl
end_run format (f ∷ fs) xs [] = refl
end_run format [] (x ∷ xs) [] = refl
end_run format fs xs (k ∷ ks) = refl

-- the state behind a tree and the end of the text
abbrev pub ended : Tree → State
ended x = record (behind_all x.format x.features x.constraints x.classes) { mode = AtEnd }

-- and so is the whole text
pub text_runs : (x : Tree) → run (spell x (End ∷ [])) start ≡ (Some (ended x), roles x (other_token ∷ []))
text_runs x = tree_run x (End ∷ []) ∙ ap (with_roles (roles x)) (end_run x.format x.features x.constraints x.classes)
