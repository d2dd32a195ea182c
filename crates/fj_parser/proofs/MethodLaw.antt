-- The laws of the machine for single methods.
use Rattle.std.proofs.Common.{◌≡◌, ℕ, suc, Bool, true, false, List, [], ◌∷◌, ◌++◌, ◌+◌, length, Some, None, refl, sym, ◌∙◌, ap, subst, arith}
use Rattle.std.proofs.lemmas.Option.{none-some, same_Some}
use Rattle.cfj_model.specs.declared.feature_model.Format.{Format}
use Rattle.cfj_model.specs.declared.signed.Signed.{Signed}
use Rattle.cfj_model.specs.Coloring.{no_colors}
use Rattle.cfj_model.specs.declared.class.Method.{Method}
use Rattle.cfj_model.specs.declared.expr.Expr.TheVariants as expr
use Rattle.cfj_model.specs.ExpressionGrammar.{chain, variable, stop}
use Rattle.cfj_model.specs.Grammar.{MethodTree, spell_method, value_method}
use Rattle.cfj_model.specs.Marks.{spell_sign, spell_marks, roles_sign, roles_mark, roles_marks, marked, colored, colors_of}
use Rattle.cfj_model.specs.Roles.{Role, mark_name, method_name, used_name, other_token}
use Rattle.cfj_words.specs.Tokens.{Token, Id, CloseBrace, OpenParen, At, End}
use Rattle.cfj_model.specs.TreeRoles.{roles_method}
use Rattle.fj_parser.specs.declared.goal.Goal.TheVariants as goal
use Rattle.fj_machine.specs.declared.mode.Node.TheVariants as node
use Rattle.fj_machine.specs.declared.mode.Mode.{Mode}
use Rattle.fj_machine.specs.declared.mode.Mode.TheVariants.{AfterAt, AfterMark, InMethods, AtEnd}
use Rattle.fj_parser.specs.Goals.{none_yet, start_for, method_or_end, step_for, takes_name_for, reader_for}
use Rattle.cfj_model.specs.PartLanguages.{single_methods}
use Rattle.fj_parser.specs.Laws.{Closes, GoesByName, IsPlainLanguage, Reads}
use Rattle.fj_machine.specs.Machine.{unnamed, State, behind, step_in, emitted, pending, run}
use Rattle.fj_machine.specs.Readers.{Run, then_run, run_of}
use Rattle.fj_parser.proofs.Complete.{with_role, with_roles, method_rest, behind_head, method_run}
use Rattle.fj_parser.proofs.Law.{end_at_open, end_stops}
use Rattle.fj_parser.proofs.ListsSound.{is_whole, Accepts, never}
use Rattle.fj_parser.proofs.MethodRuns.{no_end_first, rest_read}
use Rattle.fj_parser.proofs.MethodsSound.{methods_text, Methods, methods_read}
use Rattle.fj_parser.proofs.Naming.{Kept, GoesIn, some_name, some_name_is, name_goes, name_stops}
use Rattle.fj_parser.proofs.SingleLaws.{first_state, Path, Position, alone, positioned, EndsBy, as_project, but_goes, IsPart, path_to_end, part_laws, part_stands, end_state}
use Rattle.fj_parser.proofs.SingleParts.{part_run, IsSameInside, Goes, on, aside, once_aside, AsideAtEnd}
use Rattle.fj_parser.proofs.Spelled.{method_before, method_roles_before, method_settled}
use Rattle.fj_parser.proofs.Standing.{Stands, each_once, is_declaring}

module _ (format : Format) (features : List (List ℕ)) where
  abbrev method_run_of : List Token → State → Run State
  method_run_of = part_run goal.Method format features unnamed

  abbrev begin : State
  begin = first_state goal.Method format features unnamed

  -- behind a method
  abbrev behind_method : MethodTree → State
  behind_method m = record begin { methods = value_method features m ∷ [] }

  method_grammar : IsPlainLanguage (single_methods format features)
  method_grammar = record { spells = method_before; gives = method_roles_before; settled = λ m. method_settled m [] refl }

  -- ---- the text of a method is read

  same_inside : IsSameInside goal.Method format features unnamed
  same_inside InMethods s t e = never e
  same_inside _ s t e = refl

  -- one mark behind its `@`
  mark_read : (off : Bool) (w : List ℕ) (ts : List Token) (s : State) → method_run_of (spell_sign off (Id w ∷ ts)) (record s { mode = AfterAt node.Method false })
      ≡ with_roles (λ rs. roles_sign off (mark_name w ∷ rs)) (method_run_of ts (record s { mode = AfterMark node.Method; colors = marked s.features s.colors (record { off = off; name = w }) }))
  unfolding run_of
  mark_read false w ts s = refl
  mark_read true w ts s = refl

  marks_read : (ms : List Signed) (ts : List Token) (s : State) → method_run_of (spell_marks ms ts) (record s { mode = AfterMark node.Method }) ≡ with_roles (roles_marks ms) (method_run_of ts (record s { mode = AfterMark node.Method; colors = colored s.features s.colors ms }))
  unfolding run_of
  marks_read [] ts s = refl
  marks_read (m ∷ ms) ts s = ap (with_role other_token) (mark_read m.off m.name (spell_marks ms ts) s) ∙ ap (with_roles (roles_mark m)) (marks_read ms ts (record s { colors = marked s.features s.colors m }))

  -- its head
  head_read : (ms : List Signed) (result name : List ℕ) (ts : List Token) → method_run_of (spell_marks ms (Id result ∷ (Id name ∷ (OpenParen ∷ ts)))) begin ≡ with_roles (λ rs. roles_marks ms (used_name result ∷ (method_name name ∷ (other_token ∷ rs)))) (method_run_of ts (behind_head begin (colors_of features ms) result name))
  unfolding run_of
  head_read [] result name ts = refl
  head_read (m ∷ ms) result name ts = ap (with_role other_token) (mark_read m.off m.name (spell_marks ms (Id result ∷ (Id name ∷ (OpenParen ∷ ts)))) begin) ∙ ap (with_roles (roles_mark m)) (marks_read ms (Id result ∷ (Id name ∷ (OpenParen ∷ ts))) (record begin { colors = marked features no_colors m }))

  method_read : (m : MethodTree) (ts : List Token) → method_run_of (spell_method m ts) begin ≡ with_roles (roles_method m) (method_run_of ts (behind_method m))
  method_read m ts =
      head_read m.marks m.result m.name (method_rest m ts)
      ∙ ap (with_roles (λ rs. roles_marks m.marks (used_name m.result ∷ (method_name m.name ∷ (other_token ∷ rs))))) (rest_read goal.Method format features unnamed same_inside m (colors_of features m.marks) ts begin)

  -- the machine for projects reads it too
  method_in_project : (m : MethodTree) → run (spell_method m []) begin ≡ (Some (behind_method m), roles_method m [])
  unfolding run_of
  method_in_project m = method_run m [] (behind format features [] [])

  -- ---- its steps

  abbrev MethodGoes : State → Token → State → Type 0
  MethodGoes = Goes goal.Method format features unnamed AsideAtEnd

  abbrev MethodEnds : State → Type 0
  MethodEnds = EndsBy goal.Method format features unnamed (single_methods format features)

  -- each is one of the machine for projects, or takes the end
  steps : (s n : State) (t : Token) → step_for goal.Method s.mode s t ≡ Some n → MethodGoes s t n
  steps s n t h = by s.mode refl t h
    where
      between : (ms : List Method) → s.mode ≡ InMethods → (t : Token) → method_or_end ms s t ≡ Some n → MethodGoes s t n
      between [] here At h = on (ap (λ m. step_in m s At) here ∙ h)
      between [] here (Id w) h = on (ap (λ m. step_in m s (Id w)) here ∙ h)
      between [] here _ h = absurd (let no : ⊥ = cc h in no)
      between (m ∷ ms) here End h = aside (refl, ap (λ x. x.mode) (sym (same_Some (record s { mode = AtEnd }) n h)), ap is_declaring here)
      between (m ∷ ms) here _ h = absurd (let no : ⊥ = cc h in no)

      by : (m : Mode) → s.mode ≡ m → (t : Token) → step_for goal.Method m s t ≡ Some n → MethodGoes s t n
      by InMethods here t h = between s.methods here t h
      by m here t h = on (ap (λ k. step_in k s t) here ∙ h)

  -- behind a method only the end follows
  only_end : (m : MethodTree) (n : State) (t : Token) → step_for goal.Method (behind_method m).mode (behind_method m) t ≡ Some n → t ≡ End
  only_end m n End h = refl
  only_end m n _ h = absurd (let no : ⊥ = cc h in no)

  -- where the end is taken aside a method was read, and the machine for projects ends the class
  ends_by : (s n : State) → step_for goal.Method s.mode s End ≡ Some n → MethodEnds s
  unfolding run_of
  ends_by s n h = by s.mode refl h
    where
      project : step_in s.mode s End ≡ Some n → MethodEnds s
      project h = as_project (end_stops s.mode (end_at_open s.mode s n h))

      between : (ms : List Method) → s.methods ≡ ms → s.mode ≡ InMethods → method_or_end ms s End ≡ Some n → MethodEnds s
      between [] are here h = absurd (let no : ⊥ = cc h in no)
      between (m ∷ ms) are here h =
          let stops : Accepts (CloseBrace ∷ []) s = ap (λ k. is_whole (then_run (run []) (emitted s CloseBrace) (step_in k s CloseBrace)).0) here in
          let refused : step_for goal.Method s.mode s CloseBrace ≡ None = ap (λ k. step_for goal.Method k s CloseBrace) here ∙ ap (λ ms. method_or_end ms s CloseBrace) are in
          but_goes CloseBrace [] stops refused

      by : (m : Mode) → s.mode ≡ m → step_for goal.Method m s End ≡ Some n → MethodEnds s
      by InMethods here h = between s.methods refl here h
      by m here h = project (ap (λ k. step_in k s End) here ∙ h)

  -- each token is settled or waits
  once : (s n : State) (t : Token) (rs : List Role) → Stands s rs → step_for goal.Method s.mode s t ≡ Some n → length (emitted s t) + length (pending n) ≡ suc (length (pending s))
  once s n t rs k h = by (steps s n t h)
    where
      by : MethodGoes s t n → length (emitted s t) + length (pending n) ≡ suc (length (pending s))
      by (on e) = each_once s n t rs k e
      by (aside a) = once_aside s n t a.2 (ap is_declaring a.1)

  -- ---- what was read begins a method

  -- the text of a method that begins with its type
  closes_start : Closes (single_methods format features) [] [] []
  closes_start = record { tree = record { marks = []; result = []; name = []; params = []; body = chain (variable []) stop }; more = _; others = _; text = refl; in_roles = refl }

  abbrev MethodPosition : List Token → List Token → State → List Role → Type 0
  MethodPosition = Position goal.Method format features unnamed (single_methods format features) behind_method

  position : (front more : List Token) (s : State) (rs : List Role) → method_run_of front begin ≡ (Some s, rs) → run front begin ≡ (Some s, rs) → Accepts (front ++ more) begin → MethodPosition front more s rs
  unfolding run_of
  position front more s rs h ran accepts = by (methods_read (suc (length (front ++ more))) (front ++ more) (omega arith) (behind format features [] []) accepts)
    where
      -- no method: nothing was read
      of_brace : (us : List Token) (x : State) (qs : List Role) (rest : List Token) → method_run_of us begin ≡ (Some x, qs) → us ++ more ≡ CloseBrace ∷ rest → MethodPosition us more x qs
      of_brace [] x qs rest k e =
          let same : begin ≡ x = same_Some begin x (ap (λ (p : Run State). p.0) k) in
          let none : [] ≡ qs = ap (λ (p : Run State). p.1) k in
          subst (λ y. MethodPosition [] more y qs) same (subst (λ q. MethodPosition [] more begin q) none (alone closes_start refl))
      of_brace (t ∷ us) x qs rest k e =
          let is : t ≡ CloseBrace = cc e in
          absurd (none-some x (ap (λ (p : Run State). p.0) (ap (λ v. method_run_of (v ∷ us) begin) (sym is) ∙ k)))

      of_methods : (ms : List MethodTree) (rest : List Token) → front ++ more ≡ methods_text ms rest → MethodPosition front more s rs
      of_methods [] rest e = of_brace front s rs rest h e
      of_methods (m ∷ ms) rest e = positioned goal.Method format features unnamed (single_methods format features) behind_method method_grammar method_read only_end front more (methods_text ms rest) s rs m (method_in_project m) h e (no_end_first ms rest)

      by : Methods (front ++ more) (behind format features [] []) → MethodPosition front more s rs
      by r = of_methods r.part r.rest r.spelled

  -- ---- names

  named : (s : State) → Kept s.mode s → takes_name_for goal.Method s.mode s ≡ true → GoesByName (reader_for goal.Method format features unnamed) s
  named s k e = by s.mode refl k e
    where
      going : (m : Mode) → s.mode ≡ m → (i : GoesIn m s) → step_for goal.Method m s (Id i.name) ≡ step_in m s (Id i.name) → GoesByName (reader_for goal.Method format features unnamed) s
      going m here i same = record { name = i.name; next = i.next; is = i.is; goes = ap (λ k. step_for goal.Method k s (Id i.name)) here ∙ same ∙ i.goes }

      between : (ms : List Method) → s.methods ≡ ms → s.mode ≡ InMethods → none_yet ms ≡ true → GoesByName (reader_for goal.Method format features unnamed) s
      between [] are here e = record { name = some_name; next = _; is = some_name_is; goes = ap (λ m. step_for goal.Method m s (Id some_name)) here ∙ ap (λ ms. method_or_end ms s (Id some_name)) are }
      between (m ∷ ms) are here e = never e

      by : (m : Mode) → s.mode ≡ m → Kept m s → takes_name_for goal.Method m s ≡ true → GoesByName (reader_for goal.Method format features unnamed) s
      by InMethods here k e = between s.methods refl here e
      by m here k e = going m here (name_goes m s k e) refl

  unnamed_stops : (s : State) (w : List ℕ) → takes_name_for goal.Method s.mode s ≡ false → step_for goal.Method s.mode s (Id w) ≡ None
  unnamed_stops s w e = by s.mode e
    where
      between : (ms : List Method) → none_yet ms ≡ false → method_or_end ms s (Id w) ≡ None
      between [] e = never (sym e)
      between (m ∷ ms) e = refl

      by : (m : Mode) → takes_name_for goal.Method m s ≡ false → step_for goal.Method m s (Id w) ≡ None
      by InMethods e = between s.methods e
      by m e = name_stops m s w e

  -- ---- all laws together

  -- the method that is read; a dummy where there is none
  abbrev method_of : List Method → Method
  method_of [] = record { alt = 0; colors = no_colors; result = unnamed; name = unnamed; params = []; body = expr.Var 0 unnamed }
  method_of (m ∷ ms) = m

  method_part : IsPart goal.Method format features unnamed (single_methods format features)
  method_part =
      record {
        grammar = method_grammar;
        done = behind_method;
        stands_for = λ s. method_of s.methods;
        valued = λ m. refl;
        begins = record { formula_goes = refl; holds = record { settled = refl; none = refl } };
        kept = tt;
        read = method_read;
        in_expression = λ s t. refl;
        only_end = only_end;
        ends = λ m. refl;
        gives = λ m. refl;
        waits = λ m. refl;
        takes = λ m. refl;
        stops = λ s t. refl;
        free = λ s. refl;
        position = position;
        ending = ends_by;
        once = once;
        named = named;
        unnamed = unnamed_stops;
      }

  method_path : (front : List Token) (s : State) (rs : List Role) → method_run_of front begin ≡ (Some s, rs) → Path goal.Method format features unnamed (single_methods format features) front s rs
  method_path = path_to_end goal.Method format features unnamed (single_methods format features) method_part steps

  -- the machine reads the texts of methods
  pub method_laws : Reads (single_methods format features) (reader_for goal.Method format features unnamed)
  method_laws = part_laws goal.Method format features unnamed (single_methods format features) method_part method_path refl

  -- behind the end the part is the one method that was read
  pub method_stands : (ts : List Token) (s n : State) (rs : List Role) → run_of (reader_for goal.Method format features unnamed) ts (start_for goal.Method format features unnamed) ≡ (Some s, rs) → step_for goal.Method s.mode s End ≡ Some n → (m : Method) × (n.methods ≡ m ∷ []) × (method_laws.stands_for n ≡ m)
  unfolding method_laws method_part
  method_stands ts s n rs h goes =
      let e = end_state goal.Method format features unnamed (single_methods format features) method_part method_path ts s n rs h goes in
      let methods : n.methods ≡ value_method features e.0 ∷ [] = ap (λ x. x.methods) e.1 in
      let stands : method_laws.stands_for n ≡ method_of n.methods = part_stands goal.Method format features unnamed (single_methods format features) method_part method_path refl n in
      (value_method features e.0, methods, stands ∙ ap method_of methods)
