-- The laws of the machine for single members: fields and methods.
use Rattle.std.proofs.Common.{◌≡◌, ℕ, suc, Bool, true, false, ◌&&◌, List, [], ◌∷◌, ◌++◌, ◌+◌, length, Some, None, refl, sym, ◌∙◌, ap, subst, arith}
use Rattle.std.proofs.lemmas.Option.{none-some, same_Some}
use Rattle.cfj_model.specs.declared.feature_model.Format.{Format}
use Rattle.cfj_model.specs.declared.signed.Signed.{Signed}
use Rattle.cfj_model.specs.Coloring.{no_colors}
use Rattle.cfj_model.specs.declared.class.Field.{Field}
use Rattle.cfj_model.specs.declared.class.Method.{Method}
use Rattle.cfj_model.specs.declared.member.Member.{Member}
use Rattle.cfj_model.specs.declared.member.Member.TheVariants as member
use Rattle.cfj_model.specs.ExpressionGrammar.{chain, variable, stop}
use Rattle.cfj_model.specs.Grammar.{Declared, MethodTree, spell_field, spell_method, value_field, value_method}
use Rattle.cfj_model.specs.Marks.{spell_sign, spell_marks, roles_marks, colors_of}
use Rattle.cfj_model.specs.Roles.{Role, method_name, used_name, other_token, are_settled}
use Rattle.cfj_words.specs.Tokens.{Token, Id, CloseBrace, OpenParen, Semicolon, At, End}
use Rattle.cfj_model.specs.TreeRoles.{roles_method}
use Rattle.fj_parser.specs.declared.goal.Goal.TheVariants as goal
use Rattle.fj_machine.specs.declared.mode.Mode.{Mode}
use Rattle.fj_machine.specs.declared.mode.Mode.TheVariants.{InMethods, AfterMethodName, AtEnd}
use Rattle.fj_parser.specs.Goals.{none_yet, start_for, method_or_end, member_or_end, step_for, takes_name_for, reader_for}
use Rattle.cfj_model.specs.PartLanguages.{MemberTree, a_field, a_method, spell_member, roles_member, single_members}
use Rattle.fj_parser.specs.Laws.{Closes, GoesByName, IsPlainLanguage, Reads}
use Rattle.fj_machine.specs.Machine.{unnamed, State, behind, step_in, emitted, pending, run, with_single_field}
use Rattle.fj_machine.specs.Readers.{Run, then_run, run_of}
use Rattle.fj_parser.proofs.Complete.{with_roles, method_rest, method_run}
use Rattle.fj_parser.proofs.Law.{end_at_open, end_stops}
use Rattle.fj_parser.proofs.ListsSound.{is_whole, Accepts, never}
use Rattle.fj_parser.proofs.MemberHeads.{member_run_of, begin, head_read, Head, head_of}
use Rattle.fj_parser.proofs.MethodRuns.{no_end_first, rest_read}
use Rattle.fj_parser.proofs.MethodsSound.{methods_text, Methods, methods_read}
use Rattle.fj_parser.proofs.Naming.{Kept, GoesIn, some_name, some_name_is, name_goes, name_stops}
use Rattle.fj_parser.proofs.SingleLaws.{Path, inside, Position, alone, positioned, EndsBy, as_project, but_goes, IsPart, ended_path, behind_path, part_laws, part_stands, end_state}
use Rattle.fj_parser.proofs.SingleParts.{IsSameInside, Strays, along, off, strays, Goes, on, aside, once_aside, AsideAtEnd}
use Rattle.fj_parser.proofs.Spelled.{field_before, method_before, mark_roles_before, method_roles_before, marks_settled, method_settled}
use Rattle.fj_parser.proofs.Standing.{Stands, each_once, is_declaring}

-- ---- the grammar

member_before : (x : MemberTree) (a b : List Token) → spell_member x (a ++ b) ≡ spell_member x a ++ b
member_before (a_field d) a b = field_before d a b
member_before (a_method m) a b = method_before m a b

member_roles_before : (x : MemberTree) (a b : List Role) → roles_member x (a ++ b) ≡ roles_member x a ++ b
member_roles_before (a_field d) a b = mark_roles_before d.marks (used_name d.of ∷ (method_name d.name ∷ (other_token ∷ a))) b
member_roles_before (a_method m) a b = method_roles_before m a b

member_settled : (x : MemberTree) → are_settled (roles_member x []) ≡ true
member_settled (a_field d) = marks_settled d.marks (used_name d.of ∷ (method_name d.name ∷ (other_token ∷ []))) refl
member_settled (a_method m) = method_settled m [] refl

-- the end is taken aside, and so is the semicolon behind a field's name
data IsAside (s : State) (t : Token) (n : State) : Type 0 where
  the_end : AsideAtEnd s t n → IsAside s t n
  of_field : t ≡ Semicolon → s.mode ≡ AfterMethodName → n ≡ with_single_field s → IsAside s t n

-- the member that is read; a dummy where there is none
abbrev member_in : List Field → List Method → Member
member_in (f ∷ fs) ms = member.Field f
member_in [] (m ∷ ms) = member.Method m
member_in [] [] = member.Field (record { alt = 0; colors = no_colors; of = unnamed; name = unnamed })

module _ (format : Format) (features : List (List ℕ)) where
  member_grammar : IsPlainLanguage (single_members format features)
  member_grammar = record { spells = member_before; gives = member_roles_before; settled = member_settled }

  -- behind a member
  abbrev behind_member : MemberTree → State
  behind_member (a_field d) = record (begin format features) { fields = value_field features d ∷ [] }
  behind_member (a_method m) = record (begin format features) { methods = value_method features m ∷ [] }

  -- ---- the text of a member is read

  same_inside : IsSameInside goal.Member format features unnamed
  same_inside InMethods s t e = never e
  same_inside AfterMethodName s t e = never e
  same_inside _ s t e = refl

  member_read : (x : MemberTree) (ts : List Token) → member_run_of format features (spell_member x ts) (begin format features) ≡ with_roles (roles_member x) (member_run_of format features ts (behind_member x))
  unfolding run_of
  member_read (a_field d) ts = head_read format features d.marks d.of d.name (Semicolon ∷ ts)
  member_read (a_method m) ts =
      head_read format features m.marks m.result m.name (OpenParen ∷ method_rest m ts)
      ∙ ap (with_roles (λ rs. roles_marks m.marks (used_name m.result ∷ (method_name m.name ∷ (other_token ∷ rs))))) (rest_read goal.Member format features unnamed same_inside m (colors_of features m.marks) ts (begin format features))

  -- the machine for projects reads a method too
  method_in_project : (m : MethodTree) → run (spell_method m []) (begin format features) ≡ (Some (behind_member (a_method m)), roles_method m [])
  unfolding run_of
  method_in_project m = method_run m [] (behind format features [] [])

  -- ---- its steps

  abbrev MemberGoes : State → Token → State → Type 0
  MemberGoes = Goes goal.Member format features unnamed IsAside

  abbrev MemberEnds : State → Type 0
  MemberEnds = EndsBy goal.Member format features unnamed (single_members format features)

  -- each is one of the machine for projects, or takes the end, or that semicolon
  steps : (s n : State) (t : Token) → step_for goal.Member s.mode s t ≡ Some n → MemberGoes s t n
  steps s n t h = by s.mode refl t h
    where
      ending : s.mode ≡ InMethods → Some (record s { mode = AtEnd }) ≡ Some n → AsideAtEnd s End n
      ending here h = (refl, ap (λ x. x.mode) (sym (same_Some (record s { mode = AtEnd }) n h)), ap is_declaring here)

      between : (fs : List Field) (ms : List Method) → s.mode ≡ InMethods → (t : Token) → member_or_end fs ms s t ≡ Some n → MemberGoes s t n
      between [] [] here At h = on (ap (λ m. step_in m s At) here ∙ h)
      between [] [] here (Id w) h = on (ap (λ m. step_in m s (Id w)) here ∙ h)
      between [] [] here _ h = absurd (let no : ⊥ = cc h in no)
      between [] (m ∷ ms) here End h = aside (the_end (ending here h))
      between [] (m ∷ ms) here _ h = absurd (let no : ⊥ = cc h in no)
      between (f ∷ fs) ms here End h = aside (the_end (ending here h))
      between (f ∷ fs) ms here _ h = absurd (let no : ⊥ = cc h in no)

      by : (m : Mode) → s.mode ≡ m → (t : Token) → step_for goal.Member m s t ≡ Some n → MemberGoes s t n
      by InMethods here t h = between s.fields s.methods here t h
      by AfterMethodName here Semicolon h = aside (of_field refl here (sym (same_Some (with_single_field s) n h)))
      by AfterMethodName here t h = on (ap (λ k. step_in k s t) here ∙ h)
      by m here t h = on (ap (λ k. step_in k s t) here ∙ h)

  -- behind a member only the end follows
  only_end : (x : MemberTree) (n : State) (t : Token) → step_for goal.Member (behind_member x).mode (behind_member x) t ≡ Some n → t ≡ End
  only_end x n End h = refl
  only_end (a_field d) n _ h = absurd (let no : ⊥ = cc h in no)
  only_end (a_method m) n _ h = absurd (let no : ⊥ = cc h in no)

  -- where the end is taken aside a member was read, and the machine for projects ends the class
  ends_by : (s n : State) → step_for goal.Member s.mode s End ≡ Some n → MemberEnds s
  unfolding run_of
  ends_by s n h = by s.mode refl h
    where
      project : step_in s.mode s End ≡ Some n → MemberEnds s
      project h = as_project (end_stops s.mode (end_at_open s.mode s n h))

      brace : s.mode ≡ InMethods → member_or_end s.fields s.methods s CloseBrace ≡ None → MemberEnds s
      brace here none =
          let stops : Accepts (CloseBrace ∷ []) s = ap (λ k. is_whole (then_run (run []) (emitted s CloseBrace) (step_in k s CloseBrace)).0) here in
          but_goes CloseBrace [] stops (ap (λ k. step_for goal.Member k s CloseBrace) here ∙ none)

      between : (fs : List Field) (ms : List Method) → s.fields ≡ fs → s.methods ≡ ms → s.mode ≡ InMethods → member_or_end fs ms s End ≡ Some n → MemberEnds s
      between [] [] fields methods here h = absurd (let no : ⊥ = cc h in no)
      between [] (m ∷ ms) fields methods here h = brace here (ap (λ fs. member_or_end fs s.methods s CloseBrace) fields ∙ ap (λ ms. method_or_end ms s CloseBrace) methods)
      between (f ∷ fs) ms fields methods here h = brace here (ap (λ fs. member_or_end fs s.methods s CloseBrace) fields)

      by : (m : Mode) → s.mode ≡ m → step_for goal.Member m s End ≡ Some n → MemberEnds s
      by InMethods here h = between s.fields s.methods refl refl here h
      by AfterMethodName here h = absurd (let no : ⊥ = cc h in no)
      by m here h = project (ap (λ k. step_in k s End) here ∙ h)

  -- each token is settled or waits
  once : (s n : State) (t : Token) (rs : List Role) → Stands s rs → step_for goal.Member s.mode s t ≡ Some n → length (emitted s t) + length (pending n) ≡ suc (length (pending s))
  once s n t rs k h = by (steps s n t h)
    where
      of_aside : IsAside s t n → length (emitted s t) + length (pending n) ≡ suc (length (pending s))
      of_aside (the_end a) = once_aside s n t a.2 (ap is_declaring a.1)
      of_aside (of_field is here next) = once_aside s n t (ap is_declaring here) (ap (λ x. is_declaring x.mode) next)

      by : MemberGoes s t n → length (emitted s t) + length (pending n) ≡ suc (length (pending s))
      by (on e) = each_once s n t rs k e
      by (aside a) = of_aside a

  -- ---- what was read begins a member

  -- the text of a method that begins with its type
  closes_start : Closes (single_members format features) [] [] []
  closes_start = record { tree = a_method (record { marks = []; result = []; name = []; params = []; body = chain (variable []) stop }); more = _; others = _; text = refl; in_roles = refl }

  abbrev MemberPosition : List Token → List Token → State → List Role → Type 0
  MemberPosition = Position goal.Member format features unnamed (single_members format features) behind_member

  position : (front more : List Token) (s : State) (rs : List Role) → member_run_of format features front (begin format features) ≡ (Some s, rs) → run front (begin format features) ≡ (Some s, rs) → Accepts (front ++ more) (begin format features) → MemberPosition front more s rs
  unfolding run_of
  position front more s rs h ran accepts = by (methods_read (suc (length (front ++ more))) (front ++ more) (omega arith) (behind format features [] []) accepts)
    where
      -- no method: nothing was read
      of_brace : (us : List Token) (x : State) (qs : List Role) (rest : List Token) → member_run_of format features us (begin format features) ≡ (Some x, qs) → us ++ more ≡ CloseBrace ∷ rest → MemberPosition us more x qs
      of_brace [] x qs rest k e =
          let same : begin format features ≡ x = same_Some (begin format features) x (ap (λ (p : Run State). p.0) k) in
          let none : [] ≡ qs = ap (λ (p : Run State). p.1) k in
          subst (λ y. MemberPosition [] more y qs) same (subst (λ q. MemberPosition [] more (begin format features) q) none (alone closes_start refl))
      of_brace (t ∷ us) x qs rest k e =
          let is : t ≡ CloseBrace = cc e in
          absurd (none-some x (ap (λ (p : Run State). p.0) (ap (λ v. member_run_of format features (v ∷ us) (begin format features)) (sym is) ∙ k)))

      of_methods : (ms : List MethodTree) (rest : List Token) → front ++ more ≡ methods_text ms rest → MemberPosition front more s rs
      of_methods [] rest e = of_brace front s rs rest h e
      of_methods (m ∷ ms) rest e = positioned goal.Member format features unnamed (single_members format features) behind_member member_grammar member_read only_end front more (methods_text ms rest) s rs (a_method m) (method_in_project m) h e (no_end_first ms rest)

      by : Methods (front ++ more) (behind format features [] []) → MemberPosition front more s rs
      by r = of_methods r.part r.rest r.spelled

  -- ---- names

  named : (s : State) → Kept s.mode s → takes_name_for goal.Member s.mode s ≡ true → GoesByName (reader_for goal.Member format features unnamed) s
  named s k e = by s.mode refl k e
    where
      going : (m : Mode) → s.mode ≡ m → (i : GoesIn m s) → step_for goal.Member m s (Id i.name) ≡ step_in m s (Id i.name) → GoesByName (reader_for goal.Member format features unnamed) s
      going m here i same = record { name = i.name; next = i.next; is = i.is; goes = ap (λ k. step_for goal.Member k s (Id i.name)) here ∙ same ∙ i.goes }

      between : (fs : List Field) (ms : List Method) → s.fields ≡ fs → s.methods ≡ ms → s.mode ≡ InMethods → (none_yet fs && none_yet ms) ≡ true → GoesByName (reader_for goal.Member format features unnamed) s
      between [] [] fields methods here e =
          record {
            name = some_name;
            next = _;
            is = some_name_is;
            goes = ap (λ m. step_for goal.Member m s (Id some_name)) here ∙ ap (λ fs. member_or_end fs s.methods s (Id some_name)) fields ∙ ap (λ ms. method_or_end ms s (Id some_name)) methods;
          }
      between [] (m ∷ ms) fields methods here e = never e
      between (f ∷ fs) ms fields methods here e = never e

      by : (m : Mode) → s.mode ≡ m → Kept m s → takes_name_for goal.Member m s ≡ true → GoesByName (reader_for goal.Member format features unnamed) s
      by InMethods here k e = between s.fields s.methods refl refl here e
      by m here k e = going m here (name_goes m s k e) refl

  unnamed_stops : (s : State) (w : List ℕ) → takes_name_for goal.Member s.mode s ≡ false → step_for goal.Member s.mode s (Id w) ≡ None
  unnamed_stops s w e = by s.mode e
    where
      between : (fs : List Field) (ms : List Method) → (none_yet fs && none_yet ms) ≡ false → member_or_end fs ms s (Id w) ≡ None
      between [] [] e = never (sym e)
      between [] (m ∷ ms) e = refl
      between (f ∷ fs) ms e = refl

      by : (m : Mode) → takes_name_for goal.Member m s ≡ false → step_for goal.Member m s (Id w) ≡ None
      by InMethods e = between s.fields s.methods e
      by m e = name_stops m s w e

  -- ---- all laws together

  ends : (x : MemberTree) → step_for goal.Member (behind_member x).mode (behind_member x) End ≡ Some (record (behind_member x) { mode = AtEnd })
  ends (a_field d) = refl
  ends (a_method m) = refl

  gives : (x : MemberTree) → emitted (behind_member x) End ≡ other_token ∷ []
  gives (a_field d) = refl
  gives (a_method m) = refl

  waits : (x : MemberTree) → pending (behind_member x) ≡ []
  waits (a_field d) = refl
  waits (a_method m) = refl

  takes : (x : MemberTree) → takes_name_for goal.Member (behind_member x).mode (behind_member x) ≡ false
  takes (a_field d) = refl
  takes (a_method m) = refl

  valued : (x : MemberTree) → member_in (record (behind_member x) { mode = AtEnd }).fields (record (behind_member x) { mode = AtEnd }).methods ≡ (single_members format features).value x
  valued (a_field d) = refl
  valued (a_method m) = refl

  member_part : IsPart goal.Member format features unnamed (single_members format features)
  member_part =
      record {
        grammar = member_grammar;
        done = behind_member;
        stands_for = λ s. member_in s.fields s.methods;
        valued = valued;
        begins = record { formula_goes = refl; holds = record { settled = refl; none = refl } };
        kept = tt;
        read = member_read;
        in_expression = λ s t. refl;
        only_end = only_end;
        ends = ends;
        gives = gives;
        waits = waits;
        takes = takes;
        stops = λ s t. refl;
        free = λ s. refl;
        position = position;
        ending = ends_by;
        once = once;
        named = named;
        unnamed = unnamed_stops;
      }

  member_path : (front : List Token) (s : State) (rs : List Role) → member_run_of format features front (begin format features) ≡ (Some s, rs) → Path goal.Member format features unnamed (single_members format features) front s rs
  unfolding member_part
  member_path front s rs h = by (strays goal.Member format features unnamed IsAside steps front (begin format features) s rs h)
    where
      -- behind the semicolon of a field
      of_head : (us vs : List Token) (x n : State) → front ≡ us ++ Semicolon ∷ vs → Head format features no_colors us x → n ≡ with_single_field x → (member_run_of format features vs n).0 ≡ Some s → Path goal.Member format features unnamed (single_members format features) front s rs
      of_head us vs x n is i next rest =
          let d : Declared = record { marks = i.marks; of = i.result; name = i.name } in
          let same : n ≡ behind_member (a_field d) = next ∙ ap with_single_field i.state in
          let text : front ≡ spell_field d vs = is ∙ ap (λ w. w ++ Semicolon ∷ vs) i.text ∙ sym (head_text i.marks i.result i.name (Semicolon ∷ vs)) in
          behind_path goal.Member format features unnamed (single_members format features) member_part front vs s rs (a_field d) text (ap (λ y. (member_run_of format features vs y).0) (sym same) ∙ rest)
        where
          sign_text : (off : Bool) (w : List ℕ) (us ts : List Token) → spell_sign off (Id w ∷ us) ++ ts ≡ spell_sign off (Id w ∷ (us ++ ts))
          sign_text false w us ts = refl
          sign_text true w us ts = refl

          head_text : (ms : List Signed) (a b : List ℕ) (ts : List Token) → spell_marks ms (Id a ∷ (Id b ∷ ts)) ≡ spell_marks ms (Id a ∷ (Id b ∷ [])) ++ ts
          head_text [] a b ts = refl
          head_text (m ∷ ms) a b ts =
              ap (λ us. At ∷ spell_sign m.off (Id m.name ∷ us)) (head_text ms a b ts)
              ∙ ap (λ us. At ∷ us) (sym (sign_text m.off m.name (spell_marks ms (Id a ∷ (Id b ∷ []))) ts))

      of_aside : (us vs : List Token) (t : Token) (x n : State) (qs : List Role) → front ≡ us ++ t ∷ vs → run us (begin format features) ≡ (Some x, qs) → member_run_of format features us (begin format features) ≡ (Some x, qs) → IsAside x t n → step_for goal.Member x.mode x t ≡ Some n → (member_run_of format features vs n).0 ≡ Some s → Path goal.Member format features unnamed (single_members format features) front s rs
      of_aside us vs t x n qs is ran own (the_end a) next rest = ended_path goal.Member format features unnamed (single_members format features) member_part front us vs s x n qs rs (is ∙ ap (λ u. us ++ u ∷ vs) a.0) own ran (ap (step_for goal.Member x.mode x) (sym a.0) ∙ next) a.1 rest
      of_aside us vs t x n qs is ran own (of_field semicolon here behind_field) next rest = of_head us vs x n (is ∙ ap (λ u. us ++ u ∷ vs) semicolon) (head_of format features us x here (ap (λ (p : Run State). p.0) own)) behind_field rest

      by : Strays goal.Member format features unnamed IsAside front (begin format features) s rs → Path goal.Member format features unnamed (single_members format features) front s rs
      by (along ran) = inside ran
      by (off us t vs x n qs is ran own a next rest) = of_aside us vs t x n qs is ran own a next rest

  -- the machine reads the texts of members
  pub member_laws : Reads (single_members format features) (reader_for goal.Member format features unnamed)
  member_laws = part_laws goal.Member format features unnamed (single_members format features) member_part member_path refl

  -- What the part is behind the end: the one field that was read, or the one method.
  pub data IsMember (n : State) (x : Member) : Type 0 where
    as_field : (f : Field) → n.fields ≡ f ∷ [] → n.methods ≡ [] → x ≡ member.Field f → IsMember n x
    as_method : (m : Method) → n.fields ≡ [] → n.methods ≡ m ∷ [] → x ≡ member.Method m → IsMember n x

  pub member_stands : (ts : List Token) (s n : State) (rs : List Role) → run_of (reader_for goal.Member format features unnamed) ts (start_for goal.Member format features unnamed) ≡ (Some s, rs) → step_for goal.Member s.mode s End ≡ Some n → IsMember n (member_laws.stands_for n)
  unfolding member_laws member_part
  member_stands ts s n rs h goes = by (end_state goal.Member format features unnamed (single_members format features) member_part member_path ts s n rs h goes)
    where
      stands : member_laws.stands_for n ≡ member_in n.fields n.methods
      stands = part_stands goal.Member format features unnamed (single_members format features) member_part member_path refl n

      by : ((x : MemberTree) × (n ≡ record (behind_member x) { mode = AtEnd })) → IsMember n (member_laws.stands_for n)
      by (a_field d, is) = as_field (value_field features d) (ap (λ x. x.fields) is) (ap (λ x. x.methods) is) (stands ∙ ap (λ x. member_in x.fields x.methods) is)
      by (a_method m, is) = as_method (value_method features m) (ap (λ x. x.fields) is) (ap (λ x. x.methods) is) (stands ∙ ap (λ x. member_in x.fields x.methods) is)
