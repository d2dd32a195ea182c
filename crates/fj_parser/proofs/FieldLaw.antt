-- The laws of the machine for single fields.
use Rattle.std.proofs.Common.{◌≡◌, ℕ, suc, Bool, true, false, List, [], ◌∷◌, ◌++◌, ◌+◌, length, Some, None, refl, sym, ◌∙◌, ap, subst, arith}
use Rattle.std.proofs.lemmas.Option.{none-some, same_Some}
use Rattle.cfj_model.specs.declared.feature_model.Format.{Format}
use Rattle.cfj_model.specs.declared.signed.Signed.{Signed}
use Rattle.cfj_model.specs.Coloring.{no_colors}
use Rattle.cfj_model.specs.declared.class.Field.{Field}
use Rattle.cfj_model.specs.Grammar.{Declared, spell_field, value_field}
use Rattle.cfj_model.specs.Marks.{spell_sign, spell_marks, roles_sign, roles_mark, roles_marks, marked, colored}
use Rattle.cfj_model.specs.Roles.{Role, mark_name, other_token, used_name}
use Rattle.cfj_words.specs.Tokens.{Token, Id, OpenParen, Semicolon, At, End}
use Rattle.cfj_model.specs.TreeRoles.{roles_field}
use Rattle.fj_parser.specs.declared.goal.Goal.TheVariants as goal
use Rattle.fj_machine.specs.declared.mode.Owner.TheVariants as owner
use Rattle.fj_machine.specs.declared.mode.Node.TheVariants as node
use Rattle.fj_machine.specs.declared.mode.Mode.{Mode}
use Rattle.fj_machine.specs.declared.mode.Mode.TheVariants.{AfterAt, AfterMark, InMembers, AfterType, AtEnd}
use Rattle.fj_parser.specs.Goals.{none_yet, start_for, field_or_end, step_for, takes_name_for, reader_for}
use Rattle.cfj_model.specs.PartLanguages.{single_fields}
use Rattle.fj_parser.specs.Laws.{Closes, GoesByName, IsPlainLanguage, Reads}
use Rattle.fj_machine.specs.Machine.{unnamed, State, behind, step_in, emitted, pending, run}
use Rattle.fj_machine.specs.Readers.{Run, run_of}
use Rattle.fj_parser.proofs.Closing.{params_end, ctor_end, ctor_closes}
use Rattle.fj_parser.proofs.Complete.{with_role, with_roles, field_run}
use Rattle.fj_parser.proofs.Law.{reach_stops, end_at_open, end_stops}
use Rattle.fj_parser.proofs.ListsSound.{is_whole, Accepts, never}
use Rattle.fj_parser.proofs.MembersSound.{CtorTree, members_text, ReadMembers, members_read}
use Rattle.fj_parser.proofs.Naming.{Kept, GoesIn, some_name, some_name_is, name_goes, name_stops}
use Rattle.fj_parser.proofs.SingleLaws.{first_state, Path, Position, alone, positioned, EndsBy, as_project, but_goes, IsPart, path_to_end, part_laws, part_stands, end_state}
use Rattle.fj_parser.proofs.SingleParts.{part_run, Goes, on, aside, once_aside, AsideAtEnd}
use Rattle.fj_parser.proofs.Spelled.{field_before, field_roles_before, field_settled}
use Rattle.fj_parser.proofs.Standing.{Stands, each_once, is_declaring}

module _ (format : Format) (features : List (List ℕ)) where
  abbrev field_run_of : List Token → State → Run State
  field_run_of = part_run goal.Field format features unnamed

  abbrev begin : State
  begin = first_state goal.Field format features unnamed

  -- behind a field
  abbrev behind_field : Declared → State
  behind_field d = record begin { fields = value_field features d ∷ [] }

  field_grammar : IsPlainLanguage (single_fields format features)
  field_grammar = record { spells = field_before; gives = field_roles_before; settled = λ d. field_settled d [] refl }

  -- ---- the text of a field is read

  -- one mark behind its `@`
  mark_read : (off : Bool) (w : List ℕ) (ts : List Token) (s : State) → field_run_of (spell_sign off (Id w ∷ ts)) (record s { mode = AfterAt node.Member false })
      ≡ with_roles (λ rs. roles_sign off (mark_name w ∷ rs)) (field_run_of ts (record s { mode = AfterMark node.Member; colors = marked s.features s.colors (record { off = off; name = w }) }))
  unfolding run_of
  mark_read false w ts s = refl
  mark_read true w ts s = refl

  marks_read : (ms : List Signed) (ts : List Token) (s : State) → field_run_of (spell_marks ms ts) (record s { mode = AfterMark node.Member }) ≡ with_roles (roles_marks ms) (field_run_of ts (record s { mode = AfterMark node.Member; colors = colored s.features s.colors ms }))
  unfolding run_of
  marks_read [] ts s = refl
  marks_read (m ∷ ms) ts s = ap (with_role other_token) (mark_read m.off m.name (spell_marks ms ts) s) ∙ ap (with_roles (roles_mark m)) (marks_read ms ts (record s { colors = marked s.features s.colors m }))

  words_read : (ms : List Signed) (of name : List ℕ) (ts : List Token) → field_run_of (spell_field (record { marks = ms; of = of; name = name }) ts) begin ≡ with_roles (roles_field (record { marks = ms; of = of; name = name })) (field_run_of ts (behind_field (record { marks = ms; of = of; name = name })))
  unfolding run_of
  words_read [] of name ts = refl
  words_read (m ∷ ms) of name ts = ap (with_role other_token) (mark_read m.off m.name (spell_marks ms (Id of ∷ (Id name ∷ (Semicolon ∷ ts)))) begin) ∙ ap (with_roles (roles_mark m)) (marks_read ms (Id of ∷ (Id name ∷ (Semicolon ∷ ts))) (record begin { colors = marked features no_colors m }))

  field_read : (d : Declared) (ts : List Token) → field_run_of (spell_field d ts) begin ≡ with_roles (roles_field d) (field_run_of ts (behind_field d))
  field_read d ts = words_read d.marks d.of d.name ts

  -- the machine for projects reads it too
  field_in_project : (d : Declared) → run (spell_field d []) begin ≡ (Some (behind_field d), roles_field d [])
  unfolding run_of
  field_in_project d = field_run d.marks d.of d.name [] (behind format features [] [])

  -- ---- its steps

  abbrev FieldGoes : State → Token → State → Type 0
  FieldGoes = Goes goal.Field format features unnamed AsideAtEnd

  -- each is one of the machine for projects, or takes the end
  steps : (s n : State) (t : Token) → step_for goal.Field s.mode s t ≡ Some n → FieldGoes s t n
  steps s n t h = by s.mode refl t h
    where
      between : (fs : List Field) → s.mode ≡ InMembers → (t : Token) → field_or_end fs s t ≡ Some n → FieldGoes s t n
      between [] here At h = on (ap (λ m. step_in m s At) here ∙ h)
      between [] here (Id w) h = on (ap (λ m. step_in m s (Id w)) here ∙ h)
      between [] here _ h = absurd (let no : ⊥ = cc h in no)
      between (f ∷ fs) here End h = aside (refl, ap (λ x. x.mode) (sym (same_Some (record s { mode = AtEnd }) n h)), ap is_declaring here)
      between (f ∷ fs) here _ h = absurd (let no : ⊥ = cc h in no)

      by : (m : Mode) → s.mode ≡ m → (t : Token) → step_for goal.Field m s t ≡ Some n → FieldGoes s t n
      by InMembers here t h = between s.fields here t h
      by AfterType here OpenParen h = absurd (let no : ⊥ = cc h in no)
      by AfterType here t h = on (ap (λ m. step_in m s t) here ∙ h)
      by m here t h = on (ap (λ k. step_in k s t) here ∙ h)

  abbrev FieldEnds : State → Type 0
  FieldEnds = EndsBy goal.Field format features unnamed (single_fields format features)

  -- behind a field only the end follows
  only_end : (d : Declared) (n : State) (t : Token) → step_for goal.Field (behind_field d).mode (behind_field d) t ≡ Some n → t ≡ End
  only_end d n End h = refl
  only_end d n _ h = absurd (let no : ⊥ = cc h in no)

  -- where the end is taken aside a field was read, and the machine for projects reads a constructor
  ends_by : (s n : State) → step_for goal.Field s.mode s End ≡ Some n → FieldEnds s
  unfolding ctor_end
  ends_by s n h = by s.mode refl h
    where
      project : step_in s.mode s End ≡ Some n → FieldEnds s
      project h = as_project (end_stops s.mode (end_at_open s.mode s n h))

      between : (fs : List Field) → s.fields ≡ fs → s.mode ≡ InMembers → field_or_end fs s End ≡ Some n → FieldEnds s
      between [] are here h = absurd (let no : ⊥ = cc h in no)
      between (f ∷ fs) are here h =
          let same : record s { mode = InMembers } ≡ s = ap (λ m. record s { mode = m }) (sym here) in
          let stops : is_whole (run (ctor_end s.name) (record s { mode = InMembers })).0 ≡ true = reach_stops AtEnd (run (ctor_end s.name) (record s { mode = InMembers })).0 refl (ctor_closes s) in
          let refused : step_for goal.Field s.mode s (Id s.name) ≡ None = ap (λ m. step_for goal.Field m s (Id s.name)) here ∙ ap (λ fs. field_or_end fs s (Id s.name)) are in
          but_goes (Id s.name) (OpenParen ∷ params_end owner.Constructor) (ap (λ x. is_whole (run (ctor_end s.name) x).0) (sym same) ∙ stops) refused

      by : (m : Mode) → s.mode ≡ m → step_for goal.Field m s End ≡ Some n → FieldEnds s
      by InMembers here h = between s.fields refl here h
      by m here h = project (ap (λ k. step_in k s End) here ∙ h)

  -- ---- what was read begins a field

  -- a text that begins with a type
  closes_start : Closes (single_fields format features) [] [] []
  closes_start = record { tree = record { marks = []; of = []; name = [] }; more = _; others = _; text = refl; in_roles = refl }

  closes_type : (w : List ℕ) → Closes (single_fields format features) (Id w ∷ []) (used_name w ∷ []) []
  closes_type w = record { tree = record { marks = []; of = w; name = [] }; more = _; others = _; text = refl; in_roles = refl }

  abbrev FieldPosition : List Token → List Token → State → List Role → Type 0
  FieldPosition = Position goal.Field format features unnamed (single_fields format features) behind_field

  -- behind a field nothing but the end is read
  no_end_first : (ds : List Declared) (c : CtorTree) (rest ts : List Token) → members_text unnamed (record { fields = ds; ctor = c }) rest ≡ End ∷ ts → ⊥
  no_end_first [] c rest ts e = cc e
  no_end_first (d ∷ ds) c rest ts e = go d.marks e
    where
      go : (ms : List Signed) → spell_marks ms (Id d.of ∷ (Id d.name ∷ (Semicolon ∷ members_text unnamed (record { fields = ds; ctor = c }) rest))) ≡ End ∷ ts → ⊥
      go [] e = cc e
      go (m ∷ ms) e = cc e

  position : (front more : List Token) (s : State) (rs : List Role) → field_run_of front begin ≡ (Some s, rs) → run front begin ≡ (Some s, rs) → Accepts (front ++ more) begin → FieldPosition front more s rs
  unfolding run_of
  position front more s rs h ran accepts = by (members_read (suc (length (front ++ more))) (front ++ more) (omega arith) unnamed (behind format features [] []) accepts)
    where
      type_alone : (x : State) (qs : List Role) → field_run_of (Id unnamed ∷ []) begin ≡ (Some x, qs) → FieldPosition (Id unnamed ∷ []) more x qs
      type_alone x qs k =
          let n : State = record begin { mode = AfterType; of = unnamed } in
          let same : n ≡ x = same_Some n x (ap (λ (p : Run State). p.0) k) in
          let gives : used_name unnamed ∷ [] ≡ qs = ap (λ (p : Run State). p.1) k in
          subst (λ y. FieldPosition (Id unnamed ∷ []) more y qs) same (subst (λ q. FieldPosition (Id unnamed ∷ []) more n q) gives (alone (closes_type unnamed) refl))

      -- no field: the type alone may have been read
      of_ctor : (us : List Token) (x : State) (qs : List Role) (c : CtorTree) (rest : List Token) → field_run_of us begin ≡ (Some x, qs) → us ++ more ≡ Id unnamed ∷ (OpenParen ∷ rest) → FieldPosition us more x qs
      of_ctor [] x qs c rest k e =
          let same : begin ≡ x = same_Some begin x (ap (λ (p : Run State). p.0) k) in
          let none : [] ≡ qs = ap (λ (p : Run State). p.1) k in
          subst (λ y. FieldPosition [] more y qs) same (subst (λ q. FieldPosition [] more begin q) none (alone closes_start refl))
      of_ctor (t ∷ []) x qs c rest k e =
          let is : t ≡ Id unnamed = cc e in
          subst (λ u. FieldPosition (u ∷ []) more x qs) (sym is) (type_alone x qs (ap (λ u. field_run_of (u ∷ []) begin) (sym is) ∙ k))
      of_ctor (t ∷ (u ∷ us)) x qs c rest k e =
          let is : t ≡ Id unnamed = cc e in
          let opens : u ≡ OpenParen = cc e in
          absurd (none-some x (ap (λ (p : Run State). p.0) (ap (λ v. field_run_of (Id unnamed ∷ (v ∷ us)) begin) (sym opens) ∙ ap (λ v. field_run_of (v ∷ (u ∷ us)) begin) (sym is) ∙ k)))

      of_members : (ds : List Declared) (c : CtorTree) (rest : List Token) → front ++ more ≡ members_text unnamed (record { fields = ds; ctor = c }) rest → FieldPosition front more s rs
      of_members [] c rest e = of_ctor front s rs c _ h e
      of_members (d ∷ ds) c rest e = positioned goal.Field format features unnamed (single_fields format features) behind_field field_grammar field_read only_end front more (members_text unnamed (record { fields = ds; ctor = c }) rest) s rs d (field_in_project d) h e (no_end_first ds c rest)

      by : ReadMembers (front ++ more) unnamed (behind format features [] []) → FieldPosition front more s rs
      by r = of_members r.part.fields r.part.ctor r.rest r.spelled

  -- ---- names

  named : (s : State) → Kept s.mode s → takes_name_for goal.Field s.mode s ≡ true → GoesByName (reader_for goal.Field format features unnamed) s
  named s k e = by s.mode refl k e
    where
      going : (m : Mode) → s.mode ≡ m → (i : GoesIn m s) → step_for goal.Field m s (Id i.name) ≡ step_in m s (Id i.name) → GoesByName (reader_for goal.Field format features unnamed) s
      going m here i same = record { name = i.name; next = i.next; is = i.is; goes = ap (λ k. step_for goal.Field k s (Id i.name)) here ∙ same ∙ i.goes }

      between : (fs : List Field) → s.fields ≡ fs → s.mode ≡ InMembers → none_yet fs ≡ true → GoesByName (reader_for goal.Field format features unnamed) s
      between [] are here e = record { name = some_name; next = _; is = some_name_is; goes = ap (λ m. step_for goal.Field m s (Id some_name)) here ∙ ap (λ fs. field_or_end fs s (Id some_name)) are }
      between (f ∷ fs) are here e = never e

      by : (m : Mode) → s.mode ≡ m → Kept m s → takes_name_for goal.Field m s ≡ true → GoesByName (reader_for goal.Field format features unnamed) s
      by InMembers here k e = between s.fields refl here e
      by m here k e = going m here (name_goes m s k e) refl

  unnamed_stops : (s : State) (w : List ℕ) → takes_name_for goal.Field s.mode s ≡ false → step_for goal.Field s.mode s (Id w) ≡ None
  unnamed_stops s w e = by s.mode e
    where
      between : (fs : List Field) → none_yet fs ≡ false → field_or_end fs s (Id w) ≡ None
      between [] e = never (sym e)
      between (f ∷ fs) e = refl

      by : (m : Mode) → takes_name_for goal.Field m s ≡ false → step_for goal.Field m s (Id w) ≡ None
      by InMembers e = between s.fields e
      by m e = name_stops m s w e

  -- ---- all laws together

  -- each token is settled at once
  once : (s n : State) (t : Token) (rs : List Role) → Stands s rs → step_for goal.Field s.mode s t ≡ Some n → length (emitted s t) + length (pending n) ≡ suc (length (pending s))
  once s n t rs k h = by (steps s n t h)
    where
      by : FieldGoes s t n → length (emitted s t) + length (pending n) ≡ suc (length (pending s))
      by (on e) = each_once s n t rs k e
      by (aside a) = once_aside s n t a.2 (ap is_declaring a.1)

  -- the field that is read; a dummy where there is none
  abbrev field_of : List Field → Field
  field_of [] = record { alt = 0; colors = no_colors; of = unnamed; name = unnamed }
  field_of (f ∷ fs) = f

  field_part : IsPart goal.Field format features unnamed (single_fields format features)
  field_part =
      record {
        grammar = field_grammar;
        done = behind_field;
        stands_for = λ s. field_of s.fields;
        valued = λ d. refl;
        begins = record { formula_goes = refl; holds = record { settled = refl; none = refl } };
        kept = tt;
        read = field_read;
        in_expression = λ s t. refl;
        only_end = only_end;
        ends = λ d. refl;
        gives = λ d. refl;
        waits = λ d. refl;
        takes = λ d. refl;
        stops = λ s t. refl;
        free = λ s. refl;
        position = position;
        ending = ends_by;
        once = once;
        named = named;
        unnamed = unnamed_stops;
      }

  field_path : (front : List Token) (s : State) (rs : List Role) → field_run_of front begin ≡ (Some s, rs) → Path goal.Field format features unnamed (single_fields format features) front s rs
  field_path = path_to_end goal.Field format features unnamed (single_fields format features) field_part steps

  -- the machine reads the texts of fields
  pub field_laws : Reads (single_fields format features) (reader_for goal.Field format features unnamed)
  field_laws = part_laws goal.Field format features unnamed (single_fields format features) field_part field_path refl

  -- behind the end the part is the one field that was read
  pub field_stands : (ts : List Token) (s n : State) (rs : List Role) → run_of (reader_for goal.Field format features unnamed) ts (start_for goal.Field format features unnamed) ≡ (Some s, rs) → step_for goal.Field s.mode s End ≡ Some n → (f : Field) × (n.fields ≡ f ∷ []) × (field_laws.stands_for n ≡ f)
  unfolding field_laws field_part
  field_stands ts s n rs h goes =
      let e = end_state goal.Field format features unnamed (single_fields format features) field_part field_path ts s n rs h goes in
      let fields : n.fields ≡ value_field features e.0 ∷ [] = ap (λ x. x.fields) e.1 in
      let stands : field_laws.stands_for n ≡ field_of n.fields = part_stands goal.Field format features unnamed (single_fields format features) field_part field_path refl n in
      (value_field features e.0, fields, stands ∙ ap field_of fields)
