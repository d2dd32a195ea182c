-- The head of a member by itself: its marks, its type and its name.
use Rattle.std.proofs.Common.{◌≡◌, ℕ, Bool, true, false, not, List, [], ◌∷◌, ◌++◌, Option, Some, None, refl, sym, ◌∙◌, ap, subst}
use Rattle.std.proofs.lemmas.Option.{none-some, same_Some}
use Rattle.cfj_model.specs.declared.feature_model.Format.{Format}
use Rattle.cfj_model.specs.declared.signed.Signed.{Signed}
use Rattle.cfj_model.specs.Coloring.{no_colors}
use Rattle.cfj_logic.specs.Sides.{Sides}
use Rattle.cfj_model.specs.declared.class.Field.{Field}
use Rattle.cfj_model.specs.declared.class.Method.{Method}
use Rattle.cfj_model.specs.declared.expr.Expr.{Expr}
use Rattle.cfj_model.specs.Marks.{spell_sign, spell_marks, spell_mark, roles_sign, roles_mark, roles_marks, marked, colored, colors_of}
use Rattle.cfj_model.specs.Roles.{mark_name, method_name, other_token, used_name}
use Rattle.cfj_words.specs.Tokens.{Token, Id, ReturnWord, OpenBrace, CloseBrace, OpenParen, CloseParen, Semicolon, Comma, At, Bang, End}
use Rattle.expression_reader.specs.Machine as expression
use Rattle.fj_parser.specs.declared.goal.Goal.TheVariants as goal
use Rattle.fj_machine.specs.declared.mode.Owner.TheVariants as owner
use Rattle.fj_machine.specs.declared.mode.Node.TheVariants as node
use Rattle.fj_machine.specs.declared.mode.Mode.{Mode}
use Rattle.fj_machine.specs.declared.mode.Mode.TheVariants.{AfterAt, AfterMark, InParams, AfterParamComma, AfterParamType, AfterParam, AfterParams, InMethods, AfterResult, AfterMethodName, InMethodBody, InExpression, AfterBody, AtEnd}
use Rattle.fj_parser.specs.Goals.{none_yet, member_or_end, step_for}
use Rattle.fj_machine.specs.Machine.{unnamed, State, after_expression, in_expression, emitted, with_single_field}
use Rattle.fj_machine.specs.Readers.{Run, then_run, run_of}
use Rattle.fj_parser.proofs.Complete.{with_role, with_roles}
use Rattle.fj_parser.proofs.ListsSound.{never}
use Rattle.fj_parser.proofs.SingleLaws.{first_state}
use Rattle.fj_parser.proofs.SingleParts.{OfSome, part_run}

-- ---- behind the bracket of a method's head

-- the modes from there on, where there are no methods yet or some
abbrev is_behind_head : Mode → Bool → Bool
is_behind_head (AfterAt (node.Param owner.Method) off) none = true
is_behind_head (AfterMark (node.Param owner.Method)) none = true
is_behind_head (InParams owner.Method) none = true
is_behind_head (AfterParamComma owner.Method) none = true
is_behind_head (AfterParamType owner.Method) none = true
is_behind_head (AfterParam owner.Method) none = true
is_behind_head (AfterParams owner.Method) none = true
is_behind_head InMethodBody none = true
is_behind_head InExpression none = true
is_behind_head AfterBody none = not none
is_behind_head InMethods none = not none
is_behind_head AtEnd none = true
is_behind_head _ none = false

abbrev IsBehindHead : State → Type 0
IsBehindHead s = is_behind_head s.mode (none_yet s.methods) ≡ true

-- a method is in hand
some_method : (ms : List Method) (m : Method) → not (none_yet (ms ++ m ∷ [])) ≡ true
some_method [] m = refl
some_method (x ∷ ms) m = refl

behind_expression : (s : State) → s.mode ≡ InExpression → (o : Option expression.State) → OfSome IsBehindHead (in_expression s o)
behind_expression s e None = tt
behind_expression s e (Some n) = by (expression.expression n)
  where
    by : (q : Option Expr) → IsBehindHead (after_expression s n q)
    by None = ap (λ m. is_behind_head m (none_yet s.methods)) e
    by (Some x) = some_method s.methods _

behind_whole : (s : State) (t : Token) (fs : List Field) (ms : List Method) → not (none_yet ms) ≡ true → OfSome IsBehindHead (member_or_end fs ms s t)
behind_whole s End (f ∷ fs) ms k = refl
behind_whole s _ (f ∷ fs) ms k = tt
behind_whole s t [] [] k = never k
behind_whole s End [] (m ∷ ms) k = refl
behind_whole s _ [] (m ∷ ms) k = tt

-- a step doesn't leave them
behind_step : (m : Mode) (s : State) (t : Token) → is_behind_head m (none_yet s.methods) ≡ true → OfSome IsBehindHead (step_for goal.Member m (record s { mode = m }) t)
behind_step (AfterAt (node.Param owner.Method) off) s (Id w) k = refl
behind_step (AfterAt (node.Param owner.Method) false) s Bang k = refl
behind_step (AfterAt (node.Param owner.Method) true) s Bang k = tt
behind_step (AfterAt (node.Param owner.Method) off) s _ k = tt
behind_step (AfterMark (node.Param owner.Method)) s At k = refl
behind_step (AfterMark (node.Param owner.Method)) s (Id w) k = refl
behind_step (AfterMark (node.Param owner.Method)) s _ k = tt
behind_step (InParams owner.Method) s At k = refl
behind_step (InParams owner.Method) s (Id w) k = refl
behind_step (InParams owner.Method) s CloseParen k = refl
behind_step (InParams owner.Method) s _ k = tt
behind_step (AfterParamComma owner.Method) s At k = refl
behind_step (AfterParamComma owner.Method) s (Id w) k = refl
behind_step (AfterParamComma owner.Method) s _ k = tt
behind_step (AfterParamType owner.Method) s (Id w) k = refl
behind_step (AfterParamType owner.Method) s _ k = tt
behind_step (AfterParam owner.Method) s Comma k = refl
behind_step (AfterParam owner.Method) s CloseParen k = refl
behind_step (AfterParam owner.Method) s _ k = tt
behind_step (AfterParams owner.Method) s OpenBrace k = refl
behind_step (AfterParams owner.Method) s _ k = tt
behind_step InMethodBody s ReturnWord k = refl
behind_step InMethodBody s _ k = tt
behind_step InExpression s t k = behind_expression (record s { mode = InExpression }) refl (expression.step s.features s.expression t)
behind_step AfterBody s CloseBrace k = k
behind_step AfterBody s _ k = tt
behind_step InMethods s t k = behind_whole (record s { mode = InMethods }) t s.fields s.methods k
behind_step AtEnd s t k = tt
behind_step _ s t k = never k

module _ (format : Format) (features : List (List ℕ)) where
  abbrev pub member_run_of : List Token → State → Run State
  member_run_of = part_run goal.Member format features unnamed

  abbrev pub begin : State
  begin = first_state goal.Member format features unnamed

  -- so no run does
  behind_run : (ts : List Token) (s n : State) → IsBehindHead s → (member_run_of ts s).0 ≡ Some n → IsBehindHead n
  unfolding run_of
  behind_run [] s n k h = subst IsBehindHead (same_Some s n h) k
  behind_run (t ∷ ts) s n k h = go (λ x j e. behind_run ts x n j e) (step_for goal.Member s.mode s t) (behind_step s.mode s t k) h
    where
      go : ((x : State) → IsBehindHead x → (member_run_of ts x).0 ≡ Some n → IsBehindHead n) → (o : Option State) → OfSome IsBehindHead o → (then_run (member_run_of ts) (emitted s t) o).0 ≡ Some n → IsBehindHead n
      go ih None k h = absurd (none-some n h)
      go ih (Some x) k h = ih x k h

  -- ---- heads

  -- one mark behind its `@`
  mark_read : (off : Bool) (w : List ℕ) (ts : List Token) (s : State) → member_run_of (spell_sign off (Id w ∷ ts)) (record s { mode = AfterAt node.Method false })
      ≡ with_roles (λ rs. roles_sign off (mark_name w ∷ rs)) (member_run_of ts (record s { mode = AfterMark node.Method; colors = marked s.features s.colors (record { off = off; name = w }) }))
  unfolding run_of
  mark_read false w ts s = refl
  mark_read true w ts s = refl

  marks_read : (ms : List Signed) (ts : List Token) (s : State) → member_run_of (spell_marks ms ts) (record s { mode = AfterMark node.Method }) ≡ with_roles (roles_marks ms) (member_run_of ts (record s { mode = AfterMark node.Method; colors = colored s.features s.colors ms }))
  unfolding run_of
  marks_read [] ts s = refl
  marks_read (m ∷ ms) ts s = ap (with_role other_token) (mark_read m.off m.name (spell_marks ms ts) s) ∙ ap (with_roles (roles_mark m)) (marks_read ms ts (record s { colors = marked s.features s.colors m }))

  -- behind a head with these colours
  abbrev pub behind_name : Sides → List ℕ → List ℕ → State
  behind_name colors result name = record begin { mode = AfterMethodName; method_colors = colors; result_type = result; method = name }

  -- a head is read
  pub head_read : (ms : List Signed) (result name : List ℕ) (ts : List Token) → member_run_of (spell_marks ms (Id result ∷ (Id name ∷ ts))) begin ≡ with_roles (λ rs. roles_marks ms (used_name result ∷ (method_name name ∷ rs))) (member_run_of ts (behind_name (colors_of features ms) result name))
  unfolding run_of
  head_read [] result name ts = refl
  head_read (m ∷ ms) result name ts = ap (with_role other_token) (mark_read m.off m.name (spell_marks ms (Id result ∷ (Id name ∷ ts))) begin) ∙ ap (with_roles (roles_mark m)) (marks_read ms (Id result ∷ (Id name ∷ ts)) (record begin { colors = marked features no_colors m }))

  -- The tokens are those of a head, behind which the machine stands.
  pub record Head (colors : Sides) (ts : List Token) (s : State) : Type 0 where
    pub marks : List Signed
    pub result : List ℕ
    pub name : List ℕ
    pub text : ts ≡ spell_marks marks (Id result ∷ (Id name ∷ []))
    pub state : s ≡ behind_name (colored features colors marks) result name

  result_head : (a : List ℕ) (ts : List Token) (colors : Sides) (n : State) → n.mode ≡ AfterMethodName → (member_run_of ts (record begin { mode = AfterResult; colors = colors; of = a })).0 ≡ Some n → Head colors (Id a ∷ ts) n
  unfolding run_of
  result_head a [] colors n at h = absurd (let no : AfterResult ≡ AfterMethodName = ap (λ x. x.mode) (same_Some _ n h) ∙ at in let never_so : ⊥ = cc no in never_so)
  result_head a (Id b ∷ []) colors n at h = record { marks = []; result = a; name = b; text = refl; state = sym (same_Some (behind_name colors a b) n h) }
  result_head a (Id b ∷ (OpenParen ∷ ts)) colors n at h =
      let k : IsBehindHead n = behind_run ts (record begin { mode = InParams owner.Method; method_colors = colors; result_type = a; method = b }) n refl h in
      never (sym (ap (λ m. is_behind_head m (none_yet n.methods)) at) ∙ k)
  result_head a (Id b ∷ (Semicolon ∷ ts)) colors n at h = of_field ts h
    where
      of_field : (ts : List Token) → (member_run_of ts (with_single_field (behind_name colors a b))).0 ≡ Some n → Head colors (Id a ∷ (Id b ∷ (Semicolon ∷ ts))) n
      of_field [] h = absurd (let no : InMethods ≡ AfterMethodName = ap (λ x. x.mode) (same_Some _ n h) ∙ at in let never_so : ⊥ = cc no in never_so)
      of_field (End ∷ []) h = absurd (let no : AtEnd ≡ AfterMethodName = ap (λ x. x.mode) (same_Some _ n h) ∙ at in let never_so : ⊥ = cc no in never_so)
      of_field (End ∷ (t ∷ ts)) h = absurd (none-some n h)
      of_field (_ ∷ ts) h = absurd (none-some n h)
  result_head a _ colors n at h = absurd (none-some n h)

  -- one more mark of a head
  mark_head : (m : Signed) (ts : List Token) (colors : Sides) (n : State) → Head (marked features colors m) ts n → Head colors (spell_mark m ts) n
  mark_head m ts colors n r = record { marks = m ∷ r.marks; result = r.result; name = r.name; text = ap (spell_mark m) r.text; state = r.state }

  marked_head : (ts : List Token) (colors : Sides) (n : State) → n.mode ≡ AfterMethodName → (member_run_of ts (record begin { mode = AfterMark node.Method; colors = colors })).0 ≡ Some n → Head colors ts n
  unfolding run_of
  marked_head [] colors n at h = absurd (let no : AfterMark node.Method ≡ AfterMethodName = ap (λ x. x.mode) (same_Some _ n h) ∙ at in let never_so : ⊥ = cc no in never_so)
  marked_head (At ∷ []) colors n at h = absurd (let no : AfterAt node.Method false ≡ AfterMethodName = ap (λ x. x.mode) (same_Some _ n h) ∙ at in let never_so : ⊥ = cc no in never_so)
  marked_head (At ∷ (Id w ∷ ts)) colors n at h =
      let m : Signed = record { off = false; name = w } in
      mark_head m ts colors n (marked_head ts (marked features colors m) n at h)
  marked_head (At ∷ (Bang ∷ [])) colors n at h = absurd (let no : AfterAt node.Method true ≡ AfterMethodName = ap (λ x. x.mode) (same_Some _ n h) ∙ at in let never_so : ⊥ = cc no in never_so)
  marked_head (At ∷ (Bang ∷ (Id w ∷ ts))) colors n at h =
      let m : Signed = record { off = true; name = w } in
      mark_head m ts colors n (marked_head ts (marked features colors m) n at h)
  marked_head (Id a ∷ ts) colors n at h = result_head a ts colors n at h
  marked_head _ colors n at h = absurd (none-some n h)

  -- what leads behind a name is a head
  pub head_of : (ts : List Token) (n : State) → n.mode ≡ AfterMethodName → (member_run_of ts begin).0 ≡ Some n → Head no_colors ts n
  unfolding run_of
  head_of [] n at h = absurd (let no : InMethods ≡ AfterMethodName = ap (λ x. x.mode) (same_Some _ n h) ∙ at in let never_so : ⊥ = cc no in never_so)
  head_of (At ∷ []) n at h = absurd (let no : AfterAt node.Method false ≡ AfterMethodName = ap (λ x. x.mode) (same_Some _ n h) ∙ at in let never_so : ⊥ = cc no in never_so)
  head_of (At ∷ (Id w ∷ ts)) n at h =
      let m : Signed = record { off = false; name = w } in
      mark_head m ts no_colors n (marked_head ts (marked features no_colors m) n at h)
  head_of (At ∷ (Bang ∷ [])) n at h = absurd (let no : AfterAt node.Method true ≡ AfterMethodName = ap (λ x. x.mode) (same_Some _ n h) ∙ at in let never_so : ⊥ = cc no in never_so)
  head_of (At ∷ (Bang ∷ (Id w ∷ ts))) n at h =
      let m : Signed = record { off = true; name = w } in
      mark_head m ts no_colors n (marked_head ts (marked features no_colors m) n at h)
  head_of (Id a ∷ ts) n at h = result_head a ts no_colors n at h
  head_of _ n at h = absurd (none-some n h)
