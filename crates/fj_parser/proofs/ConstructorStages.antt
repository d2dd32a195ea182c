-- The states that the machine for a single constructor reaches, and how each is completed.
use Rattle.std.proofs.Common.{◌≡◌, ℕ, Bool, true, false, if◌then◌else◌, List, [], ◌∷◌, ◌++◌, Option, Some, None, refl, sym, ◌∙◌, ap, subst, append_assoc}
use Rattle.std.proofs.lemmas.List.{append-nil}
use Rattle.std.proofs.lemmas.Option.{none-some, same_Some}
use Rattle.std.proofs.lemmas.Slice.Eq.{bytes_eq-Decides}
use Rattle.std.specs.Str.{bytes_eq}
use Rattle.cfj_model.specs.Roles.{Role, used_name, other_token}
use Rattle.cfj_model.specs.declared.feature_model.Format.{Format}
use Rattle.cfj_words.specs.Tokens.{Token, Id, SuperWord, ThisWord, OpenBrace, CloseBrace, OpenParen, CloseParen, Semicolon, Comma, Dot, Equals, At, Bang, End}
use Rattle.fj_parser.specs.declared.goal.Goal.TheVariants as goal
use Rattle.fj_machine.specs.declared.mode.Mode.{Mode}
use Rattle.fj_machine.specs.declared.mode.Mode.TheVariants.{InMembers, AfterAt, AfterMark, AfterType, InParams, AfterParamComma, AfterParamType, AfterParam, AfterParams, InBody, AfterSuper, InSends, AfterSendComma, AfterSend, AfterSends, InAssigns, AfterThis, AfterThisDot, AfterAssigned, AfterEquals, AfterSecondName, InMethods, AtEnd}
use Rattle.fj_machine.specs.declared.mode.Node.TheVariants as node
use Rattle.fj_machine.specs.declared.mode.Owner.TheVariants as owner
use Rattle.fj_parser.specs.Goals.{ends, step_for}
use Rattle.fj_machine.specs.Machine.{unnamed, State, step_in, emitted}
use Rattle.fj_machine.specs.Readers.{Run, then_run, run_of}
use Rattle.fj_parser.proofs.Closing.{Reaches}
use Rattle.fj_parser.proofs.Complete.{same_name}
use Rattle.fj_parser.proofs.ConstructorRuns.{ctor_reader, no_case, is_end}
use Rattle.fj_parser.proofs.Standing.{emitted_in}

-- ---- the states that are reached

-- the modes in a constructor, from its first bracket on
abbrev pub is_in_ctor : Mode → Bool
is_in_ctor (AfterAt (node.Param owner.Constructor) off) = true
is_in_ctor (AfterAt node.Send off) = true
is_in_ctor (AfterAt node.Assign off) = true
is_in_ctor (AfterMark (node.Param owner.Constructor)) = true
is_in_ctor (AfterMark node.Send) = true
is_in_ctor (AfterMark node.Assign) = true
is_in_ctor (InParams owner.Constructor) = true
is_in_ctor (AfterParamComma owner.Constructor) = true
is_in_ctor (AfterParamType owner.Constructor) = true
is_in_ctor (AfterParam owner.Constructor) = true
is_in_ctor (AfterParams owner.Constructor) = true
is_in_ctor InBody = true
is_in_ctor AfterSuper = true
is_in_ctor InSends = true
is_in_ctor AfterSendComma = true
is_in_ctor AfterSend = true
is_in_ctor AfterSends = true
is_in_ctor InAssigns = true
is_in_ctor AfterThis = true
is_in_ctor AfterThisDot = true
is_in_ctor AfterAssigned = true
is_in_ctor AfterEquals = true
is_in_ctor AfterSecondName = true
is_in_ctor _ = false

-- or behind it
abbrev stays : Mode → Bool
stays InMethods = true
stays m = is_in_ctor m

-- a step from there leads there, if there is one
abbrev AfterCtor : Bool → Option State → Type 0
AfterCtor false o = Unit {0}
AfterCtor true None = Unit {0}
AfterCtor true (Some n) = stays n.mode ≡ true

after_equals : (b : Bool) (n : State) → stays n.mode ≡ true → AfterCtor true (if b then Some n else None)
after_equals true n h = h
after_equals false n h = tt

after_ctor : (m : Mode) (s : State) (t : Token) → AfterCtor (is_in_ctor m) (step_in m s t)
after_ctor (AfterAt (node.Param owner.Constructor) off) s (Id w) = refl
after_ctor (AfterAt node.Send off) s (Id w) = refl
after_ctor (AfterAt node.Assign off) s (Id w) = refl
after_ctor (AfterAt (node.Param owner.Constructor) false) s Bang = refl
after_ctor (AfterAt node.Send false) s Bang = refl
after_ctor (AfterAt node.Assign false) s Bang = refl
after_ctor (AfterMark (node.Param owner.Constructor)) s At = refl
after_ctor (AfterMark (node.Param owner.Constructor)) s (Id w) = refl
after_ctor (AfterMark node.Send) s At = refl
after_ctor (AfterMark node.Send) s (Id w) = refl
after_ctor (AfterMark node.Assign) s At = refl
after_ctor (AfterMark node.Assign) s ThisWord = refl
after_ctor (InParams owner.Constructor) s At = refl
after_ctor (InParams owner.Constructor) s (Id w) = refl
after_ctor (InParams owner.Constructor) s CloseParen = refl
after_ctor (AfterParamComma owner.Constructor) s At = refl
after_ctor (AfterParamComma owner.Constructor) s (Id w) = refl
after_ctor (AfterParamType owner.Constructor) s (Id w) = refl
after_ctor (AfterParam owner.Constructor) s Comma = refl
after_ctor (AfterParam owner.Constructor) s CloseParen = refl
after_ctor (AfterParams owner.Constructor) s OpenBrace = refl
after_ctor InBody s SuperWord = refl
after_ctor AfterSuper s OpenParen = refl
after_ctor InSends s At = refl
after_ctor InSends s (Id w) = refl
after_ctor InSends s CloseParen = refl
after_ctor AfterSendComma s At = refl
after_ctor AfterSendComma s (Id w) = refl
after_ctor AfterSend s Comma = refl
after_ctor AfterSend s CloseParen = refl
after_ctor AfterSends s Semicolon = refl
after_ctor InAssigns s At = refl
after_ctor InAssigns s ThisWord = refl
after_ctor InAssigns s CloseBrace = refl
after_ctor AfterThis s Dot = refl
after_ctor AfterThisDot s (Id w) = refl
after_ctor AfterAssigned s Equals = refl
after_ctor AfterEquals s (Id w) = after_equals (bytes_eq w s.last) (record s { mode = AfterSecondName; last = unnamed }) refl
after_ctor AfterSecondName s Semicolon = refl
after_ctor _ s t = tt

-- Before the constructor, behind its name, in it, or behind it.
pub data CtorStage (class : List ℕ) (s : State) : Type 0 where
  before_it : s.mode ≡ InMembers → s.name ≡ class → CtorStage class s
  behind_name : s.mode ≡ AfterType → s.of ≡ s.name → CtorStage class s
  in_it : is_in_ctor s.mode ≡ true → CtorStage class s
  behind_it : s.mode ≡ InMethods → CtorStage class s

staying : (class : List ℕ) (n : State) → stays n.mode ≡ true → CtorStage class n
staying class n h = by n.mode refl h
  where
    by : (m : Mode) → n.mode ≡ m → stays m ≡ true → CtorStage class n
    by InMethods here h = behind_it here
    by m here h = in_it (ap is_in_ctor here ∙ h)

-- the text hasn't ended
pub stage_open : (class : List ℕ) (s : State) → CtorStage class s → is_end s.mode ≡ false
stage_open class s (before_it here name) = ap is_end here
stage_open class s (behind_name here same) = ap is_end here
stage_open class s (in_it within) = by s.mode within
  where
    by : (m : Mode) → is_in_ctor m ≡ true → is_end m ≡ false
    by AtEnd e = no_case e
    by _ e = refl
stage_open class s (behind_it here) = ap is_end here

-- behind a step it goes on, or it was the end
pub data StageNext (class : List ℕ) (s : State) (t : Token) (n : State) : Type 0 where
  goes_on : CtorStage class n → StageNext class s t n
  ends_now : s.mode ≡ InMethods → t ≡ End → n ≡ record s { mode = AtEnd } → StageNext class s t n

name_step : (class : List ℕ) (s n : State) (w : List ℕ) (b : Bool) → bytes_eq w s.name ≡ b → (if b then step_in InMembers s (Id w) else None) ≡ Some n → CtorStage class n
name_step class s n w true e h = subst (CtorStage class) (same_Some (record s { mode = AfterType; of = w }) n h) (behind_name refl ((bytes_eq-Decides w s.name).0 e))
name_step class s n w false e h = absurd (none-some n h)

bracket_step : (class : List ℕ) (s n : State) (b : Bool) → (if b then Some (record s { mode = InParams owner.Constructor; of = unnamed }) else None) ≡ Some n → CtorStage class n
bracket_step class s n true h = subst (CtorStage class) (same_Some (record s { mode = InParams owner.Constructor; of = unnamed }) n h) (in_it refl)
bracket_step class s n false h = absurd (none-some n h)

before_step : (class : List ℕ) (s n : State) (t : Token) → step_for goal.Constructor InMembers s t ≡ Some n → CtorStage class n
before_step class s n (Id w) h = name_step class s n w (bytes_eq w s.name) refl h
before_step class s n t h = absurd (none-some n h)

behind_name_step : (class : List ℕ) (s n : State) (t : Token) → step_for goal.Constructor AfterType s t ≡ Some n → CtorStage class n
behind_name_step class s n OpenParen h = bracket_step class s n (bytes_eq s.of s.name) h
behind_name_step class s n t h = absurd (none-some n h)

in_it_step : (class : List ℕ) (m : Mode) (s n : State) (t : Token) → is_in_ctor m ≡ true → step_for goal.Constructor m s t ≡ Some n → CtorStage class n
in_it_step class InMembers s n t e h = no_case e
in_it_step class AfterType s n t e h = no_case e
in_it_step class InMethods s n t e h = no_case e
in_it_step class m s n t e h = staying class n (subst (AfterCtor true) h (subst (λ b. AfterCtor b (step_in m s t)) e (after_ctor m s t)))

behind_step : (class : List ℕ) (s n : State) (t : Token) → s.mode ≡ InMethods → ends s t ≡ Some n → StageNext class s t n
behind_step class s n End here h = ends_now here refl (sym (same_Some (record s { mode = AtEnd }) n h))
behind_step class s n t here h = absurd (none-some n h)

pub stage_step : (class : List ℕ) (s n : State) (t : Token) → CtorStage class s → step_for goal.Constructor s.mode s t ≡ Some n → StageNext class s t n
stage_step class s n t (before_it here name) h = goes_on (before_step class s n t (ap (λ m. step_for goal.Constructor m s t) (sym here) ∙ h))
stage_step class s n t (behind_name here same) h = goes_on (behind_name_step class s n t (ap (λ m. step_for goal.Constructor m s t) (sym here) ∙ h))
stage_step class s n t (in_it within) h = goes_on (in_it_step class s.mode s n t within h)
stage_step class s n t (behind_it here) h = behind_step class s n t here (ap (λ m. step_for goal.Constructor m s t) (sym here) ∙ h)

-- ---- runs

module _ (format : Format) (features : List (List ℕ)) (class : List ℕ) where
  -- what follows the end is nothing
  pub end_only : (ts : List Token) (s n : State) (rs : List Role) → s.mode ≡ AtEnd → run_of (ctor_reader format features class) ts s ≡ (Some n, rs) → (ts ≡ []) × (s ≡ n) × (rs ≡ [])
  unfolding run_of
  end_only [] s n rs here h = (refl, same_Some s n (ap (λ (p : Run State). p.0) h), sym (ap (λ (p : Run State). p.1) h))
  end_only (t ∷ ts) s n rs here h = absurd (none-some n (ap (λ (p : Run State). p.0) (ap (λ m. then_run (run_of (ctor_reader format features class) ts) (emitted s t) (step_for goal.Constructor m s t)) (sym here) ∙ h)))

  -- A state that is reached is in such a stage, or the end was read behind one.
  pub data Reached (ts : List Token) (s n : State) (rs : List Role) : Type 0 where
    inside : CtorStage class n → Reached ts s n rs
    ended_by : (front : List Token) (m : State) (qs : List Role) → ts ≡ front ++ End ∷ [] → run_of (ctor_reader format features class) front s ≡ (Some m, qs) → rs ≡ qs ++ other_token ∷ [] → m.mode ≡ InMethods → n ≡ record m { mode = AtEnd } → Reached ts s n rs

  -- the end of the text is plain
  pub end_plain : (s : State) (t : Token) → s.mode ≡ InMethods → t ≡ End → emitted s t ≡ other_token ∷ []
  end_plain s t here end = ap (λ m. emitted_in m s t) here ∙ ap (λ u. emitted_in InMethods s u) end

  pub reached_run : (ts : List Token) (s n : State) (rs : List Role) → CtorStage class s → run_of (ctor_reader format features class) ts s ≡ (Some n, rs) → Reached ts s n rs
  unfolding run_of
  reached_run [] s n rs k e = inside (subst (CtorStage class) (same_Some s n (ap (λ (p : Run State). p.0) e)) k)
  reached_run (t ∷ ts) s n rs k e = go (λ x j r. reached_run ts x n (run_of (ctor_reader format features class) ts x).1 j r) (step_for goal.Constructor s.mode s t) refl e
    where
      go : ((x : State) → CtorStage class x → run_of (ctor_reader format features class) ts x ≡ (Some n, (run_of (ctor_reader format features class) ts x).1) → Reached ts x n (run_of (ctor_reader format features class) ts x).1)
          → (o : Option State) → step_for goal.Constructor s.mode s t ≡ o → then_run (run_of (ctor_reader format features class) ts) (emitted s t) o ≡ (Some n, rs) → Reached (t ∷ ts) s n rs
      go ih None goes e = absurd (none-some n (ap (λ (p : Run State). p.0) e))
      go ih (Some x) goes e = by (stage_step class s x t k goes)
        where
          r : run_of (ctor_reader format features class) ts x ≡ (Some n, (run_of (ctor_reader format features class) ts x).1)
          r = ap (λ (p : Run State). (p.0, (run_of (ctor_reader format features class) ts x).1)) e

          all : emitted s t ++ (run_of (ctor_reader format features class) ts x).1 ≡ rs
          all = ap (λ (p : Run State). p.1) e

          on : Reached ts x n (run_of (ctor_reader format features class) ts x).1 → Reached (t ∷ ts) s n rs
          on (inside j) = inside j
          on (ended_by front m qs split ran roles here end) =
              ended_by (t ∷ front) m (emitted s t ++ qs) (ap (λ w. t ∷ w) split) (ap (then_run (run_of (ctor_reader format features class) front) (emitted s t)) goes ∙ ap (λ (p : Run State). (p.0, emitted s t ++ p.1)) ran) (sym all ∙ ap (λ q. emitted s t ++ q) roles ∙ sym (append_assoc (emitted s t) qs (other_token ∷ []))) here end

          by : StageNext class s t x → Reached (t ∷ ts) s n rs
          by (goes_on j) = on (ih x j r)
          by (ends_now here end is) =
              let nothing = end_only ts x n (run_of (ctor_reader format features class) ts x).1 (ap (λ (y : State). y.mode) is) r in
              ended_by [] s [] (ap (λ w. t ∷ w) nothing.0 ∙ ap (λ u. u ∷ []) end) refl (sym all ∙ ap (λ q. emitted s t ++ q) nothing.2 ∙ append-nil (emitted s t) ∙ end_plain s t here end) here (sym nothing.1 ∙ is)

-- ---- how a state is completed

-- tokens with which a constructor can end
unfoldable pub second_end : List ℕ → List Token
second_end w = Id w ∷ (Semicolon ∷ (CloseBrace ∷ []))

unfoldable pub sends_end : List Token
sends_end = CloseParen ∷ (Semicolon ∷ (CloseBrace ∷ []))

unfoldable pub body_end : List Token
body_end = OpenBrace ∷ (SuperWord ∷ (OpenParen ∷ sends_end))

unfoldable pub params_end : List Token
params_end = CloseParen ∷ body_end

unfoldable pub assign_end : List Token
assign_end = Dot ∷ (Id [] ∷ (Equals ∷ second_end []))

closing : Mode → State → List Token
closing (AfterAt (node.Param owner.Constructor) off) s = Id [] ∷ (Id [] ∷ (Id [] ∷ params_end))
closing (AfterAt node.Send off) s = Id [] ∷ (Id [] ∷ sends_end)
closing (AfterAt node.Assign off) s = Id [] ∷ (ThisWord ∷ assign_end)
closing (AfterMark (node.Param owner.Constructor)) s = Id [] ∷ (Id [] ∷ params_end)
closing (AfterMark node.Send) s = Id [] ∷ sends_end
closing (AfterMark node.Assign) s = ThisWord ∷ assign_end
closing (InParams owner.Constructor) s = params_end
closing (AfterParamComma owner.Constructor) s = Id [] ∷ (Id [] ∷ params_end)
closing (AfterParamType owner.Constructor) s = Id [] ∷ params_end
closing (AfterParam owner.Constructor) s = params_end
closing (AfterParams owner.Constructor) s = body_end
closing InBody s = SuperWord ∷ (OpenParen ∷ sends_end)
closing AfterSuper s = OpenParen ∷ sends_end
closing InSends s = sends_end
closing AfterSendComma s = Id [] ∷ sends_end
closing AfterSend s = sends_end
closing AfterSends s = Semicolon ∷ (CloseBrace ∷ [])
closing AfterThis s = assign_end
closing AfterThisDot s = Id [] ∷ (Equals ∷ second_end [])
closing AfterAssigned s = Equals ∷ second_end s.last
closing AfterEquals s = second_end s.last
closing AfterSecondName s = Semicolon ∷ (CloseBrace ∷ [])
closing _ s = CloseBrace ∷ []

-- a test that holds lets the run go on
through : (b : Bool) (f : State → Run State) (rs : List Role) (n : State) → b ≡ true → Reaches InMethods (f n).0 → Reaches InMethods (then_run f rs (if b then Some n else None)).0
through true f rs n e h = h
through false f rs n e h = no_case e

module _ (format : Format) (features : List (List ℕ)) (class : List ℕ) where
  -- what tokens reach from a state
  abbrev pub reached_by : List Token → State → Option State
  reached_by ts s = (run_of (ctor_reader format features class) ts s).0

  second_closes : (s : State) → Reaches InMethods (reached_by (second_end s.last) (record s { mode = AfterEquals }))
  unfolding run_of second_end
  second_closes s = through (bytes_eq s.last s.last) (run_of (ctor_reader format features class) (Semicolon ∷ (CloseBrace ∷ []))) (used_name s.last ∷ []) (record s { mode = AfterSecondName; last = unnamed }) (same_name s.last) refl

  name_closes : (s : State) → s.of ≡ s.name → Reaches InMethods (reached_by (OpenParen ∷ params_end) (record s { mode = AfterType }))
  unfolding run_of params_end body_end sends_end
  name_closes s same = through (bytes_eq s.of s.name) (run_of (ctor_reader format features class) params_end) (other_token ∷ []) (record s { mode = InParams owner.Constructor; of = unnamed }) ((bytes_eq-Decides s.of s.name).1 same) refl

  start_closes : (s : State) → Reaches InMethods (reached_by (Id s.name ∷ (OpenParen ∷ params_end)) (record s { mode = InMembers }))
  unfolding run_of
  start_closes s = through (bytes_eq s.name s.name) (run_of (ctor_reader format features class) (OpenParen ∷ params_end)) (used_name s.name ∷ []) (record s { mode = AfterType; of = s.name }) (same_name s.name) (name_closes (record s { of = s.name }) refl)

  behind_closes : (s : State) → Reaches InMethods (reached_by [] (record s { mode = InMethods }))
  unfolding run_of
  behind_closes s = refl

  -- each state in a constructor is completed by its closing
  closes : (m : Mode) (s : State) → is_in_ctor m ≡ true → Reaches InMethods (reached_by (closing m s) (record s { mode = m }))
  unfolding run_of closing params_end body_end sends_end assign_end second_end
  closes (AfterAt (node.Param owner.Constructor) off) s e = refl
  closes (AfterAt node.Send off) s e = refl
  closes (AfterAt node.Assign off) s e = refl
  closes (AfterMark (node.Param owner.Constructor)) s e = refl
  closes (AfterMark node.Send) s e = refl
  closes (AfterMark node.Assign) s e = refl
  closes (InParams owner.Constructor) s e = refl
  closes (AfterParamComma owner.Constructor) s e = refl
  closes (AfterParamType owner.Constructor) s e = refl
  closes (AfterParam owner.Constructor) s e = refl
  closes (AfterParams owner.Constructor) s e = refl
  closes InBody s e = refl
  closes AfterSuper s e = refl
  closes InSends s e = refl
  closes AfterSendComma s e = refl
  closes AfterSend s e = refl
  closes AfterSends s e = refl
  closes InAssigns s e = refl
  closes AfterThis s e = refl
  closes AfterThisDot s e = refl
  closes AfterAssigned s e = second_closes s
  closes AfterEquals s e = second_closes s
  closes AfterSecondName s e = refl
  closes _ s e = no_case e

  -- tokens that lead behind the constructor
  pub stage_closes : (s : State) → CtorStage class s → (more : List Token) × Reaches InMethods (reached_by more s)
  stage_closes s (before_it here name) = (Id s.name ∷ (OpenParen ∷ params_end), subst (λ m. Reaches InMethods (reached_by (Id s.name ∷ (OpenParen ∷ params_end)) (record s { mode = m }))) (sym here) (start_closes s))
  stage_closes s (behind_name here same) = (OpenParen ∷ params_end, subst (λ m. Reaches InMethods (reached_by (OpenParen ∷ params_end) (record s { mode = m }))) (sym here) (name_closes s same))
  stage_closes s (in_it within) = (closing s.mode s, closes s.mode s within)
  stage_closes s (behind_it here) = ([], subst (λ m. Reaches InMethods (reached_by [] (record s { mode = m }))) (sym here) (behind_closes s))
