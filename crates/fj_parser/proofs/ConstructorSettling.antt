-- What waits is settled first, also where a constructor is read by itself: its runs are those of a class's text.
use Rattle.std.proofs.Common.{◌≡◌, ℕ, Bool, true, false, List, [], ◌∷◌, ◌++◌, Option, Some, None, refl, sym, ◌∙◌, ap}
use Rattle.std.proofs.lemmas.List.{append-nil}
use Rattle.std.proofs.lemmas.Option.{none-some, same_Some}
use Rattle.std.specs.Str.{bytes_eq}
use Rattle.cfj_model.specs.Roles.{Role, other_token}
use Rattle.cfj_model.specs.declared.feature_model.Format.{Format}
use Rattle.cfj_words.specs.Tokens.{Token, Id, CloseBrace, End}
use Rattle.fj_parser.specs.Laws.{Settles}
use Rattle.fj_parser.specs.declared.goal.Goal.TheVariants as goal
use Rattle.fj_machine.specs.declared.mode.Mode.{Mode}
use Rattle.fj_machine.specs.declared.mode.Mode.TheVariants.{InMembers, AfterType, InMethods, AtEnd}
use Rattle.fj_parser.specs.Goals.{ends, step_for}
use Rattle.fj_machine.specs.Machine.{State, with_class, pending, emitted, step_in, run}
use Rattle.fj_machine.specs.Readers.{Run, then_run, run_of}
use Rattle.fj_parser.proofs.ConstructorRuns.{ctor_reader, no_case, passes}
use Rattle.fj_parser.proofs.ConstructorStages.{end_only, end_plain}
use Rattle.fj_parser.proofs.Law.{run_settles}
use Rattle.fj_parser.proofs.ListsSound.{is_whole_in}
use Rattle.fj_parser.proofs.Standing.{emitted_in}

-- behind a constructor
abbrev is_behind : Mode → Bool
is_behind InMethods = true
is_behind _ = false

-- elsewhere the machine for projects takes what that for a constructor takes
narrow_elsewhere : (m : Mode) (s n : State) (t : Token) → is_behind m ≡ false → step_for goal.Constructor m s t ≡ Some n → step_in m s t ≡ Some n
narrow_elsewhere InMembers s n (Id w) e h = passes (bytes_eq w s.name) s n w h
narrow_elsewhere InMembers s n t e h = absurd (none-some n h)
narrow_elsewhere AfterType s n (Id w) e h = absurd (none-some n h)
narrow_elsewhere AfterType s n t e h = h
narrow_elsewhere InMethods s n t e h = no_case (sym e)
narrow_elsewhere _ s n t e h = h

-- behind it, it takes the end
takes_end : (s n : State) (t : Token) → ends s t ≡ Some n → (t ≡ End) × (record s { mode = AtEnd } ≡ n)
takes_end s n End h = (refl, same_Some (record s { mode = AtEnd }) n h)
takes_end s n t h = absurd (none-some n h)

is_there : (m : Mode) → is_behind m ≡ true → m ≡ InMethods
is_there InMethods e = refl
is_there _ e = no_case e

-- a run of the machine for projects from here, with these roles, to where a text may stop
record Whole (s : State) (rs : List Role) : Type 0 where
  ts : List Token
  last : State
  whole : is_whole_in last.mode ≡ true
  ran : run ts s ≡ (Some last, rs)

-- the brace that closes a class, in place of the end
brace_run : (s : State) → s.mode ≡ InMethods → run (CloseBrace ∷ []) s ≡ (Some (with_class s), other_token ∷ [])
unfolding run_of
brace_run s here =
    ap (λ m. then_run (run []) (emitted_in m s CloseBrace) (step_in m s CloseBrace)) here

module _ (format : Format) (features : List (List ℕ)) (class : List ℕ) where
  -- each run to the end gives the roles of such a one
  whole_run : (ts : List Token) (s n : State) (rs : List Role) → n.mode ≡ AtEnd → run_of (ctor_reader format features class) ts s ≡ (Some n, rs) → Whole s rs
  unfolding run_of
  whole_run [] s n rs at_end e = record { ts = []; last = n; whole = ap is_whole_in at_end; ran = e }
  whole_run (t ∷ ts) s n rs at_end e = go (λ x r. whole_run ts x n (run_of (ctor_reader format features class) ts x).1 at_end r) (step_for goal.Constructor s.mode s t) refl e
    where
      go : ((x : State) → run_of (ctor_reader format features class) ts x ≡ (Some n, (run_of (ctor_reader format features class) ts x).1) → Whole x (run_of (ctor_reader format features class) ts x).1)
          → (o : Option State) → step_for goal.Constructor s.mode s t ≡ o → then_run (run_of (ctor_reader format features class) ts) (emitted s t) o ≡ (Some n, rs) → Whole s rs
      go ih None goes e = absurd (none-some n (ap (λ (p : Run State). p.0) e))
      go ih (Some x) goes e = by (is_behind s.mode) refl
        where
          r : run_of (ctor_reader format features class) ts x ≡ (Some n, (run_of (ctor_reader format features class) ts x).1)
          r = ap (λ (p : Run State). (p.0, (run_of (ctor_reader format features class) ts x).1)) e

          all : emitted s t ++ (run_of (ctor_reader format features class) ts x).1 ≡ rs
          all = ap (λ (p : Run State). p.1) e

          by : (b : Bool) → is_behind s.mode ≡ b → Whole s rs
          by true there =
              let here : s.mode ≡ InMethods = is_there s.mode there in
              let end = takes_end s x t (ap (λ m. step_for goal.Constructor m s t) (sym here) ∙ goes) in
              let nothing = end_only format features class ts x n (run_of (ctor_reader format features class) ts x).1 (ap (λ (y : State). y.mode) (sym end.1)) r in
              let same : other_token ∷ [] ≡ rs = sym (end_plain format features class s t here end.0) ∙ sym (append-nil (emitted s t)) ∙ ap (λ q. emitted s t ++ q) (sym nothing.2) ∙ all in
              record { ts = CloseBrace ∷ []; last = with_class s; whole = refl; ran = brace_run s here ∙ ap (λ (q : List Role). (Some (with_class s), q)) same }
          by false elsewhere =
              let w = ih x r in
              record {
                ts = t ∷ w.ts;
                last = w.last;
                whole = w.whole;
                ran = ap (then_run (run w.ts) (emitted s t)) (narrow_elsewhere s.mode s x t elsewhere goes) ∙ ap (λ (p : Run State). (p.0, emitted s t ++ p.1)) w.ran ∙ ap (λ (q : List Role). (Some w.last, q)) all;
              }

  -- what waits is settled first
  pub ctor_settles : (ts : List Token) (s n : State) (rs : List Role) → n.mode ≡ AtEnd → run_of (ctor_reader format features class) ts s ≡ (Some n, rs) → Settles (pending s) rs
  ctor_settles ts s n rs at_end ran =
      let w = whole_run ts s n rs at_end ran in
      run_settles w.ts s w.last rs w.whole w.ran
