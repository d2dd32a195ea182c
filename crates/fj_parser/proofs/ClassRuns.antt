-- The machine for a single class: it goes as that for projects does, up to the end of the class.
use Rattle.std.proofs.Common.{◌≡◌, ℕ, suc, ◌+◌, ◌*◌, ◌≤◌, false, List, [], ◌∷◌, length, Some, refl, sym, ◌∙◌, ap, subst, arith}
use Rattle.std.proofs.lemmas.Bool.{leb-true}
use Rattle.std.proofs.lemmas.Option.{none-some, same_Some}
use Rattle.cfj_model.specs.declared.class.Class.{Class}
use Rattle.cfj_model.specs.Grammar.{ClassTree, spell_class, value_class}
use Rattle.cfj_model.specs.Roles.{Role}
use Rattle.cfj_words.specs.Tokens.{Token, ClassWord, At, End}
use Rattle.cfj_model.specs.TreeRoles.{roles_class}
use Rattle.cfj_model.specs.declared.feature_model.Format.{Format}
use Rattle.fj_parser.specs.declared.goal.Goal.TheVariants as goal
use Rattle.fj_machine.specs.declared.mode.Mode.{Mode}
use Rattle.fj_machine.specs.declared.mode.Mode.TheVariants.{BetweenClasses, AfterAt, AfterClass, AtEnd}
use Rattle.fj_machine.specs.declared.mode.Node.TheVariants as node
use Rattle.fj_parser.specs.Goals.{none_yet, class_or_end, step_for, reader_for}
use Rattle.fj_machine.specs.Machine.{unnamed, State, behind, step_in, run}
use Rattle.fj_machine.specs.Readers.{Reader, with_roles, run_of}
use Rattle.fj_parser.proofs.Complete.{class_run}
use Rattle.fj_parser.proofs.Parts.{Follows, here_run, same_run, region, phase, Moves, kept, grown, moves, phase_grows}
use Rattle.fj_parser.proofs.Readers.{on_from, run_append}
use Rattle.fj_parser.proofs.Spelled.{class_grammar_is_plain}

abbrev pub class_reader : Format → List (List ℕ) → Reader
class_reader format features = reader_for goal.Class format features unnamed

-- ---- what it takes, the machine for projects takes

-- between classes
narrow_between : (cs : List Class) (s n : State) (t : Token) → class_or_end cs s t ≡ Some n → step_in BetweenClasses s t ≡ Some n
narrow_between [] s n End h = absurd (none-some n h)
narrow_between [] s n t h = h
narrow_between (k ∷ cs) s n End h = h
narrow_between (k ∷ cs) s n t h = absurd (none-some n h)

pub narrow_in : (m : Mode) (s n : State) (t : Token) → step_for goal.Class m s t ≡ Some n → step_in m s t ≡ Some n
narrow_in BetweenClasses s n t h = narrow_between s.classes s n t h
narrow_in _ s n t h = h

-- The class isn't whole yet, or it is, or the end of its text was read.
pub data Stage (s : State) : Type 0 where
  in_first : s.classes ≡ [] → 1 ≤ region s.mode (none_yet s.methods) → Stage s
  behind_first : s.mode ≡ BetweenClasses → Stage s
  behind_end : s.mode ≡ AtEnd → Stage s

stage_between : (cs : List Class) (s n : State) (t : Token) → s.classes ≡ cs → class_or_end cs s t ≡ Some n → Stage n
stage_between [] s n End e h = absurd (none-some n h)
stage_between [] s n At e h = subst Stage (same_Some (record s { mode = AfterAt node.Class false }) n h) (in_first e (omega arith))
stage_between [] s n ClassWord e h = subst Stage (same_Some (record s { mode = AfterClass }) n h) (in_first e (omega arith))
stage_between [] s n t e h = absurd (none-some n h)
stage_between (k ∷ cs) s n End e h = behind_end (ap (λ (x : State). x.mode) (sym (same_Some (record s { mode = AtEnd }) n h)))
stage_between (k ∷ cs) s n t e h = absurd (none-some n h)

stage_step : (s n : State) (t : Token) → Stage s → step_for goal.Class s.mode s t ≡ Some n → Stage n
stage_step s n t (in_first none on) h = by (moves s n t (narrow_in s.mode s n t h))
  where
    by : Moves (region s.mode (none_yet s.methods)) s.classes n → Stage n
    by (kept same later) =
        let far : region s.mode (none_yet s.methods) ≤ region n.mode (none_yet n.methods) = leb-true (region s.mode (none_yet s.methods)) (region n.mode (none_yet n.methods)) later in
        in_first (same ∙ none) (omega (arith, far, on))
    by (grown k more here few) = behind_first here
stage_step s n t (behind_first here) h = stage_between s.classes s n t refl (ap (λ m. step_for goal.Class m s t) (sym here) ∙ h)
stage_step s n t (behind_end here) h = absurd (none-some n (ap (λ m. step_for goal.Class m s t) (sym here) ∙ h))

narrows : Follows goal.Class goal.Project Stage (λ s. Unit {0})
narrows = record { onwards = λ s n t here h. stage_step s n t here h; back = λ s n t h k. tt; same = λ s n t here k h. narrow_in s.mode s n t h }

-- each run is one of the machine for projects
narrow_any : Follows goal.Class goal.Project (λ s. Unit {0}) (λ s. Unit {0})
narrow_any = record { onwards = λ s n t here h. tt; back = λ s n t h k. tt; same = λ s n t here k h. narrow_in s.mode s n t h }

pub narrow_run : (format : Format) (features : List (List ℕ)) (ts : List Token) (s n : State) (rs : List Role) → run_of (class_reader format features) ts s ≡ (Some n, rs) → run ts s ≡ (Some n, rs)
narrow_run format features ts s n rs h = same_run goal.Class goal.Project (λ x. Unit {0}) (λ x. Unit {0}) narrow_any format format features [] unnamed unnamed ts s n rs tt tt h

-- each state that is reached is in such a stage
pub stage_reached : (format : Format) (features : List (List ℕ)) (ts : List Token) (s : State) (rs : List Role) → run_of (class_reader format features) ts (behind format features [] []) ≡ (Some s, rs) → Stage s
stage_reached format features ts s rs h = here_run goal.Class goal.Project Stage (λ x. Unit {0}) narrows format format features [] unnamed unnamed ts (behind format features [] []) s rs (in_first refl (omega arith)) h

-- ---- and the other way round, up to the end of the first class

-- up to there
abbrev pub IsInFirst : State → Type 0
IsInFirst s = phase s ≤ 11

wide_between : (cs : List Class) (s n : State) (t : Token) → s.classes ≡ cs → IsInFirst n → step_in BetweenClasses s t ≡ Some n → class_or_end cs s t ≡ Some n
wide_between [] s n End e k h =
    let far : phase n ≡ 10 * length s.classes + 30 = ap phase (sym (same_Some (record s { mode = AtEnd }) n h)) in
    absurd (omega (arith, far, k))
wide_between [] s n t e k h = h
wide_between (c ∷ cs) s n At e k h =
    let far : phase n ≡ 10 * length s.classes + 2 = ap phase (sym (same_Some (record s { mode = AfterAt node.Class false }) n h)) in
    let long : length s.classes ≡ suc (length cs) = ap length e in
    absurd (omega (arith, far, long, k))
wide_between (c ∷ cs) s n ClassWord e k h =
    let far : phase n ≡ 10 * length s.classes + 2 = ap phase (sym (same_Some (record s { mode = AfterClass }) n h)) in
    let long : length s.classes ≡ suc (length cs) = ap length e in
    absurd (omega (arith, far, long, k))
wide_between (c ∷ cs) s n t e k h = h

wide_in : (m : Mode) (s n : State) (t : Token) → IsInFirst n → step_in m s t ≡ Some n → step_for goal.Class m s t ≡ Some n
wide_in BetweenClasses s n t k h = wide_between s.classes s n t refl k h
wide_in _ s n t k h = h

widens : Follows goal.Project goal.Class (λ s. Unit {0}) IsInFirst
widens =
    record {
      onwards = λ s n t here h. tt;
      back = λ s n t h k. (let on : phase s ≤ phase n = phase_grows s n t h in omega (arith, on, k));
      same = λ s n t here k h. wide_in s.mode s n t k h;
    }

pub wide_run : (format : Format) (features : List (List ℕ)) (ts : List Token) (s n : State) (rs : List Role) → phase n ≤ 11 → run ts s ≡ (Some n, rs) → run_of (class_reader format features) ts s ≡ (Some n, rs)
wide_run format features ts s n rs k h = same_run goal.Project goal.Class (λ x. Unit {0}) IsInFirst widens format format [] features unnamed unnamed ts s n rs tt k h

-- ---- a class

-- behind it
abbrev pub behind_class : Format → List (List ℕ) → ClassTree → State
behind_class format features k = behind format features [] (value_class features k ∷ [])

class_alone : (format : Format) (features : List (List ℕ)) (k : ClassTree) → run_of (class_reader format features) (spell_class k []) (behind format features [] []) ≡ (Some (behind_class format features k), roles_class k [])
unfolding run_of
class_alone format features k = wide_run format features (spell_class k []) (behind format features [] []) (behind_class format features k) (roles_class k []) (omega arith) (class_run k [] format features [] [])

-- a class, and more
pub class_runs : (format : Format) (features : List (List ℕ)) (k : ClassTree) (ts : List Token) → run_of (class_reader format features) (spell_class k ts) (behind format features [] []) ≡ with_roles (roles_class k []) (run_of (class_reader format features) ts (behind_class format features k))
class_runs format features k ts =
    ap (λ w. run_of (class_reader format features) w (behind format features [] [])) ((class_grammar_is_plain format features).spells k [] ts)
    ∙ run_append (class_reader format features) (spell_class k []) ts (behind format features [] [])
    ∙ ap (on_from (class_reader format features) ts) (class_alone format features k)
