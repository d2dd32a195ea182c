-- The laws of the machine for a single class: it reads the texts of classes and no others, and each state can be completed.
use Rattle.std.proofs.Common.{◌≡◌, ℕ, suc, true, false, List, [], ◌∷◌, ◌++◌, length, Some, None, refl, sym, ◌∙◌, ap, subst, arith}
use Rattle.std.proofs.lemmas.Option.{same_Some}
use Rattle.cfj_model.specs.declared.class.Class.{Class}
use Rattle.cfj_model.specs.Languages.{single_classes}
use Rattle.cfj_model.specs.Grammar.{ClassTree, spell_class, value_class}
use Rattle.cfj_model.specs.Marks.{in_order, spell_marks}
use Rattle.cfj_model.specs.Roles.{Role, other_token}
use Rattle.cfj_words.specs.Tokens.{Token, Id, ClassWord, End}
use Rattle.cfj_model.specs.TreeRoles.{roles_class}
use Rattle.cfj_model.specs.declared.feature_model.Format.{Format}
use Rattle.cfj_model.specs.declared.signed.Signed.{Signed}
use Rattle.fj_symbols.specs.Views.{are_read}
use Rattle.fj_parser.specs.Laws.{Closes, GoesByName, Reads}
use Rattle.fj_parser.specs.declared.goal.Goal.TheVariants as goal
use Rattle.fj_machine.specs.declared.mode.Mode.{Mode}
use Rattle.fj_machine.specs.declared.mode.Mode.TheVariants.{BetweenClasses, AtEnd}
use Rattle.fj_parser.specs.Goals.{class_or_end, step_for, takes_name_for, reader_for}
use Rattle.fj_machine.specs.Machine.{unnamed, State, behind, class_of, start, pending, emitted}
use Rattle.fj_machine.specs.Readers.{Run, with_roles, run_of}
use Rattle.fj_parser.proofs.ClassClosing.{ClassEnding, class_ending}
use Rattle.fj_parser.proofs.ClassRuns.{class_reader, narrow_in, narrow_run, stage_reached, behind_class, class_runs}
use Rattle.fj_parser.proofs.Closing.{Reaches}
use Rattle.fj_parser.proofs.Law.{end_ends, run_settles}
use Rattle.fj_parser.proofs.ListsSound.{is_whole_in, is_whole}
use Rattle.fj_parser.proofs.Naming.{Kept, kept_run, name_goes, name_stops}
use Rattle.fj_parser.proofs.Parts.{same_but_last}
use Rattle.fj_parser.proofs.Readers.{on_from, run_append, run_more}
use Rattle.fj_parser.proofs.Sound.{Tail, no_end, an_end, Classes, classes_read}
use Rattle.fj_parser.proofs.Spelled.{class_grammar_is_plain}
use Rattle.fj_parser.proofs.Standing.{Stands, stands_run, waiting_settled, each_once}

-- ---- the text of each class is read

-- behind a class and the end
abbrev pub class_ended : Format → List (List ℕ) → ClassTree → State
class_ended format features k = record (behind_class format features k) { mode = AtEnd }

end_run : (format : Format) (features : List (List ℕ)) (k : ClassTree) → run_of (class_reader format features) (End ∷ []) (behind_class format features k) ≡ (Some (class_ended format features k), other_token ∷ [])
unfolding run_of
end_run format features k = refl

class_text_runs : (format : Format) (features : List (List ℕ)) (k : ClassTree) → run_of (class_reader format features) (spell_class k (End ∷ [])) (behind format features [] []) ≡ (Some (class_ended format features k), roles_class k (other_token ∷ []))
class_text_runs format features k =
    class_runs format features k (End ∷ [])
    ∙ ap (with_roles (roles_class k [])) (end_run format features k)
    ∙ ap (λ (q : List Role). (Some (class_ended format features k), q)) (sym ((class_grammar_is_plain format features).gives k [] (other_token ∷ [])))

-- the class that a state stands for, once it is whole
abbrev pub first_class : List Class → Class
first_class [] = class_of start
first_class (k ∷ ks) = k

-- ---- what is read to the end is a class

-- a second class doesn't begin
no_second : (format : Format) (features : List (List ℕ)) (k : ClassTree) (ms : List Signed) (ts : List Token) → (run_of (class_reader format features) (spell_marks ms (ClassWord ∷ ts)) (behind_class format features k)).0 ≡ None
unfolding run_of
no_second format features k [] ts = refl
no_second format features k (m ∷ ms) ts = refl

no_text : (format : Format) (features : List (List ℕ)) → (run_of (class_reader format features) (End ∷ []) (behind format features [] [])).0 ≡ None
unfolding run_of
no_text format features = refl

-- nothing was read
still_there : (format : Format) (features : List (List ℕ)) (s : State) → (run_of (class_reader format features) [] s).0 ≡ Some s
unfolding run_of
still_there format features s = refl

-- tokens that lead to the end
closed_text : (format : Format) (features : List (List ℕ)) (ts : List Token) → Reaches AtEnd (run_of (class_reader format features) ts (behind format features [] [])).0 → (k : ClassTree) × (ts ≡ spell_class k (End ∷ []))
closed_text format features ts h = by (run_of (class_reader format features) ts (behind format features [] [])) refl h
  where
    of_classes : (ks : List ClassTree) (rest : List Token) → Tail rest → ts ≡ in_order spell_class ks rest → (k : ClassTree) × (ts ≡ spell_class k (End ∷ []))
    of_classes [] _ no_end is =
        let at_end : BetweenClasses ≡ AtEnd = subst (Reaches AtEnd) (ap (λ w. (run_of (class_reader format features) w (behind format features [] [])).0) is ∙ still_there format features (behind format features [] [])) h in
        absurd (let no : ⊥ = cc at_end in no)
    of_classes [] _ an_end is = absurd (subst (Reaches AtEnd) (ap (λ w. (run_of (class_reader format features) w (behind format features [] [])).0) is ∙ no_text format features) h)
    of_classes (k ∷ []) _ no_end is =
        let at_end : BetweenClasses ≡ AtEnd = subst (Reaches AtEnd) (ap (λ w. (run_of (class_reader format features) w (behind format features [] [])).0) is ∙ ap (λ (p : Run State). p.0) (class_runs format features k []) ∙ still_there format features (behind_class format features k)) h in
        absurd (let no : ⊥ = cc at_end in no)
    of_classes (k ∷ []) _ an_end is = (k, is)
    of_classes (k ∷ (j ∷ ks)) rest tail is = absurd (subst (Reaches AtEnd) (ap (λ w. (run_of (class_reader format features) w (behind format features [] [])).0) is ∙ ap (λ (p : Run State). p.0) (class_runs format features k (in_order spell_class (j ∷ ks) rest)) ∙ no_second format features k j.marks _) h)

    by : (p : Run State) → run_of (class_reader format features) ts (behind format features [] []) ≡ p → Reaches AtEnd p.0 → (k : ClassTree) × (ts ≡ spell_class k (End ∷ []))
    by (None, rs) ran r = absurd r
    by (Some n, rs) ran r =
        let c : Classes ts = classes_read (suc (length ts)) ts (omega arith) format features [] [] (ap (λ (p : Run State). is_whole p.0) (narrow_run format features ts (behind format features [] []) n rs ran) ∙ ap is_whole_in r) in
        of_classes c.classes c.rest c.tail c.spelled

-- where the end may follow, the tokens so far are a class
sound : (format : Format) (features : List (List ℕ)) (ts : List Token) (s n : State) (rs : List Role) → run_of (class_reader format features) ts (behind format features [] []) ≡ (Some s, rs) → step_for goal.Class s.mode s End ≡ Some n → (k : ClassTree) × (ts ≡ spell_class k [])
sound format features ts s n rs ran ends =
    let more : run_of (class_reader format features) (ts ++ End ∷ []) (behind format features [] []) ≡ (Some n, rs ++ emitted s End) = run_more (class_reader format features) ts End s n rs ran ends in
    let at_end : n.mode ≡ AtEnd = end_ends s.mode s n (narrow_in s.mode s n End ends) in
    let whole = closed_text format features (ts ++ End ∷ []) (subst (λ (p : Run State). Reaches AtEnd p.0) (sym more) at_end) in
    (whole.0, same_but_last ts (spell_class whole.0 []) End End (whole.1 ∙ (class_grammar_is_plain format features).spells whole.0 [] (End ∷ [])))

-- ---- what is read begins a class

-- what is known of each state that is reached
reached : (format : Format) (features : List (List ℕ)) (ts : List Token) (s : State) (rs : List Role) → run_of (class_reader format features) ts (behind format features [] []) ≡ (Some s, rs) → Stands s rs
reached format features ts s rs ran = stands_run ts (behind format features [] []) s [] rs (record { formula_goes = refl; holds = record { settled = refl; none = refl } }) (narrow_run format features ts (behind format features [] []) s rs ran)

closes : (format : Format) (features : List (List ℕ)) (ts : List Token) (s : State) (rs : List Role) → run_of (class_reader format features) ts (behind format features [] []) ≡ (Some s, rs) → Closes (single_classes format features) ts rs (pending s)
closes format features ts s rs ran =
    let e : ClassEnding format features s = class_ending format features s rs (stage_reached format features ts s rs ran) (reached format features ts s rs ran).holds in
    let all : run_of (class_reader format features) (ts ++ e.more) (behind format features [] []) ≡ ((run_of (class_reader format features) e.more s).0, rs ++ (run_of (class_reader format features) e.more s).1) = run_append (class_reader format features) ts e.more (behind format features [] []) ∙ ap (on_from (class_reader format features) e.more) ran in
    let t = closed_text format features (ts ++ e.more) (subst (λ (p : Run State). Reaches AtEnd p.0) (sym all) e.reaches) in
    record {
      tree = t.0;
      more = e.more;
      others = e.others;
      text = t.1;
      in_roles = ap (λ (p : Run State). p.1) (sym (class_text_runs format features t.0) ∙ ap (λ w. run_of (class_reader format features) w (behind format features [] [])) (sym t.1) ∙ all) ∙ ap (λ (q : List Role). rs ++ q) e.begins;
    }

-- ---- names

-- where some identifier could stand, one can
class_named : (format : Format) (features : List (List ℕ)) (ts : List Token) (s : State) (rs : List Role) → run_of (class_reader format features) ts (behind format features [] []) ≡ (Some s, rs) → are_read ts ≡ true → takes_name_for goal.Class s.mode s ≡ true → GoesByName (class_reader format features) s
class_named format features ts s rs ran read takes = by s.mode refl takes
  where
    by : (m : Mode) → s.mode ≡ m → takes_name_for goal.Class m s ≡ true → GoesByName (class_reader format features) s
    by BetweenClasses here takes = absurd (let no : ⊥ = cc takes in no)
    by m here takes =
        let n = name_goes m s (subst (λ x. Kept x s) here (kept_run ts (behind format features [] []) s tt read (ap (λ (p : Run State). p.0) (narrow_run format features ts (behind format features [] []) s rs ran)))) takes in
        record { name = n.name; next = n.next; is = n.is; goes = ap (λ x. step_for goal.Class x s (Id n.name)) here ∙ n.goes }

-- and elsewhere none can
class_unnamed : (m : Mode) (s : State) (w : List ℕ) → takes_name_for goal.Class m s ≡ false → step_for goal.Class m s (Id w) ≡ None
class_unnamed BetweenClasses s w e = by s.classes
  where
    by : (cs : List Class) → class_or_end cs s (Id w) ≡ None
    by [] = refl
    by (k ∷ ks) = refl
class_unnamed m s w e = name_stops m s w e

-- ---- all laws together

-- the machine for a single class reads the texts of classes
pub class_laws : (format : Format) (features : List (List ℕ)) → Reads (single_classes format features) (reader_for goal.Class format features unnamed)
class_laws format features =
    record {
      grammar = class_grammar_is_plain format features;
      ended = class_ended format features;
      stands_for = λ s. first_class s.classes;
      valued = λ k. refl;
      complete = class_text_runs format features;
      sound = sound format features;
      closes = closes format features;
      first = refl;
      last = λ k. refl;
      each = λ ts s n rs t ran goes. each_once s n t rs (reached format features ts s rs ran) (narrow_in s.mode s n t goes);
      settles = λ ts s k rs ran. run_settles ts s (class_ended format features k) rs refl (narrow_run format features ts s (class_ended format features k) rs ran);
      settled = λ ts s rs ran. waiting_settled s.mode s rs (reached format features ts s rs ran).holds;
      named = class_named format features;
      unnamed = λ s w is free. class_unnamed s.mode s w free;
    }

-- ---- for what reads classes

-- a whole text was read to the state behind a class
whole_ends : (format : Format) (features : List (List ℕ)) (ts : List Token) (s n : State) (rs : List Role) → run_of (class_reader format features) ts (behind format features [] []) ≡ (Some s, rs) → step_for goal.Class s.mode s End ≡ Some n → (k : ClassTree) × (n ≡ class_ended format features k)
whole_ends format features ts s n rs ran ends =
    let more : run_of (class_reader format features) (ts ++ End ∷ []) (behind format features [] []) ≡ (Some n, rs ++ emitted s End) = run_more (class_reader format features) ts End s n rs ran ends in
    let x = sound format features ts s n rs ran ends in
    let text : spell_class x.0 (End ∷ []) ≡ ts ++ End ∷ [] = (class_grammar_is_plain format features).spells x.0 [] (End ∷ []) ∙ ap (λ w. w ++ End ∷ []) (sym x.1) in
    (x.0, same_Some n (class_ended format features x.0) (ap (λ (p : Run State). p.0) (sym more ∙ ap (λ w. run_of (class_reader format features) w (behind format features [] [])) (sym text) ∙ class_text_runs format features x.0)))

-- behind the end of a text one class was read, and the state stands for it
pub class_stands : (format : Format) (features : List (List ℕ)) (ts : List Token) (s n : State) (rs : List Role) → run_of (class_reader format features) ts (behind format features [] []) ≡ (Some s, rs) → step_for goal.Class s.mode s End ≡ Some n → (k : Class) × (n.classes ≡ k ∷ []) × ((class_laws format features).stands_for n ≡ k)
unfolding class_laws
class_stands format features ts s n rs ran ends =
    let x = whole_ends format features ts s n rs ran ends in
    (value_class features x.0, ap (λ (m : State). m.classes) x.1, ap (λ (m : State). first_class m.classes) x.1)
