-- The laws of the machine for a single constructor: it reads the texts of constructors and no others, and each state can be completed.
use Rattle.std.proofs.Common.{◌≡◌, ℕ, suc, ◌+◌, Bool, true, false, if◌then◌else◌, List, [], ◌∷◌, ◌++◌, length, Some, None, refl, sym, ◌∙◌, ap, subst, arith, append_assoc, length-append}
use Rattle.std.proofs.lemmas.List.{append-nil}
use Rattle.std.proofs.lemmas.Option.{none-some}
use Rattle.std.proofs.lemmas.Slice.Eq.{bytes_eq-Decides}
use Rattle.std.specs.Str.{bytes_eq}
use Rattle.cfj_model.specs.Grammar.{spell_ctor}
use Rattle.cfj_words.specs.Names.{is_identifier}
use Rattle.cfj_model.specs.Roles.{Role, used_name, other_token, are_settled}
use Rattle.cfj_words.specs.Tokens.{Token, Id, OpenParen, CloseBrace, End}
use Rattle.cfj_model.specs.TreeRoles.{roles_ctor}
use Rattle.fj_symbols.specs.Views.{are_read}
use Rattle.cfj_model.specs.PartLanguages.{CtorTree, in_class, constructors}
use Rattle.cfj_model.specs.declared.feature_model.Format.{Format}
use Rattle.fj_parser.specs.Laws.{Closes, GoesByName, IsPlainLanguage, Reads}
use Rattle.fj_parser.specs.declared.goal.Goal.TheVariants as goal
use Rattle.fj_machine.specs.declared.mode.Mode.{Mode}
use Rattle.fj_machine.specs.declared.mode.Mode.TheVariants.{InMembers, AfterType, InMethods, InExpression, AtEnd}
use Rattle.fj_parser.specs.Goals.{step_for, takes_name_for, reader_for}
use Rattle.fj_machine.specs.Machine.{State, pending, pending_in, emitted, reader, run, step_in}
use Rattle.fj_machine.specs.Readers.{Run, with_roles, then_run, run_of}
use Rattle.fj_parser.proofs.Closing.{Reaches}
use Rattle.fj_parser.proofs.Complete.{same_name}
use Rattle.fj_parser.proofs.ConstructorRuns.{ctor_reader, before_ctor, behind_one, in_ctor, ctor_runs, no_case, is_end, narrow_in, narrow_run}
use Rattle.fj_parser.proofs.ConstructorSettling.{ctor_settles}
use Rattle.fj_parser.proofs.ConstructorStages.{is_in_ctor, CtorStage, before_it, behind_name, in_it, behind_it, stage_open, StageNext, goes_on, ends_now, stage_step, Reached, inside, ended_by, end_plain, reached_run, reached_by, stage_closes}
use Rattle.fj_parser.proofs.Law.{end_ends}
use Rattle.fj_parser.proofs.ListsSound.{is_whole_in, is_whole, Accepts, never, Read}
use Rattle.fj_parser.proofs.MembersSound as members
use Rattle.fj_parser.proofs.MembersSound.{ctor_rest, behind_this, ctor_read}
use Rattle.fj_parser.proofs.Naming.{Kept, kept_run, name_goes, name_stops}
use Rattle.fj_parser.proofs.Readers.{on_from, run_append}
use Rattle.fj_parser.proofs.Spelled.{ctor_before, ctor_roles_before, ctor_settled}
use Rattle.fj_parser.proofs.Standing.{Stands, stands_run, settled_append, waiting_settled, each_once}

-- what follows a constructor stands behind it, and its roles are settled
pub ctor_grammar_is_plain : (format : Format) (features : List (List ℕ)) (class : List ℕ) → IsPlainLanguage (constructors format features class)
ctor_grammar_is_plain format features class =
    record { spells = λ c a b. ctor_before (in_class class c) a b; gives = λ c a b. ctor_roles_before (in_class class c) a b; settled = λ c. ctor_settled (in_class class c) [] refl }

-- a list and one more item begins with another, before some
ends_in : (a b : List Token) (t r : Token) (rs : List Token) → a ++ t ∷ [] ≡ b ++ r ∷ rs → (v : List Token) × (a ≡ b ++ v)
ends_in a [] t r rs e = (a, refl)
ends_in [] (y ∷ b) t r rs e =
    let long : 1 ≡ suc (length b + suc (length rs)) = ap length e ∙ ap suc (length-append b (r ∷ rs)) in
    absurd (omega (arith, long))
ends_in (x ∷ a) (y ∷ b) t r rs e =
    let first : x ≡ y = cc e in
    let rest : a ++ t ∷ [] ≡ b ++ r ∷ rs = cc e in
    by first (ends_in a b t r rs rest)
  where
    by : x ≡ y → ((v : List Token) × (a ≡ b ++ v)) → (v : List Token) × (x ∷ a ≡ (y ∷ b) ++ v)
    by first (v, is) = (v, cc)

-- behind a constructor, a class can end
class_follows : (m : State) → m.mode ≡ InMethods → Accepts (CloseBrace ∷ []) m
unfolding run_of
class_follows m here = subst (λ x. Accepts (CloseBrace ∷ []) (record m { mode = x })) (sym here) refl

none_left : (s : State) → s.mode ≡ InMethods → Accepts [] s → ⊥
unfolding run_of
none_left s here h = never (sym (ap is_whole_in here) ∙ h)

module _ (format : Format) (features : List (List ℕ)) (class : List ℕ) where
  -- ---- the text of each constructor is read

  -- behind a constructor and the end
  abbrev pub ctor_ended : CtorTree → State
  ctor_ended c = record (behind_one format features class c) { mode = AtEnd }

  end_run : (c : CtorTree) → run_of (ctor_reader format features class) (End ∷ []) (behind_one format features class c) ≡ (Some (ctor_ended c), other_token ∷ [])
  unfolding run_of
  end_run c = refl

  ctor_text_runs : (c : CtorTree) → run_of (ctor_reader format features class) (spell_ctor (in_class class c) (End ∷ [])) (before_ctor format features class) ≡ (Some (ctor_ended c), roles_ctor (in_class class c) (other_token ∷ []))
  ctor_text_runs c =
      ctor_runs format features class c (End ∷ [])
      ∙ ap (with_roles (roles_ctor (in_class class c) [])) (end_run c)
      ∙ ap (λ (q : List Role). (Some (ctor_ended c), q)) (sym (ctor_roles_before (in_class class c) [] (other_token ∷ [])))

  -- ---- what is read behind a constructor is one

  -- where a test has to hold, it holds
  passed : (b : Bool) (f : State → Run State) (rs : List Role) (n : State) → Reaches InMethods (then_run f rs (if b then Some n else None)).0 → (b ≡ true) × Reaches InMethods (f n).0
  passed true f rs n h = (refl, h)
  passed false f rs n h = absurd h

  -- what stands behind the first two tokens
  abbrev Words : List Token → Type 0
  Words ts = (us : List Token) × (ts ≡ Id class ∷ (OpenParen ∷ us)) × Reaches InMethods (reached_by format features class us (in_ctor format features class))

  name_read : (w : List ℕ) (ts : List Token) → w ≡ class → Reaches InMethods (reached_by format features class ts (record (before_ctor format features class) { mode = AfterType; of = w })) → Words (Id w ∷ ts)
  unfolding run_of
  name_read w [] is h = absurd (let no : ⊥ = cc h in no)
  name_read w (OpenParen ∷ us) is h =
      let p = passed (bytes_eq w class) (run_of (ctor_reader format features class) us) (other_token ∷ []) (in_ctor format features class) h in
      (us, ap (λ x. Id x ∷ (OpenParen ∷ us)) is, p.1)
  name_read w _ is h = absurd h

  head_read : (ts : List Token) → Reaches InMethods (reached_by format features class ts (before_ctor format features class)) → Words ts
  unfolding run_of
  head_read [] h = absurd (let no : ⊥ = cc h in no)
  head_read (Id w ∷ ts) h =
      let p = passed (bytes_eq w class) (run_of (ctor_reader format features class) ts) (used_name w ∷ []) (record (before_ctor format features class) { mode = AfterType; of = w }) h in
      name_read w ts ((bytes_eq-Decides w class).0 p.0) p.1
  head_read _ h = absurd h

  -- behind a constructor only the end stands
  nothing_behind : (c : CtorTree) (v : List Token) → Reaches InMethods (reached_by format features class v (behind_one format features class c)) → v ≡ []
  unfolding run_of
  nothing_behind c [] h = refl
  nothing_behind c (End ∷ []) h = absurd (let no : ⊥ = cc h in no)
  nothing_behind c (End ∷ (t ∷ v)) h = absurd h
  nothing_behind c (_ ∷ v) h = absurd h

  tree_of : members.CtorTree → CtorTree
  tree_of c = record { params = c.params; sends = c.sends; assigns = c.assigns }

  -- tokens that lead behind a constructor
  whole_text : (ts : List Token) → Reaches InMethods (reached_by format features class ts (before_ctor format features class)) → (c : CtorTree) × (ts ≡ spell_ctor (in_class class c) [])
  unfolding tree_of
  whole_text ts h = of_words (head_read ts h)
    where
      accepted : (us : List Token) (p : Run State) → run_of (ctor_reader format features class) us (in_ctor format features class) ≡ p → Reaches InMethods p.0 → Accepts (us ++ CloseBrace ∷ []) (in_ctor format features class)
      accepted us (None, rs) ran r = absurd r
      accepted us (Some m, rs) ran r =
          let ours : run us (in_ctor format features class) ≡ (Some m, rs) = narrow_run format features class us (in_ctor format features class) m rs (ap is_end r) ran in
          ap (λ (p : Run State). is_whole p.0) (run_append reader us (CloseBrace ∷ []) (in_ctor format features class) ∙ ap (on_from reader (CloseBrace ∷ [])) ours) ∙ class_follows m r

      of_tokens : (c : CtorTree) (rest : List Token) → ts ++ CloseBrace ∷ [] ≡ spell_ctor (in_class class c) rest → (rest ≡ [] → ⊥) → (c : CtorTree) × (ts ≡ spell_ctor (in_class class c) [])
      of_tokens c [] is some = absurd (some refl)
      of_tokens c (r ∷ rs) is some =
          let v = ends_in ts (spell_ctor (in_class class c) []) CloseBrace r rs (is ∙ ctor_before (in_class class c) [] (r ∷ rs)) in
          let text : ts ≡ spell_ctor (in_class class c) v.0 = v.1 ∙ sym (ctor_before (in_class class c) [] v.0) in
          let none : v.0 ≡ [] = nothing_behind c v.0 (subst (Reaches InMethods) (ap (λ w. reached_by format features class w (before_ctor format features class)) text ∙ ap (λ (p : Run State). p.0) (ctor_runs format features class c v.0)) h) in
          (c, text ∙ ap (spell_ctor (in_class class c)) none)

      of_read : (us : List Token) → ts ≡ Id class ∷ (OpenParen ∷ us) → Read members.CtorTree ctor_rest (behind_this (in_ctor format features class)) (us ++ CloseBrace ∷ []) → (c : CtorTree) × (ts ≡ spell_ctor (in_class class c) [])
      of_read us is r =
          of_tokens (tree_of r.part) r.rest (ap (λ w. w ++ CloseBrace ∷ []) is ∙ ap (λ w. Id class ∷ (OpenParen ∷ w)) r.spelled) (λ e. none_left (behind_this (in_ctor format features class) r.part) refl (subst (λ w. Accepts w (behind_this (in_ctor format features class) r.part)) e r.goes))

      of_words : Words ts → (c : CtorTree) × (ts ≡ spell_ctor (in_class class c) [])
      of_words (us, is, reaches) =
          of_read us is (ctor_read (suc (length (us ++ CloseBrace ∷ []))) (us ++ CloseBrace ∷ []) (omega arith) (in_ctor format features class) (accepted us (run_of (ctor_reader format features class) us (in_ctor format features class)) refl reaches))

  -- where the end may follow
  end_behind : (s n : State) → CtorStage class s → step_for goal.Constructor s.mode s End ≡ Some n → s.mode ≡ InMethods
  end_behind s n k h = by (stage_step class s n End k h)
    where
      by : StageNext class s End n → s.mode ≡ InMethods
      by (goes_on j) =
          let open_still : is_end n.mode ≡ false = stage_open class n j in
          let at_end : n.mode ≡ AtEnd = end_ends s.mode s n (narrow_in s.mode s n End open_still h) in
          no_case (sym open_still ∙ ap is_end at_end)
      by (ends_now here end is) = here

  -- nothing follows the end
  end_refuses : (m s n : State) (t : Token) → s ≡ record m { mode = AtEnd } → step_for goal.Constructor s.mode s t ≡ Some n → ⊥
  end_refuses m s n t is h = none-some n (ap (λ x. step_for goal.Constructor x.mode x t) (sym is) ∙ h)

  abbrev Ran : List Token → State → List Role → Type 0
  Ran ts s rs = run_of (ctor_reader format features class) ts (before_ctor format features class) ≡ (Some s, rs)

  stage_of : (ts : List Token) (s : State) (rs : List Role) → Ran ts s rs → Reached format features class ts (before_ctor format features class) s rs
  stage_of ts s rs ran = reached_run format features class ts (before_ctor format features class) s rs (before_it refl refl) ran

  sound : (ts : List Token) (s n : State) (rs : List Role) → Ran ts s rs → step_for goal.Constructor s.mode s End ≡ Some n → (c : CtorTree) × (ts ≡ spell_ctor (in_class class c) [])
  sound ts s n rs ran h = by (stage_of ts s rs ran)
    where
      by : Reached format features class ts (before_ctor format features class) s rs → (c : CtorTree) × (ts ≡ spell_ctor (in_class class c) [])
      by (inside k) = whole_text ts (subst (λ (p : Run State). Reaches InMethods p.0) (sym ran) (end_behind s n k h))
      by (ended_by front m qs split first roles here is) = absurd (end_refuses m s n End is h)

  -- ---- what is read begins a constructor

  -- what is known of each state before the end
  stands : (ts : List Token) (s : State) (rs : List Role) → is_end s.mode ≡ false → Ran ts s rs → Stands s rs
  stands ts s rs open_still ran = stands_run ts (before_ctor format features class) s [] rs (record { formula_goes = refl; holds = record { settled = refl; none = refl } }) (narrow_run format features class ts (before_ctor format features class) s rs open_still ran)

  -- no expression is in hand
  no_waiting : (s : State) → CtorStage class s → pending s ≡ []
  no_waiting s (before_it here name) = ap (λ m. pending_in m s) here
  no_waiting s (behind_name here same) = ap (λ m. pending_in m s) here
  no_waiting s (in_it within) = by s.mode within
    where
      by : (m : Mode) → is_in_ctor m ≡ true → pending_in m s ≡ []
      by InExpression e = no_case e
      by _ e = refl
  no_waiting s (behind_it here) = ap (λ m. pending_in m s) here

  -- where the end was read
  closes_ended : (ts front : List Token) (s m : State) (rs qs : List Role) → Ran ts s rs → ts ≡ front ++ End ∷ [] → Ran front m qs → m.mode ≡ InMethods → s ≡ record m { mode = AtEnd } → Closes (constructors format features class) ts rs (pending s)
  closes_ended ts front s m rs qs ran split first here is =
      let c = whole_text front (subst (λ (p : Run State). Reaches InMethods p.0) (sym first) here) in
      let text : ts ≡ spell_ctor (in_class class c.0) (End ∷ []) = split ∙ ap (λ w. w ++ End ∷ []) c.1 ∙ sym (ctor_before (in_class class c.0) [] (End ∷ [])) in
      let none : pending s ≡ [] = ap pending is in
      record {
        tree = c.0;
        more = [];
        others = [];
        text = append-nil ts ∙ text;
        in_roles = ap (λ (p : Run State). p.1) (sym (ctor_text_runs c.0) ∙ ap (λ w. run_of (ctor_reader format features class) w (before_ctor format features class)) (sym text) ∙ ran) ∙ sym (ap (λ q. rs ++ (q ++ [])) none ∙ append-nil rs);
      }

  -- and before it
  closes_open : (ts : List Token) (s : State) (rs : List Role) → Ran ts s rs → CtorStage class s → Closes (constructors format features class) ts rs (pending s)
  closes_open ts s rs ran k =
      let e = stage_closes format features class s k in
      let on : run_of (ctor_reader format features class) (ts ++ e.0) (before_ctor format features class) ≡ with_roles rs (run_of (ctor_reader format features class) e.0 s) = run_append (ctor_reader format features class) ts e.0 (before_ctor format features class) ∙ ap (on_from (ctor_reader format features class) e.0) ran in
      let c = whole_text (ts ++ e.0) (subst (λ (p : Run State). Reaches InMethods p.0) (sym on) e.1) in
      let text : ts ++ (e.0 ++ End ∷ []) ≡ spell_ctor (in_class class c.0) (End ∷ []) = sym (append_assoc ts e.0 (End ∷ [])) ∙ ap (λ w. w ++ End ∷ []) c.1 ∙ sym (ctor_before (in_class class c.0) [] (End ∷ [])) in
      let all : run_of (ctor_reader format features class) (ts ++ (e.0 ++ End ∷ [])) (before_ctor format features class) ≡ with_roles rs (run_of (ctor_reader format features class) (e.0 ++ End ∷ []) s) = run_append (ctor_reader format features class) ts (e.0 ++ End ∷ []) (before_ctor format features class) ∙ ap (on_from (ctor_reader format features class) (e.0 ++ End ∷ [])) ran in
      let others : List Role = (run_of (ctor_reader format features class) (e.0 ++ End ∷ []) s).1 in
      record {
        tree = c.0;
        more = e.0 ++ End ∷ [];
        others = others;
        text = text;
        in_roles = ap (λ (p : Run State). p.1) (sym (ctor_text_runs c.0) ∙ ap (λ w. run_of (ctor_reader format features class) w (before_ctor format features class)) (sym text) ∙ all) ∙ ap (λ q. rs ++ (q ++ others)) (sym (no_waiting s k));
      }

  closes : (ts : List Token) (s : State) (rs : List Role) → Ran ts s rs → Closes (constructors format features class) ts rs (pending s)
  closes ts s rs ran = by (stage_of ts s rs ran)
    where
      by : Reached format features class ts (before_ctor format features class) s rs → Closes (constructors format features class) ts rs (pending s)
      by (inside k) = closes_open ts s rs ran k
      by (ended_by front m qs split first roles here is) = closes_ended ts front s m rs qs ran split first here is

  -- ---- roles

  -- each token is settled or waits
  each : (ts : List Token) (s n : State) (rs : List Role) (t : Token) → Ran ts s rs → step_for goal.Constructor s.mode s t ≡ Some n → length (emitted s t) + length (pending n) ≡ suc (length (pending s))
  each ts s n rs t ran h = by (stage_of ts s rs ran)
    where
      next : CtorStage class s → StageNext class s t n → length (emitted s t) + length (pending n) ≡ suc (length (pending s))
      next k (goes_on j) = each_once s n t rs (stands ts s rs (stage_open class s k) ran) (narrow_in s.mode s n t (stage_open class n j) h)
      next k (ends_now here end is) =
          let one : length (emitted s t) ≡ 1 = ap length (end_plain format features class s t here end) in
          let none : length (pending n) ≡ 0 = ap (λ (x : State). length (pending x)) is in
          let before : length (pending s) ≡ 0 = ap length (no_waiting s k) in
          omega (arith, one, none, before)

      by : Reached format features class ts (before_ctor format features class) s rs → length (emitted s t) + length (pending n) ≡ suc (length (pending s))
      by (inside k) = next k (stage_step class s n t k h)
      by (ended_by front m qs split first roles here is) = absurd (end_refuses m s n t is h)

  -- the roles so far are settled, with those that wait
  settled : (ts : List Token) (s : State) (rs : List Role) → Ran ts s rs → are_settled (rs ++ pending s) ≡ true
  settled ts s rs ran = by (stage_of ts s rs ran)
    where
      open_settled : (ts : List Token) (s : State) (rs : List Role) → is_end s.mode ≡ false → Ran ts s rs → are_settled (rs ++ pending s) ≡ true
      open_settled ts s rs k ran = waiting_settled s.mode s rs (stands ts s rs k ran).holds

      by : Reached format features class ts (before_ctor format features class) s rs → are_settled (rs ++ pending s) ≡ true
      by (inside k) = open_settled ts s rs (stage_open class s k) ran
      by (ended_by front m qs split first roles here is) =
          let before : are_settled qs ≡ true = ap are_settled (sym (append-nil qs) ∙ ap (λ q. qs ++ q) (sym (ap (λ x. pending_in x m) here))) ∙ open_settled front m qs (ap is_end here) first in
          ap are_settled (ap (λ (x : State). rs ++ pending x) is ∙ append-nil rs ∙ roles) ∙ settled_append qs (other_token ∷ []) before refl

  -- ---- names

  -- where some identifier could stand, one can
  named : (ts : List Token) (s : State) (rs : List Role) → Ran ts s rs → are_read ts ≡ true → takes_name_for goal.Constructor s.mode s ≡ true → GoesByName (ctor_reader format features class) s
  named ts s rs ran read takes = by (stage_of ts s rs ran)
    where
      -- before the constructor the class's name can, where it is an identifier
      class_goes : s.mode ≡ InMembers → GoesByName (ctor_reader format features class) s
      class_goes here =
          let n : State = record s { mode = AfterType; of = s.name } in
          record {
            name = s.name;
            next = n;
            is = sym (ap (λ m. takes_name_for goal.Constructor m s) here) ∙ takes;
            goes = ap (λ m. step_for goal.Constructor m s (Id s.name)) here ∙ ap (λ b. if b then Some n else None) (same_name s.name);
          }

      in_mode : (m : Mode) → s.mode ≡ m → is_in_ctor m ≡ true → takes_name_for goal.Constructor m s ≡ true → Kept m s → GoesByName (ctor_reader format features class) s
      in_mode InMembers here e takes kept = no_case e
      in_mode AfterType here e takes kept = no_case e
      in_mode InMethods here e takes kept = no_case e
      in_mode m here e takes kept =
          let n = name_goes m s kept takes in
          record { name = n.name; next = n.next; is = n.is; goes = ap (λ x. step_for goal.Constructor x s (Id n.name)) here ∙ n.goes }

      at : CtorStage class s → GoesByName (ctor_reader format features class) s
      at (before_it here name) = class_goes here
      at (behind_name here same) = no_case (sym (ap (λ m. takes_name_for goal.Constructor m s) here) ∙ takes)
      at (in_it within) =
          let ours : run ts (before_ctor format features class) ≡ (Some s, rs) = narrow_run format features class ts (before_ctor format features class) s rs (stage_open class s (in_it within)) ran in
          in_mode s.mode refl within takes (kept_run ts (before_ctor format features class) s tt read (ap (λ (p : Run State). p.0) ours))
      at (behind_it here) = no_case (sym (ap (λ m. takes_name_for goal.Constructor m s) here) ∙ takes)

      by : Reached format features class ts (before_ctor format features class) s rs → GoesByName (ctor_reader format features class) s
      by (inside k) = at k
      by (ended_by front m qs split first roles here is) = no_case (sym (ap (λ (x : State). takes_name_for goal.Constructor x.mode x) is) ∙ takes)

-- an identifier isn't a name that is none
another : (w name : List ℕ) → is_identifier w ≡ true → is_identifier name ≡ false → bytes_eq w name ≡ false
another w name is none = by (bytes_eq w name) refl
  where
    by : (b : Bool) → bytes_eq w name ≡ b → b ≡ false
    by true same = no_case (sym none ∙ ap is_identifier (sym ((bytes_eq-Decides w name).0 same)) ∙ is)
    by false other = refl

-- and elsewhere none can
ctor_unnamed : (m : Mode) (s : State) (w : List ℕ) → is_identifier w ≡ true → takes_name_for goal.Constructor m s ≡ false → step_for goal.Constructor m s (Id w) ≡ None
ctor_unnamed InMembers s w is e = ap (λ b. if b then step_in InMembers s (Id w) else None) (another w s.name is e)
ctor_unnamed AfterType s w is e = refl
ctor_unnamed InMethods s w is e = refl
ctor_unnamed m s w is e = name_stops m s w e

-- ---- all laws together

-- the machine for a single constructor reads the texts of constructors
pub constructor_laws : (format : Format) (features : List (List ℕ)) (class : List ℕ) → Reads (constructors format features class) (reader_for goal.Constructor format features class)
constructor_laws format features class =
    record {
      grammar = ctor_grammar_is_plain format features class;
      ended = ctor_ended format features class;
      stands_for = λ s. s.ctor;
      valued = λ c. refl;
      complete = ctor_text_runs format features class;
      sound = sound format features class;
      closes = closes format features class;
      first = refl;
      last = λ c. refl;
      each = each format features class;
      settles = λ ts s c rs ran. ctor_settles format features class ts s (ctor_ended format features class c) rs refl ran;
      settled = settled format features class;
      named = named format features class;
      unnamed = λ s w is free. ctor_unnamed s.mode s w is free;
    }

-- the constructor that is read
pub constructor_stands : (format : Format) (features : List (List ℕ)) (class : List ℕ) (n : State) → (constructor_laws format features class).stands_for n ≡ n.ctor
unfolding constructor_laws
constructor_stands format features class n = refl
