-- Parts of a project that are read by themselves: what has to be known of each part for the laws.
use Rattle.std.proofs.Common.{◌≡◌, ℕ, suc, ◌+◌, true, false, List, [], ◌∷◌, ◌++◌, length, Option, Some, None, refl, sym, ◌∙◌, ap, arith, append_assoc}
use Rattle.std.proofs.lemmas.List.{append-nil}
use Rattle.std.proofs.lemmas.Option.{none-some, same_Some}
use Rattle.cfj_model.specs.declared.feature_model.Format.{Format}
use Rattle.cfj_model.specs.Languages.{Language}
use Rattle.cfj_model.specs.Roles.{Role, other_token, are_settled}
use Rattle.cfj_words.specs.Tokens.{Token, Id, End}
use Rattle.fj_symbols.specs.Views.{are_read}
use Rattle.fj_parser.specs.declared.goal.Goal.{Goal}
use Rattle.fj_machine.specs.declared.mode.Mode.TheVariants.{AtEnd}
use Rattle.fj_parser.specs.Goals.{start_for, step_for, takes_name_for, reader_for}
use Rattle.fj_parser.specs.Laws.{Closes, GoesByName, IsPlainLanguage, Reads}
use Rattle.fj_machine.specs.Machine.{State, emitted, pending, reader, run}
use Rattle.fj_machine.specs.Readers.{Run, then_run, run_of}
use Rattle.fj_parser.proofs.Closing.{Ending, ending}
use Rattle.fj_parser.proofs.Complete as complete
use Rattle.fj_parser.proofs.Law.{reach_stops}
use Rattle.fj_parser.proofs.ListsSound.{is_whole_in, is_whole, Accepts, never}
use Rattle.fj_parser.proofs.Naming.{Kept, kept_run}
use Rattle.fj_parser.proofs.Readers.{on_from, run_append}
use Rattle.fj_parser.proofs.Standing.{Stands, stands_run, settled_append, waiting_settled}
use Rattle.fj_parser.proofs.SingleParts.{Overlap, within, beyond, overlap, waiting_first, AsideAtEnd, IsSameInExpression, part_settles, Strays, along, off, Goes, strays}

module _ (g : Goal) (format : Format) (fs : List (List ℕ)) (class : List ℕ) where
  -- the part's run
  abbrev part_run : List Token → State → Run State
  part_run = run_of (reader_for g format fs class)

  -- before the first token
  abbrev pub first_state : State
  first_state = start_for g format fs class

  module _ {V : Type 0} (l : Language V) where
    -- What is read was read by the machine for projects too, or it is a whole text, perhaps with its end.
    pub data Path (front : List Token) (s : State) (rs : List Role) : Type 0 where
      inside : run front first_state ≡ (Some s, rs) → Path front s rs
      behind : (x : l.Tree) → front ≡ l.spell x [] → Path front s rs
      ended : (x : l.Tree) → front ≡ l.spell x (End ∷ []) → Path front s rs

    -- Tokens that the machine for projects takes, and others behind which a text may stop: the first are read alone, or they begin
    -- the text of a part, which the others complete.
    pub data Position (done : l.Tree → State) (front more : List Token) (s : State) (rs : List Role) : Type 0 where
      alone : Closes l front rs (pending s) → step_for g s.mode s End ≡ None → Position done front more s rs
      begun : (x : l.Tree) → run (l.spell x []) first_state ≡ (Some (done x), l.roles x []) → (z rest : List Token) → l.spell x [] ≡ front ++ z → more ≡ z ++ rest → Position done front more s rs

    -- so where they are the text of a part and no end behind it
    pub positioned : (done : l.Tree → State) → IsPlainLanguage l → ((x : l.Tree) (ts : List Token) → part_run (l.spell x ts) first_state ≡ complete.with_roles (l.roles x) (part_run ts (done x))) → ((x : l.Tree) (n : State) (t : Token) → step_for g (done x).mode (done x) t ≡ Some n → t ≡ End)
        → (front more rest : List Token) (s : State) (rs : List Role) (x : l.Tree) → run (l.spell x []) first_state ≡ (Some (done x), l.roles x []) → part_run front first_state ≡ (Some s, rs) → front ++ more ≡ l.spell x rest → ((ts : List Token) → rest ≡ End ∷ ts → ⊥) → Position done front more s rs
    unfolding run_of
    positioned done grammar read only_end front more rest s rs x whole h text no_end = by (overlap front more (l.spell x []) rest (text ∙ grammar.spells x [] rest))
      where
        is_end : (t : Token) (z : List Token) (o : Option State) → step_for g (done x).mode (done x) t ≡ o → (then_run (part_run z) (emitted (done x) t) o).0 ≡ Some s → t ≡ End
        is_end t z None e k = absurd (none-some s k)
        is_end t z (Some n) e k = only_end x n t e

        by : Overlap front more (l.spell x []) rest → Position done front more s rs
        by (within z before after) = begun x whole z rest before after
        by (beyond t z before after) =
            let all : front ≡ l.spell x (t ∷ z) = before ∙ sym (grammar.spells x [] (t ∷ z)) in
            let goes : (part_run (t ∷ z) (done x)).0 ≡ Some s = ap (λ (p : Run State). p.0) (sym (read x (t ∷ z)) ∙ ap (λ w. part_run w first_state) (sym all) ∙ h) in
            absurd (no_end (z ++ more) (after ∙ ap (λ u. u ∷ (z ++ more)) (is_end t z (step_for g (done x).mode (done x) t) refl goes)))

    -- Where a part may end, a project may, or it goes on by a token that the part refuses.
    pub data EndsBy (s : State) : Type 0 where
      as_project : is_whole_in s.mode ≡ true → EndsBy s
      but_goes : (t : Token) (ts : List Token) → Accepts (t ∷ ts) s → step_for g s.mode s t ≡ None → EndsBy s

    -- What is known of a part, from which the laws follow.
    pub record IsPart : Type 0 where
      pub grammar : IsPlainLanguage l
      pub done : l.Tree → State
      pub stands_for : State → V
      pub valued : (x : l.Tree) → stands_for (record (done x) { mode = AtEnd }) ≡ l.value x
      pub begins : Stands first_state []
      pub kept : Kept first_state.mode first_state
      pub read : (x : l.Tree) (ts : List Token) → part_run (l.spell x ts) first_state ≡ complete.with_roles (l.roles x) (part_run ts (done x))
      pub in_expression : IsSameInExpression g format fs class
      pub only_end : (x : l.Tree) (n : State) (t : Token) → step_for g (done x).mode (done x) t ≡ Some n → t ≡ End
      pub ends : (x : l.Tree) → step_for g (done x).mode (done x) End ≡ Some (record (done x) { mode = AtEnd })
      pub gives : (x : l.Tree) → emitted (done x) End ≡ other_token ∷ []
      pub waits : (x : l.Tree) → pending (done x) ≡ []
      pub takes : (x : l.Tree) → takes_name_for g (done x).mode (done x) ≡ false
      pub stops : (s : State) (t : Token) → step_for g AtEnd s t ≡ None
      pub free : (s : State) → takes_name_for g AtEnd s ≡ false
      pub position : (front more : List Token) (s : State) (rs : List Role) → part_run front first_state ≡ (Some s, rs) → run front first_state ≡ (Some s, rs) → Accepts (front ++ more) first_state → Position done front more s rs
      pub ending : (s n : State) → step_for g s.mode s End ≡ Some n → EndsBy s
      pub once : (s n : State) (t : Token) (rs : List Role) → Stands s rs → step_for g s.mode s t ≡ Some n → length (emitted s t) + length (pending n) ≡ suc (length (pending s))
      pub named : (s : State) → Kept s.mode s → takes_name_for g s.mode s ≡ true → GoesByName (reader_for g format fs class) s
      pub unnamed : (s : State) (w : List ℕ) → takes_name_for g s.mode s ≡ false → step_for g s.mode s (Id w) ≡ None

    module _ (part : IsPart) where
      -- the state behind a text and its end
      abbrev pub at_end : l.Tree → State
      at_end x = record (part.done x) { mode = AtEnd }

      -- a text is read, and its end
      pub behind_run : (x : l.Tree) → part_run (l.spell x []) first_state ≡ (Some (part.done x), l.roles x [])
      unfolding run_of
      behind_run x = part.read x []

      pub ended_run : (x : l.Tree) → part_run (l.spell x (End ∷ [])) first_state ≡ (Some (at_end x), l.roles x (other_token ∷ []))
      unfolding run_of
      ended_run x =
          part.read x (End ∷ [])
          ∙ ap (λ o. complete.with_roles (l.roles x) (then_run (part_run []) (emitted (part.done x) End) o)) (part.ends x)
          ∙ ap (λ q. (Some (at_end x), l.roles x (q ++ []))) (part.gives x)

      -- what is reached by such tokens
      same_state : (us : List Token) (s n : State) (rs qs : List Role) → part_run us first_state ≡ (Some s, rs) → part_run us first_state ≡ (Some n, qs) → (s ≡ n) × (rs ≡ qs)
      same_state us s n rs qs h k = (same_Some s n (ap (λ (p : Run State). p.0) (sym h ∙ k)), ap (λ (p : Run State). p.1) (sym h ∙ k))

      is_behind : (front : List Token) (s : State) (rs : List Role) (x : l.Tree) → part_run front first_state ≡ (Some s, rs) → front ≡ l.spell x [] → (s ≡ part.done x) × (rs ≡ l.roles x [])
      is_behind front s rs x h is = same_state (l.spell x []) s (part.done x) rs (l.roles x []) (ap (λ w. part_run w first_state) (sym is) ∙ h) (behind_run x)

      is_ended : (front : List Token) (s : State) (rs : List Role) (x : l.Tree) → part_run front first_state ≡ (Some s, rs) → front ≡ l.spell x (End ∷ []) → (s ≡ at_end x) × (rs ≡ l.roles x (other_token ∷ []))
      is_ended front s rs x h is = same_state (l.spell x (End ∷ [])) s (at_end x) rs (l.roles x (other_token ∷ [])) (ap (λ w. part_run w first_state) (sym is) ∙ h) (ended_run x)

      -- nothing follows the end
      no_step : (s n : State) (t : Token) (x : l.Tree) → s ≡ at_end x → step_for g s.mode s t ≡ Some n → ⊥
      no_step s n t x is goes = none-some n (sym (part.stops (at_end x) t) ∙ ap (λ y. step_for g y.mode y t) (sym is) ∙ goes)

      -- where a text goes on, the machine does
      goes_on : (front z : List Token) (s : State) (rs : List Role) (x : l.Tree) → part_run front first_state ≡ (Some s, rs) → l.spell x [] ≡ front ++ z → (part_run z s).0 ≡ Some (part.done x)
      goes_on front z s rs x h text =
          ap (λ (p : Run State). p.0) (ap (on_from (reader_for g format fs class) z) (sym h) ∙ sym (run_append (reader_for g format fs class) front z first_state) ∙ ap (λ w. part_run w first_state) (sym text) ∙ behind_run x)

      stuck : (t : Token) (z : List Token) (s d : State) → step_for g s.mode s t ≡ None → (part_run (t ∷ z) s).0 ≡ Some d → ⊥
      unfolding run_of
      stuck t z s d none h = none-some d (ap (λ o. (then_run (part_run z) (emitted s t) o).0) (sym none) ∙ h)

      -- more tokens behind those that the machine for projects takes
      accepted : (front more : List Token) (s : State) (rs : List Role) → run front first_state ≡ (Some s, rs) → Accepts more s → Accepts (front ++ more) first_state
      accepted front more s rs ran h = ap (λ (p : Run State). is_whole p.0) (run_append reader front more first_state ∙ ap (on_from reader more) ran) ∙ h

      -- what may end is a text
      pub sound_inside : (front : List Token) (s n : State) (rs : List Role) → part_run front first_state ≡ (Some s, rs) → run front first_state ≡ (Some s, rs) → step_for g s.mode s End ≡ Some n → (x : l.Tree) × (front ≡ l.spell x [])
      unfolding run_of
      sound_inside front s n rs h ran goes = by (part.ending s n goes)
        where
          of_nothing : (z : List Token) (x : l.Tree) → l.spell x [] ≡ front ++ z → z ≡ [] → (x : l.Tree) × (front ≡ l.spell x [])
          of_nothing z x text none = (x, sym (append-nil front) ∙ ap (λ w. front ++ w) (sym none) ∙ sym text)

          nothing : (z rest : List Token) → [] ≡ z ++ rest → z ≡ []
          nothing [] rest e = refl
          nothing (t ∷ z) rest e = absurd (let no : ⊥ = cc e in no)

          refused : (t : Token) (ts z rest : List Token) (x : l.Tree) → step_for g s.mode s t ≡ None → t ∷ ts ≡ z ++ rest → l.spell x [] ≡ front ++ z → z ≡ []
          refused t ts [] rest x none e text = refl
          refused t ts (u ∷ z) rest x none e text =
              let same : t ≡ u = cc e in
              absurd (stuck u z s (part.done x) (ap (step_for g s.mode s) (sym same) ∙ none) (goes_on front (u ∷ z) s rs x h text))

          by : EndsBy s → (x : l.Tree) × (front ≡ l.spell x [])
          by (as_project may) = at (part.position front [] s rs h ran (accepted front [] s rs ran may))
            where
              at : Position part.done front [] s rs → (x : l.Tree) × (front ≡ l.spell x [])
              at (alone closed none) = absurd (none-some n (sym none ∙ goes))
              at (begun x whole z rest text more) = of_nothing z x text (nothing z rest more)
          by (but_goes t ts more none) = at (part.position front (t ∷ ts) s rs h ran (accepted front (t ∷ ts) s rs ran more))
            where
              at : Position part.done front (t ∷ ts) s rs → (x : l.Tree) × (front ≡ l.spell x [])
              at (alone closed refuses) = absurd (none-some n (sym refuses ∙ goes))
              at (begun x whole z rest text more) = of_nothing z x text (refused t ts z rest x none more text)

      -- what is read begins a text
      closes_inside : (front : List Token) (s : State) (rs : List Role) → part_run front first_state ≡ (Some s, rs) → run front first_state ≡ (Some s, rs) → Closes l front rs (pending s)
      closes_inside front s rs h ran =
          let k : Stands s rs = stands_run front first_state s [] rs part.begins ran in
          let e : Ending s = ending s.mode s rs k.formula_goes k.holds in
          by k e (part.position front e.more s rs h ran (accepted front e.more s rs ran (reach_stops AtEnd (run e.more s).0 refl e.reaches)))
        where
          by : Stands s rs → (e : Ending s) → Position part.done front e.more s rs → Closes l front rs (pending s)
          by k e (alone closed none) = closed
          by k e (begun x whole z rest text more) =
              let w = waiting_first first_state s (part.done x) front z rest rs (l.roles x []) ran k e more (ap (λ u. run u first_state) (sym text) ∙ whole) (part.waits x) in
              record {
                tree = x;
                more = z ++ End ∷ [];
                others = w.0 ++ other_token ∷ [];
                text = sym (append_assoc front z (End ∷ [])) ∙ ap (λ u. u ++ End ∷ []) (sym text) ∙ sym (part.grammar.spells x [] (End ∷ []));
                in_roles = part.grammar.gives x [] (other_token ∷ []) ∙ ap (λ q. q ++ other_token ∷ []) w.1 ∙ append_assoc rs (pending s ++ w.0) (other_token ∷ []) ∙ ap (λ q. rs ++ q) (append_assoc (pending s) w.0 (other_token ∷ []));
              }

      -- behind the end
      pub ended_path : (front us vs : List Token) (s x n : State) (qs rs : List Role) → front ≡ us ++ End ∷ vs → part_run us first_state ≡ (Some x, qs) → run us first_state ≡ (Some x, qs) → step_for g x.mode x End ≡ Some n → n.mode ≡ AtEnd → (part_run vs n).0 ≡ Some s → Path front s rs
      ended_path front us vs s x n qs rs text own ran goes at rest =
          let tree = sound_inside us x n qs own ran goes in
          ended tree.0 (text ∙ ap (λ w. us ++ End ∷ w) (last vs rest) ∙ ap (λ w. w ++ End ∷ []) tree.1 ∙ sym (part.grammar.spells tree.0 [] (End ∷ [])))
        where
          last : (vs : List Token) → (part_run vs n).0 ≡ Some s → vs ≡ []
          last [] k = refl
          last (v ∷ vs) k = absurd (stuck v vs n s (ap (λ m. step_for g m n v) at ∙ part.stops n v) k)

      -- behind a whole text
      pub behind_path : (front vs : List Token) (s : State) (rs : List Role) (x : l.Tree) → front ≡ l.spell x vs → (part_run vs (part.done x)).0 ≡ Some s → Path front s rs
      unfolding run_of
      behind_path front [] s rs x text k = behind x text
      behind_path front (v ∷ vs) s rs x text k = by (step_for g (part.done x).mode (part.done x) v) refl k
        where
          last : (vs : List Token) → (part_run vs (at_end x)).0 ≡ Some s → vs ≡ []
          last [] k = refl
          last (v ∷ vs) k = absurd (stuck v vs (at_end x) s (part.stops (at_end x) v) k)

          by : (o : Option State) → step_for g (part.done x).mode (part.done x) v ≡ o → (then_run (part_run vs) (emitted (part.done x) v) o).0 ≡ Some s → Path front s rs
          by None e k = absurd (none-some s k)
          by (Some n) e k =
              let end : v ≡ End = part.only_end x n v e in
              let next : n ≡ at_end x = same_Some n (at_end x) (sym e ∙ ap (step_for g (part.done x).mode (part.done x)) end ∙ part.ends x) in
              let none : vs ≡ [] = last vs (ap (λ y. (part_run vs y).0) (sym next) ∙ k) in
              ended x (text ∙ ap (λ u. l.spell x (u ∷ vs)) end ∙ ap (λ w. l.spell x (End ∷ w)) none)

      pub path_to_end : ((s n : State) (t : Token) → step_for g s.mode s t ≡ Some n → Goes g format fs class AsideAtEnd s t n) → (front : List Token) (s : State) (rs : List Role) → part_run front first_state ≡ (Some s, rs) → Path front s rs
      path_to_end goes front s rs h = by (strays g format fs class AsideAtEnd goes front first_state s rs h)
        where
          by : Strays g format fs class AsideAtEnd front first_state s rs → Path front s rs
          by (along ran) = inside ran
          by (off us t vs x n qs is ran own a next rest) = ended_path front us vs s x n qs rs (is ∙ ap (λ u. us ++ u ∷ vs) a.0) own ran (ap (step_for g x.mode x) (sym a.0) ∙ next) a.1 rest

    -- A part, and how each of its runs stands.
    module _ (part : IsPart) (path : (front : List Token) (s : State) (rs : List Role) → part_run front first_state ≡ (Some s, rs) → Path front s rs) where
      sound : (front : List Token) (s n : State) (rs : List Role) → part_run front first_state ≡ (Some s, rs) → step_for g s.mode s End ≡ Some n → (x : l.Tree) × (front ≡ l.spell x [])
      sound front s n rs h goes = by (path front s rs h)
        where
          by : Path front s rs → (x : l.Tree) × (front ≡ l.spell x [])
          by (inside ran) = sound_inside part front s n rs h ran goes
          by (behind x is) = (x, is)
          by (ended x is) = absurd (no_step part s n End x (is_ended part front s rs x h is).0 goes)

      -- the state behind the end
      pub end_state : (front : List Token) (s n : State) (rs : List Role) → part_run front first_state ≡ (Some s, rs) → step_for g s.mode s End ≡ Some n → (x : l.Tree) × (n ≡ at_end part x)
      end_state front s n rs h goes =
          let t = sound front s n rs h goes in
          let same : s ≡ part.done t.0 = (is_behind part front s rs t.0 h t.1).0 in
          (t.0, sym (same_Some (at_end part t.0) n (sym (part.ends t.0) ∙ ap (λ y. step_for g y.mode y End) (sym same) ∙ goes)))

      closes : (front : List Token) (s : State) (rs : List Role) → part_run front first_state ≡ (Some s, rs) → Closes l front rs (pending s)
      closes front s rs h = by (path front s rs h)
        where
          by : Path front s rs → Closes l front rs (pending s)
          by (inside ran) = closes_inside part front s rs h ran
          by (behind x is) =
              let at = is_behind part front s rs x h is in
              record {
                tree = x;
                more = End ∷ [];
                others = other_token ∷ [];
                text = ap (λ w. w ++ End ∷ []) is ∙ sym (part.grammar.spells x [] (End ∷ []));
                in_roles = part.grammar.gives x [] (other_token ∷ []) ∙ ap (λ q. q ++ other_token ∷ []) (sym at.1) ∙ ap (λ (q : List Role). rs ++ (q ++ other_token ∷ [])) (sym (part.waits x) ∙ ap pending (sym at.0));
              }
          by (ended x is) =
              let at = is_ended part front s rs x h is in
              record {
                tree = x;
                more = [];
                others = [];
                text = append-nil front ∙ is;
                in_roles = sym at.1 ∙ sym (append-nil rs) ∙ ap (λ (y : State). rs ++ (pending y ++ [])) (sym at.0);
              }

      each : (front : List Token) (s n : State) (rs : List Role) (t : Token) → part_run front first_state ≡ (Some s, rs) → step_for g s.mode s t ≡ Some n → length (emitted s t) + length (pending n) ≡ suc (length (pending s))
      each front s n rs t h goes = by (path front s rs h)
        where
          behind_once : (x : l.Tree) → s ≡ part.done x → length (emitted s t) + length (pending n) ≡ suc (length (pending s))
          behind_once x is =
              let on : step_for g (part.done x).mode (part.done x) t ≡ Some n = ap (λ y. step_for g y.mode y t) (sym is) ∙ goes in
              let end : t ≡ End = part.only_end x n t on in
              let next : at_end part x ≡ n = same_Some (at_end part x) n (sym (part.ends x) ∙ ap (step_for g (part.done x).mode (part.done x)) (sym end) ∙ on) in
              let own : length (emitted s t) ≡ 1 = ap (λ y. length (emitted y t)) is ∙ ap (λ u. length (emitted (part.done x) u)) end ∙ ap length (part.gives x) in
              let after : length (pending n) ≡ 0 = ap (λ (y : State). length (pending y)) (sym next) in
              let before : length (pending s) ≡ 0 = ap (λ y. length (pending y)) is ∙ ap length (part.waits x) in
              omega arith

          by : Path front s rs → length (emitted s t) + length (pending n) ≡ suc (length (pending s))
          by (inside ran) = part.once s n t rs (stands_run front first_state s [] rs part.begins ran) goes
          by (behind x is) = behind_once x (is_behind part front s rs x h is).0
          by (ended x is) = absurd (no_step part s n t x (is_ended part front s rs x h is).0 goes)

      settled : (front : List Token) (s : State) (rs : List Role) → part_run front first_state ≡ (Some s, rs) → are_settled (rs ++ pending s) ≡ true
      settled front s rs h = by (path front s rs h)
        where
          by : Path front s rs → are_settled (rs ++ pending s) ≡ true
          by (inside ran) = waiting_settled s.mode s rs (stands_run front first_state s [] rs part.begins ran).holds
          by (behind x is) =
              let at = is_behind part front s rs x h is in
              ap are_settled (ap (λ q. rs ++ q) (ap pending at.0 ∙ part.waits x) ∙ append-nil rs ∙ at.1) ∙ part.grammar.settled x
          by (ended x is) =
              let at = is_ended part front s rs x h is in
              ap are_settled (ap (λ y. rs ++ pending y) at.0 ∙ append-nil rs ∙ at.1 ∙ part.grammar.gives x [] (other_token ∷ [])) ∙ settled_append (l.roles x []) (other_token ∷ []) (part.grammar.settled x) refl

      named : (front : List Token) (s : State) (rs : List Role) → part_run front first_state ≡ (Some s, rs) → are_read front ≡ true → takes_name_for g s.mode s ≡ true → GoesByName (reader_for g format fs class) s
      named front s rs h read name = by (path front s rs h)
        where
          no_name : (n : State) → s ≡ n → takes_name_for g n.mode n ≡ false → GoesByName (reader_for g format fs class) s
          no_name n is free = never (sym free ∙ ap (λ y. takes_name_for g y.mode y) (sym is) ∙ name)

          by : Path front s rs → GoesByName (reader_for g format fs class) s
          by (inside ran) = part.named s (kept_run front first_state s part.kept read (ap (λ (p : Run State). p.0) ran)) name
          by (behind x is) = no_name (part.done x) (is_behind part front s rs x h is).0 (part.takes x)
          by (ended x is) = no_name (at_end part x) (is_ended part front s rs x h is).0 (part.free (at_end part x))

      -- the machine of the part reads its texts
      pub part_laws : pending first_state ≡ [] → Reads l (reader_for g format fs class)
      part_laws none =
          record {
            grammar = part.grammar;
            ended = at_end part;
            stands_for = part.stands_for;
            valued = part.valued;
            complete = ended_run part;
            sound = sound;
            closes = closes;
            first = none;
            last = λ x. refl;
            each = each;
            settles = λ ts s x rs h. part_settles g format fs class part.in_expression ts s (at_end part x) rs refl h;
            settled = settled;
            named = named;
            unnamed = λ s w is. part.unnamed s w;
          }

      pub part_stands : (none : pending first_state ≡ []) (s : State) → (part_laws none).stands_for s ≡ part.stands_for s
      unfolding part_laws
      part_stands none s = refl
