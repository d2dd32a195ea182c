-- A search that tries one selection more.
use Rattle.std.proofs.Common.{◌≡◌, ℕ, zero, suc, ◌+◌, ◌^◌, ◌<◌, ◌≤◌, true, false, ◌⊎◌, inl, inr, List, [], ◌∷◌, ◌++◌, length, map, slice_get, Option, Some, None, refl, sym, ◌∙◌, ap, subst, add-one, arith}
use Rattle.std.specs.Prelude.{◌↔◌, is_some}
use Rattle.std.proofs.lemmas.Bool.{and_parts, both_ways, cases_lt}
use Rattle.cfj_logic.specs.Formulas.{truth}
use Rattle.cfj_model.specs.Judging.{Pair, pairs_of}
use Rattle.cfj_model.specs.ProductLines.{ProductLine}
use Rattle.cfj_logic.specs.Selections.{Chosen, IsEarlier}
use Rattle.cfj_logic.specs.Sides.{Sides}
use Rattle.cfj_words.specs.Lists.{Has}
use Rattle.cfj_logic.specs.Validity.{IsValid, IsFirstFalse}
use Rattle.cfj_logic.specs.declared.formula.Formula.{Formula}
use Rattle.unit_facts.specs.Diagnostics.{Always, BreaksIn, IsLeast, IsValidFor}
use Rattle.plain_judge.specs.Denials.{denial, denials}
use Rattle.plain_judge.specs.Order.{mirrored, nth}
use Rattle.plain_judge.specs.Questions.{AreConsidered, IsTaken, asked, unanswered}
use Rattle.plain_judge.specs.Searching.{AreSought, IsSearched, IsSeen, IsSought, first_answer, selection_at}
use Rattle.plain_judge.specs.declared.question.Question.{Question}
use Rattle.plain_judge.specs.declared.search.Search.{Search}
use Rattle.plain_judge.proofs.Mirrors.{mirrored_below}
use Rattle.plain_judge.proofs.Places.{at_its_place, earlier_place}

-- ---- validity

at_each : (s : Chosen) (cs : List Formula) (i : ℕ) (f : Formula) → IsValid cs s → slice_get cs i ≡ Some f → truth s f ≡ true
at_each s [] i f valid there = absurd (cc there)
at_each s (c ∷ cs) zero f valid there = let same : c ≡ f = cc there in subst (λ z. truth s z ≡ true) same (and_parts _ _ valid).0
at_each s (c ∷ cs) (suc i) f valid there = at_each s cs i f (and_parts _ _ valid).1 there

-- a selection under which some constraint is false isn't valid
pub first_false : (s : Chosen) (cs : List Formula) (i : ℕ) → IsFirstFalse cs s i → IsValid cs s → ⊥
first_false s cs i first valid = both_ways (truth s first.constraint) first.fails (at_each s cs i first.constraint valid first.there)

-- ---- the answers

pub kept_answer : (o : Option Chosen) (s : Chosen) → is_some o ≡ true → o ≡ first_answer o s
kept_answer (Some t) s some = refl
kept_answer None s some = absurd (cc some)

pub taken_answer : (o : Option Chosen) (s : Chosen) → is_some o ≡ false → Some s ≡ first_answer o s
taken_answer (Some t) s none = absurd (cc none)
taken_answer None s none = refl

module _ (line : ProductLine) (k : ℕ) where
  -- what isn't so at this place isn't so up to the next one
  past : (So : Chosen → Type 0) (o : Option Chosen) → (IsValidFor line (selection_at line k) → So (selection_at line k) → ⊥) → IsSought line So k o → IsSought line So (k + 1) o
  past So (Some t) not_here sought = sought
  past So None not_here sought = λ j lt valid so. go j lt valid so (cases_lt j k)
    where
      go : (j : ℕ) → j < k + 1 → IsValidFor line (selection_at line j) → So (selection_at line j) → (j < k) ⊎ (k ≤ j) → ⊥
      go j lt valid so (inl before) = sought j before valid so
      go j lt valid so (inr behind) =
          let same : j ≡ k = omega arith in
          not_here (subst (λ (i : ℕ). IsValidFor line (selection_at line i)) same valid) (subst (λ (i : ℕ). So (selection_at line i)) same so)

  -- what is so here, and wasn't so before, is least here
  here : (So : Chosen → Type 0) → k < 2 ^ length line.model.features → IsValidFor line (selection_at line k) → So (selection_at line k) → IsSought line So k None → IsLeast line So (selection_at line k)
  here So within valid so sought = record { valid = valid; so = so; least = least }
    where
      least : (t : Chosen) → IsValidFor line t → So t → IsEarlier t (selection_at line k) → ⊥
      least t t_valid t_so earlier =
          let n = length line.model.features in
          let small : t.on < 2 ^ n = subst (λ (m : ℕ). t.on < 2 ^ m) t_valid.features t_valid.on in
          let at : t ≡ selection_at line (mirrored n t.on) = at_its_place n t t_valid.features small in
          let before = earlier_place n (mirrored n t.on) k (mirrored_below n t.on) within (subst (λ (u : Chosen). IsEarlier u (selection_at line k)) at earlier) in
          sought (mirrored n t.on) before (subst (IsValidFor line) at t_valid) (subst So at t_so)

  sought_first : (o : Option Chosen) → k < 2 ^ length line.model.features → IsValidFor line (selection_at line k) → IsSought line Always k o → IsSought line Always (k + 1) (first_answer o (selection_at line k))
  sought_first (Some t) within valid sought = sought
  sought_first None within valid sought = here Always within valid tt sought

  sought_taken : (breaks : List Pair) (p : Pair) (old new : Option Chosen) → k < 2 ^ length line.model.features → IsValidFor line (selection_at line k) → (BreaksIn line p (selection_at line k) ↔ Has breaks p) →
      IsTaken breaks (selection_at line k) p old new → IsSought line (BreaksIn line p) k old → IsSought line (BreaksIn line p) (k + 1) new
  sought_taken breaks p (Some t) new within valid told taken sought = subst (IsSought line (BreaksIn line p) (k + 1)) (sym taken) sought
  sought_taken breaks p None (Some t) within valid told taken sought =
      subst (IsLeast line (BreaksIn line p)) (sym taken.0) (here (BreaksIn line p) within valid (told.1 taken.1) sought)
  sought_taken breaks p None None within valid told taken sought = past (BreaksIn line p) None (λ _ so. taken (told.0 so)) sought

  -- each question considers the selection at this place
  sought_considered : (breaks : List Pair) (olds news : List Question) → k < 2 ^ length line.model.features → IsValidFor line (selection_at line k) → ((p : Pair) → BreaksIn line p (selection_at line k) ↔ Has breaks p) →
      AreConsidered breaks (selection_at line k) olds news → AreSought line k olds → AreSought line (k + 1) news
  sought_considered breaks [] [] within valid told considered sought = tt
  sought_considered breaks [] (r ∷ rs) within valid told considered sought = absurd considered
  sought_considered breaks (q ∷ qs) [] within valid told considered sought = absurd considered
  sought_considered breaks (q ∷ qs) (r ∷ rs) within valid told considered sought = (
    subst (λ (p : Pair). IsSought line (BreaksIn line p) (k + 1) r.answer) (sym considered.0.pair)
        (sought_taken breaks (asked q) q.answer r.answer within valid (told (asked q)) considered.0.taken sought.0),
    sought_considered breaks qs rs within valid told considered.1 sought.1,
  )

  sought_skipped : (qs : List Question) → (IsValidFor line (selection_at line k) → ⊥) → AreSought line k qs → AreSought line (k + 1) qs
  sought_skipped [] not_valid sought = tt
  sought_skipped (q ∷ qs) not_valid sought = (past (BreaksIn line (asked q)) q.answer (λ valid so. not_valid valid) sought.0, sought_skipped qs not_valid sought.1)

same_asked : (breaks : List Pair) (s : Chosen) (olds news : List Question) → AreConsidered breaks s olds news → map asked news ≡ map asked olds
same_asked breaks s [] [] considered = refl
same_asked breaks s [] (r ∷ rs) considered = absurd considered
same_asked breaks s (q ∷ qs) [] considered = absurd considered
same_asked breaks s (q ∷ qs) (r ∷ rs) considered = ap (λ p. p ∷ map asked rs) considered.0.pair ∙ ap (λ ps. asked q ∷ ps) (same_asked breaks s qs rs considered.1)

-- ---- the search

asked_back : (ps : List Pair) → map asked (map unanswered ps) ≡ ps
asked_back [] = refl
asked_back (p ∷ ps) = ap (λ qs. p ∷ qs) (asked_back ps)

none_sought : (line : ProductLine) (ps : List Pair) → AreSought line 0 (map unanswered ps)
none_sought line [] = tt
none_sought line (p ∷ ps) = (λ j lt. absurd (omega arith), none_sought line ps)

-- nothing is tried at first
pub searched_none : (line : ProductLine) (search : Search) → search.questions.items ≡ map unanswered (pairs_of line.classes) → search.verdict ≡ None → search.log ≡ [] → IsSearched line 0 search
searched_none line search questions verdict log =
    record {
      pairs = ap (map asked) questions ∙ asked_back (pairs_of line.classes);
      questions = subst (AreSought line 0) (sym questions) (none_sought line (pairs_of line.classes));
      verdict = subst (IsSought line Always 0) (sym verdict) (λ j lt. absurd (omega arith));
      log = log;
    }

next_log : (n k : ℕ) (log after : List Sides) → log ≡ denials n k → after ≡ log ++ denial (nth n k) ∷ [] → after ≡ denials n (k + 1)
next_log n k log after is pushed = pushed ∙ ap (λ cs. cs ++ denial (nth n k) ∷ []) is ∙ ap (denials n) (sym (add-one k))

-- a valid selection is tried
pub searched_seen : (line : ProductLine) (k : ℕ) (old mid new : Search) → k < 2 ^ length line.model.features → IsValid line.model.constraints (selection_at line k) → IsSearched line k old → IsSeen line (selection_at line k) old mid →
    new.questions ≡ mid.questions → new.verdict ≡ mid.verdict → new.log ≡ mid.log ++ denial (selection_at line k) ∷ [] → IsSearched line (k + 1) new
searched_seen line k old mid new within valid searched seen questions verdict log =
    record {
      pairs = ap (λ qs. map asked qs.items) questions ∙ same_asked seen.breaks (selection_at line k) old.questions.items mid.questions.items seen.questions ∙ searched.pairs;
      questions =
          subst (λ qs. AreSought line (k + 1) qs.items) (sym questions)
          (sought_considered line k seen.breaks old.questions.items mid.questions.items within valid_for seen.told seen.questions searched.questions);
      verdict = subst (IsSought line Always (k + 1)) (sym (verdict ∙ seen.verdict)) (sought_first line k old.verdict within valid_for searched.verdict);
      log = next_log (length line.model.features) k mid.log new.log (seen.log ∙ searched.log) log;
    }
  where
    valid_for : IsValidFor line (selection_at line k)
    valid_for = record { features = refl; on = mirrored_below (length line.model.features) k; valid = valid }

-- a selection that isn't valid is tried
pub searched_skipped : (line : ProductLine) (k : ℕ) (old new : Search) → (IsValid line.model.constraints (selection_at line k) → ⊥) → IsSearched line k old →
    new.questions ≡ old.questions → new.verdict ≡ old.verdict → new.log ≡ old.log ++ denial (selection_at line k) ∷ [] → IsSearched line (k + 1) new
searched_skipped line k old new not_valid searched questions verdict log =
    record {
      pairs = ap (λ qs. map asked qs.items) questions ∙ searched.pairs;
      questions = subst (λ qs. AreSought line (k + 1) qs.items) (sym questions) (sought_skipped line k old.questions.items (λ valid. not_valid valid.valid) searched.questions);
      verdict = subst (IsSought line Always (k + 1)) (sym verdict) (past line k Always old.verdict (λ valid so. not_valid valid.valid) searched.verdict);
      log = next_log (length line.model.features) k old.log new.log searched.log log;
    }
