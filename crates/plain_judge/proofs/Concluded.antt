-- What a search that is done says of a product line is right.
use Rattle.std.proofs.Common.{◌≡◌, ℕ, ◌^◌, ◌<◌, ◌≤◌, nat_lt, ◌⊎◌, inl, inr, suc, Bool, true, false, List, [], ◌∷◌, ◌++◌, length, map, Option, Some, None, is_some, refl, sym, ◌∙◌, ap, subst}
use Rattle.std.specs.List.{cons_option, filter_map}
use Rattle.std.proofs.lemmas.Bool.{and_parts, ltb-true}
use Rattle.cfj_model.specs.Judging.{Pair}
use Rattle.cfj_model.specs.ProductLines.{ProductLine}
use Rattle.cfj_logic.specs.Selections.{Chosen}
use Rattle.cfj_logic.specs.Sides.{Sides, empty_clause}
use Rattle.cfj_words.specs.Lists.{Has}
use Rattle.unit_facts.specs.Diagnostics.{Always, AreExact, BreaksIn, IsChecked, IsLeast, IsNever, IsRight, IsSpent, IsValidFor}
use Rattle.unit_facts.specs.declared.entry.Entry.{Entry}
use Rattle.unit_facts.specs.declared.entry.Entry.TheVariants as entry
use Rattle.plain_judge.specs.Concluding.{IsDone, entry_for, entry_of, verdict_of}
use Rattle.plain_judge.specs.Denials.{denials}
use Rattle.plain_judge.specs.Order.{mirrored}
use Rattle.plain_judge.specs.Questions.{are_answered, asked}
use Rattle.plain_judge.specs.Searching.{AreSought, IsSought, is_settled, selection_at}
use Rattle.plain_judge.specs.declared.question.Question.{Question}
use Rattle.plain_judge.specs.declared.search.Search.{Search}
use Rattle.plain_judge.proofs.Mirrors.{mirrored_below}
use Rattle.plain_judge.proofs.Places.{at_its_place}
use Rattle.plain_judge.proofs.Spending.{denials_spend}

-- how many selections are tried where nothing is settled before
pub record IsMost (n budget : ℕ) (limited : Bool) (most : ℕ) : Type 0 where
  pub is_limited : limited ≡ nat_lt budget (2 ^ n)
  pub where_limited : limited ≡ true → most ≡ budget
  pub else_all : limited ≡ false → most ≡ 2 ^ n

module _ (line : ProductLine) (budget : ℕ) (limited : Bool) (log : List Sides) where
  -- the least valid selection of which something is so, or a log that spends the budget, or that there is none
  abbrev IsFound : (Chosen → Type 0) → Option Chosen → Bool → Type 0
  IsFound So (Some s) b = IsLeast line So s
  IsFound So None true = IsSpent line budget So log
  IsFound So None false = IsNever line So

  -- of none of the selections, so of none
  never : (So : Chosen → Type 0) → IsSought line So (2 ^ length line.model.features) None → IsNever line So
  never So sought s valid so =
      let n = length line.model.features in
      let small : s.on < 2 ^ n = subst (λ (m : ℕ). s.on < 2 ^ m) valid.features valid.on in
      let at : s ≡ selection_at line (mirrored n s.on) = at_its_place n s valid.features small in
      sought (mirrored n s.on) (mirrored_below n s.on) (subst (IsValidFor line) at valid) (subst So at so)

  module _ (k most : ℕ) (some : 1 ≤ budget) (is_most : IsMost (length line.model.features) budget limited most) (is_log : log ≡ denials (length line.model.features) k) where
    found : (So : Chosen → Type 0) (o : Option Chosen) → IsSought line So k o → (k ≡ most) ⊎ (is_some o ≡ true) → IsFound So o limited
    found So (Some s) sought ended = sought
    found So None sought (inr answered) = absurd (cc answered)
    found So None sought (inl all) = go limited refl
      where
        go : (b : Bool) → limited ≡ b → IsFound So None b
        go true is =
            let at : k ≡ budget = all ∙ is_most.where_limited is in
            let few = ltb-true budget (2 ^ length line.model.features) (sym is_most.is_limited ∙ is) in
            subst (IsSpent line budget So) (sym (is_log ∙ ap (denials (length line.model.features)) at))
            (denials_spend line budget So some few (subst (λ (i : ℕ). IsSought line So i None) at sought))
        go false is = never So (subst (λ (i : ℕ). IsSought line So i None) (all ∙ is_most.else_all is) sought)

    -- what is found of a question is the entry for its pair
    entry_exact : (p : Pair) (o : Option Chosen) (b : Bool) (ps : List Pair) (es : List Entry) → IsFound (BreaksIn line p) o b → AreExact line budget ps es → AreExact line budget (p ∷ ps) (cons_option (entry_for b log p o) es)
    entry_exact p (Some s) b ps es is rest = AreExact.told (entry.Broken p.0 p.1 s) ps es is rest
    entry_exact p None true ps es is rest = AreExact.told (entry.Undecided p.0 p.1 log) ps es is rest
    entry_exact p None false ps es is rest = AreExact.unbroken p ps es is rest

    all_exact : (qs : List Question) → AreSought line k qs → (k ≡ most) ⊎ (are_answered qs ≡ true) → AreExact line budget (map asked qs) (filter_map (entry_of limited log) qs)
    all_exact [] sought ended = AreExact.all_told
    all_exact (q ∷ qs) sought ended =
        entry_exact (asked q) q.answer limited (map asked qs) (filter_map (entry_of limited log) qs)
        (found (BreaksIn line (asked q)) q.answer sought.0 (first ended)) (all_exact qs sought.1 (others ended))
      where
        first : (k ≡ most) ⊎ (are_answered (q ∷ qs) ≡ true) → (k ≡ most) ⊎ (is_some q.answer ≡ true)
        first (inl all) = inl all
        first (inr answered) = inr (and_parts _ _ answered).0

        others : (k ≡ most) ⊎ (are_answered (q ∷ qs) ≡ true) → (k ≡ most) ⊎ (are_answered qs ≡ true)
        others (inl all) = inl all
        others (inr answered) = inr (and_parts _ _ answered).1

  last_has : (cs : List Sides) → Has (cs ++ empty_clause ∷ []) empty_clause
  last_has [] = (0, refl)
  last_has (c ∷ cs) = let rest = last_has cs in (suc rest.0, rest.1)

  verdict_right : (o : Option Chosen) (b : Bool) → IsFound Always o b → IsRight line budget (verdict_of b log o)
  verdict_right (Some s) b is = is
  verdict_right None true is = is
  verdict_right None false is = (is, last_has log)

-- the findings of a search that is done
pub done_is_checked : (line : ProductLine) (budget most : ℕ) (limited : Bool) (search : Search) → 1 ≤ budget → IsMost (length line.model.features) budget limited most → IsDone line most search →
    IsChecked line budget (verdict_of limited search.log search.verdict) (filter_map (entry_of limited search.log) search.questions.items)
done_is_checked line budget most limited search some is_most done =
    record {
      verdict = verdict_right line budget limited search.log search.verdict limited (found line budget limited search.log done.tried most some is_most done.searched.log Always search.verdict done.searched.verdict (verdict_ended done.ended));
      entries =
          subst (λ (ps : List Pair). AreExact line budget ps (filter_map (entry_of limited search.log) search.questions.items)) done.searched.pairs
          (all_exact line budget limited search.log done.tried most some is_most done.searched.log search.questions.items done.searched.questions (questions_ended done.ended));
    }
  where
    verdict_ended : (done.tried ≡ most) ⊎ (is_settled search ≡ true) → (done.tried ≡ most) ⊎ (is_some search.verdict ≡ true)
    verdict_ended (inl all) = inl all
    verdict_ended (inr settled) = inr (and_parts _ _ settled).0

    questions_ended : (done.tried ≡ most) ⊎ (is_settled search ≡ true) → (done.tried ≡ most) ⊎ (are_answered search.questions.items ≡ true)
    questions_ended (inl all) = inl all
    questions_ended (inr settled) = inr (and_parts _ _ settled).1
