use Rattle.std.proofs.Common.{◌≡◌, ◌+◌, ◌++◌, ◌∷◌, [], ℕ, List, Result, Ok, Err, length, refl, sym, ◌∙◌, ap, subst}
use Rattle.std.specs.Prelude.{OnOk}
use Rattle.std.proofs.lemmas.Bool.{both_ways}
use Rattle.cfj_model.specs.ProductLines.{ProductLine}
use Rattle.cfj_logic.specs.Selections.{Chosen}
use Rattle.cfj_logic.specs.Sides.{Sides}
use Rattle.cfj_logic.specs.Validity.{IsValid}
use Rattle.cfj_model.specs.declared.feature_model.FeatureModel.{FeatureModel}
use Rattle.plain_judge.specs.Denials.{denial}
use Rattle.plain_judge.specs.Order.{nth}
use Rattle.plain_judge.specs.Searching.{IsSearched, IsSeen, selection_at}
use Rattle.plain_judge.specs.declared.search.Search.{Search}
use Rattle.plain_judge.proofs.Sought.{searched_seen, searched_skipped}
use Rattle.plain_judge.proofs.search.Search.try_next.Goals as goal
use Rattle.plain_judge.proofs.search.Search.try_next.Goals.{then-is_valid+in_ok-see, else-is_valid}

-- where there is memory for the clause, it stands behind the log
pushed : {E : Type 0} (line : ProductLine) (k : ℕ) (r : Result (Unit {0}) E) (mid new : Search) (clause : Sides) → ((after : Search) → after.questions ≡ mid.questions → after.verdict ≡ mid.verdict → after.log ≡ mid.log ++ clause ∷ [] → IsSearched line (k + 1) after) →
    new.questions ≡ mid.questions → new.verdict ≡ mid.verdict → OnOk r (new.log ≡ mid.log ++ clause ∷ []) → OnOk r (IsSearched line (k + 1) new)
pushed line k (Ok u) mid new clause next questions verdict log = next new questions verdict log
pushed line k (Err e) mid new clause next questions verdict log = tt

at_place : (c : goal.After-push) → c.nth_selection-selection.result ≡ selection_at c.args.project.now c.args.place
at_place c =
    c.nth_selection-selection.ensures ∙ ap (λ (fs : List (List ℕ)). nth (length fs) c.args.place) (c.slice.ensures ∙ ap (λ (m : FeatureModel). m.features) c.model.ensures.model)

next : (c : goal.After-push) (after : Search) → after.questions ≡ c.if-is_valid.self.questions → after.verdict ≡ c.if-is_valid.self.verdict → after.log ≡ c.if-is_valid.self.log ++ c.denial.result ∷ [] → IsSearched c.args.project.now (c.args.place + 1) after
next c after questions verdict log =
    let line = c.args.project.now in
    let k = c.args.place in
    let old = c.args.self.now in
    let mid = c.if-is_valid.self in
    let at = at_place c in
    let denied : after.log ≡ mid.log ++ denial (selection_at line k) ∷ [] = log ∙ ap (λ (d : Sides). mid.log ++ d ∷ []) (c.denial.ensures ∙ ap denial at) in
    elim c.if-is_valid.branch [
      | then-is_valid+in_ok-see w ↦
          searched_seen line k old mid after c.requires.within (subst (IsValid line.model.constraints) at (c.is_valid.ensures.0 w.if-is_valid.true)) c.requires.before
          (subst (λ (s : Chosen). IsSeen line s old mid) at (subst (IsSeen line c.nth_selection-selection.result old) (sym w.self-is) w.in_ok-see.ensures))
          questions verdict denied
      | else-is_valid w ↦
          searched_skipped line k old after
          (λ valid. both_ways c.is_valid.result w.if-is_valid.false (c.is_valid.ensures.1 (subst (IsValid line.model.constraints) (sym at) valid)))
          c.requires.before
          (questions ∙ ap (λ (z : Search). z.questions) w.self-is)
          (verdict ∙ ap (λ (z : Search). z.verdict) w.self-is)
          (denied ∙ ap (λ (z : Search). z.log ++ denial (selection_at line k) ∷ []) w.self-is)
    ]

pub returns : goal.returns
returns c = pushed c.args.project.now c.args.place c.push.result c.if-is_valid.self _ c.denial.result (next c) refl refl c.push.ensures.ok
