-- What is exact for a unit, and honest of it, holds wherever its facts are the same.
use Rattle.std.proofs.Common.{◌≡◌, ℕ, true, List, length, Option, None, Some, sym, ◌∙◌, ap, subst}
use Rattle.cfj_logic.specs.Selections.{Chosen}
use Rattle.cfj_logic.specs.Validity.{IsValid}
use Rattle.cfj_model.specs.Judging.{Pair, RuleAt}
use Rattle.cfj_model.specs.ProductLines.{IsProject, ProductLine}
use Rattle.cfj_model.specs.declared.feature_model.FeatureModel.{FeatureModel}
use Rattle.cfj_words.specs.Lists.{Has}
use Rattle.unit_facts.proofs.Alike.{AreValidAlike, BreaksAlike, all_exact, right}
use Rattle.unit_facts.specs.Diagnostics.{AreExact, IsValidFor}
use Rattle.unit_facts.specs.Facts.{Contents, HasFacts, fact}
use Rattle.unit_facts.specs.Judgements.{IsExactFor, IsHonest, IsRightFor, IsSameFor, IsVerdictFor, Judgement, SameFacts}
use Rattle.unit_facts.specs.Units.{IsUnit, unit_pairs}
use Rattle.unit_facts.specs.declared.entry.Entry.{Entry}
use Rattle.unit_facts.specs.declared.entry.Verdict.{Verdict}
use Rattle.unit_facts.specs.declared.unit.Key.{Key}
use Rattle.unit_facts.specs.declared.unit.Unit.{Unit}
use Rattle.unit_facts.specs.declared.unit.Unit.TheVariants as unit
use Rattle.locality_law.proofs.ByUnit.{breaks_in_unit}
use Rattle.locality_law.proofs.Items.{map_has}
use Rattle.locality_law.proofs.UnitLaws.{local}

-- the same selections are valid for lines with the same model
valid_with : (q r : ProductLine) → q.model ≡ r.model → (s : Chosen) → IsValidFor q s → IsValidFor r s
valid_with q r same s v = record {
  features = v.features ∙ ap (λ (m : FeatureModel). length m.features) same;
  on = v.on;
  valid = subst (λ (m : FeatureModel). IsValid m.constraints s) same v.valid;
}

pub valid_alike : (q r : ProductLine) → q.model ≡ r.model → AreValidAlike q r
valid_alike q r same = record { number = ap (λ (m : FeatureModel). length m.features) same; there = valid_with q r same; back = valid_with r q (sym same) }

-- what is exact for a unit is exact for it where it is the same
pub exact_there : (q r : ProductLine) → IsProject q → IsProject r → (u : Unit) → IsSameFor q r u → (budget : ℕ) (es : List Entry) (v : Option Verdict)
    → IsExactFor q budget u es v → IsExactFor r budget u es v
exact_there q r project other u same budget es v e = record {
  entries = subst (λ ps. AreExact r budget ps es) same.pairs (all_exact q r alike budget (unit_pairs q.classes u) es breaks e.entries);
  verdict = verdict_there u v e.verdict;
}
  where
    alike : AreValidAlike q r
    alike = valid_alike q r same.model

    broken : Pair → RuleAt
    broken p = record { site = p.0; rule = p.1; breaks = true }

    breaks : (p : Pair) → Has (unit_pairs q.classes u) p → BreaksAlike q r p
    breaks p h s =
        let a = breaks_in_unit q project u p h s in
        let b = breaks_in_unit r other u p (subst (λ ps. Has ps p) same.pairs h) s in
        (λ x. b.1 (subst (λ w. Has w (broken p)) (same.judged s) (a.0 x)), λ y. a.1 (subst (λ w. Has w (broken p)) (sym (same.judged s)) (b.0 y)))

    verdict_there : (u : Unit) (v : Option Verdict) → IsVerdictFor q budget u v → IsVerdictFor r budget u v
    verdict_there unit.Model None h = h
    verdict_there unit.Model (Some w) h = right q r alike budget w h
    verdict_there (unit.Class c) w h = h
    verdict_there (unit.Method c m alt) w h = h

-- a judgement that is right for a project which has its facts is honest
pub honest_here : (q : ProductLine) (j : Judgement) → IsProject q → IsUnit q j.unit → HasFacts q j.facts → IsRightFor j q → IsHonest j
honest_here q j project has facts is r other theirs = record {
  reach = record { ordered = is.reach.ordered; each = λ k. (λ h. same.there k ((is.reach.each k).0 h), λ h. (is.reach.each k).1 (same.back k h)) };
  exact = exact_there q r project other j.unit same j.budget j.entries j.verdict is.exact;
}
  where
    alike : SameFacts q r j.unit
    alike k h =
        let f = map_has (λ (f : Key × Contents). f.0) j.facts k ((is.reach.each k).1 h) in
        subst (λ w. fact q w ≡ fact r w) f.2 (facts f.0 f.1 ∙ sym (theirs f.0 f.1))

    same : IsSameFor q r j.unit
    same = local q r project other j.unit has alike
