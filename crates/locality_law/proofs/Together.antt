-- A line is checked exactly where its units are, joined in their order.
use Rattle.std.proofs.Common.{◌≡◌, ◌↔◌, ℕ, List, [], ◌∷◌, ◌++◌, refl, sym, ap, subst}
use Rattle.std.specs.List.{flat_map}
use Rattle.cfj_model.specs.Judging.{Pair, pairs_of}
use Rattle.cfj_model.specs.ProductLines.{IsProject, ProductLine}
use Rattle.unit_facts.specs.Diagnostics.{AreExact, BreaksIn, IsChecked, IsNever, IsRight, pair_of_entry}
use Rattle.unit_facts.specs.Judgements.{AreExactByUnits, IsVerdictFor, no_units, one_unit, verdict_at}
use Rattle.unit_facts.specs.Units.{class_units, unit_pairs, units_of}
use Rattle.unit_facts.specs.declared.entry.Entry.{Entry}
use Rattle.unit_facts.specs.declared.entry.Verdict.{Verdict}
use Rattle.unit_facts.specs.declared.unit.Unit.{Unit}
use Rattle.unit_facts.specs.declared.unit.Unit.TheVariants as unit
use Rattle.locality_law.proofs.ByUnit.{pairs_by_unit}

module _ (line : ProductLine) (budget : ℕ) where
  -- entries for pairs, and behind them entries for others
  pub exact_both : (ps qs : List Pair) (es fs : List Entry) → AreExact line budget ps es → AreExact line budget qs fs → AreExact line budget (ps ++ qs) (es ++ fs)
  exact_both _ qs _ fs AreExact.all_told behind = behind
  exact_both _ qs _ fs (AreExact.unbroken p ps es none rest) behind = AreExact.unbroken p (ps ++ qs) (es ++ fs) none (exact_both ps qs es fs rest behind)
  exact_both _ qs _ fs (AreExact.told e ps es is rest) behind = AreExact.told e (ps ++ qs) (es ++ fs) is (exact_both ps qs es fs rest behind)

  -- entries for pairs in two parts are in two parts
  parts : (all : List Pair) (gs : List Entry) → AreExact line budget all gs → (ps qs : List Pair) → all ≡ ps ++ qs
      → (es : List Entry) × (fs : List Entry) × (gs ≡ es ++ fs) × AreExact line budget ps es × AreExact line budget qs fs
  parts all gs d [] qs e = ([], gs, refl, AreExact.all_told, subst (λ w. AreExact line budget w gs) e d)
  parts _ _ AreExact.all_told (p ∷ ps) qs e = absurd (let none : ⊥ = cc e in none)
  parts _ _ (AreExact.unbroken r rs gs none rest) (p ∷ ps) qs e =
      let s : r ≡ p = cc e in
      let t : rs ≡ ps ++ qs = cc e in
      let x = parts rs gs rest ps qs t in
      (x.0, x.1, x.2, AreExact.unbroken p ps x.0 (subst (λ w. IsNever line (BreaksIn line w)) s none) x.3, x.4)
  parts _ _ (AreExact.told g rs gs is rest) (p ∷ ps) qs e =
      let s : pair_of_entry g ≡ p = cc e in
      let t : rs ≡ ps ++ qs = cc e in
      let x = parts rs gs rest ps qs t in
      (g ∷ x.0, x.1, ap (λ w. g ∷ w) x.2, subst (λ w. AreExact line budget (w ∷ ps) (g ∷ x.0)) s (AreExact.told g ps x.0 is x.3), x.4)

  none_told : (ps : List Pair) (es : List Entry) → AreExact line budget ps es → ps ≡ [] → es ≡ []
  none_told _ _ AreExact.all_told e = refl
  none_told _ _ (AreExact.unbroken p ps es none rest) e = absurd (let none : ⊥ = cc e in none)
  none_told _ _ (AreExact.told g ps es is rest) e = absurd (let none : ⊥ = cc e in none)

  module _ (v : Verdict) where
    split : IsRight line budget v → (us : List Unit) (es : List Entry) → AreExact line budget (flat_map (unit_pairs line.classes) us) es → AreExactByUnits line budget v us es
    split right [] es d = subst (AreExactByUnits line budget v []) (sym (none_told [] es d refl)) no_units
    split right (u ∷ us) es d =
        let x = parts (unit_pairs line.classes u ++ flat_map (unit_pairs line.classes) us) es d (unit_pairs line.classes u) (flat_map (unit_pairs line.classes) us) refl in
        subst (AreExactByUnits line budget v (u ∷ us)) (sym x.2) (one_unit u us x.0 x.1 (record { entries = x.3; verdict = verdict_is u }) (split right us x.1 x.4))
      where
        verdict_is : (w : Unit) → IsVerdictFor line budget w (verdict_at v w)
        verdict_is unit.Model = right
        verdict_is (unit.Class c) = refl
        verdict_is (unit.Method c m alt) = refl

    joined_units : (us : List Unit) (es : List Entry) → AreExactByUnits line budget v us es → AreExact line budget (flat_map (unit_pairs line.classes) us) es
    joined_units _ _ AreExactByUnits.no_units = AreExact.all_told
    joined_units _ _ (AreExactByUnits.one_unit u us es fs here rest) =
        exact_both (unit_pairs line.classes u) (flat_map (unit_pairs line.classes) us) es fs here.entries (joined_units us fs rest)

    verdict_of : (us : List Unit) (es : List Entry) → AreExactByUnits line budget v us es → (ws : List Unit) → us ≡ unit.Model ∷ ws → IsRight line budget v
    verdict_of _ _ AreExactByUnits.no_units ws e = absurd (let none : ⊥ = cc e in none)
    verdict_of _ _ (AreExactByUnits.one_unit u us es fs here rest) ws e =
        let s : u ≡ unit.Model = cc e in
        subst (λ w. IsVerdictFor line budget w (verdict_at v w)) s here.verdict

pub checked_by_units : (line : ProductLine) → IsProject line → (budget : ℕ) (v : Verdict) (es : List Entry) → IsChecked line budget v es ↔ AreExactByUnits line budget v (units_of line.classes) es
checked_by_units line project budget v es = (there, back)
  where
    pairs : pairs_of line.classes ≡ flat_map (unit_pairs line.classes) (units_of line.classes)
    pairs = pairs_by_unit line project

    there : IsChecked line budget v es → AreExactByUnits line budget v (units_of line.classes) es
    there c = split line budget v c.verdict (units_of line.classes) es (subst (λ ps. AreExact line budget ps es) pairs c.entries)

    back : AreExactByUnits line budget v (units_of line.classes) es → IsChecked line budget v es
    back d = record {
      verdict = verdict_of line budget v (units_of line.classes) es d (flat_map class_units line.classes) refl;
      entries = subst (λ ps. AreExact line budget ps es) (sym pairs) (joined_units line budget v (units_of line.classes) es d);
    }
