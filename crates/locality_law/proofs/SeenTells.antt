-- At each place of the aligned reading the pair breaks in the variant exactly where it says so.
use Rattle.std.proofs.Common.{◌≡◌, ◌⊎◌, ◌↔◌, inl, inr, true, List, [], ◌∷◌, ◌++◌, map, refl, sym, ◌∙◌, ap, subst}
use Rattle.std.specs.List.{flat_map}
use Rattle.cfj_logic.specs.Selections.{Chosen}
use Rattle.cfj_model.specs.Judging.{RuleAt, pair_of}
use Rattle.cfj_model.specs.ProductLines.{IsProject, ProductLine}
use Rattle.cfj_model.specs.Projection.{projected}
use Rattle.cfj_words.specs.Lists.{Has}
use Rattle.class_table.proofs.Members.{filter_has, has_cases, has_filter, has_left, has_map, has_none}
use Rattle.unit_facts.specs.Diagnostics.{BreaksIn}
use Rattle.unit_facts.specs.Units.{IsUnit, unit_judged, unit_pairs, units_of}
use Rattle.unit_facts.specs.declared.unit.Unit.{Unit}
use Rattle.locality_law.specs.Apart.{AreApart}
use Rattle.locality_law.specs.Seen.{broken, seen_unit}
use Rattle.locality_law.proofs.ApartPairs.{pairs_apart}
use Rattle.locality_law.proofs.ByUnit.{breaks_in_unit, pairs_by_unit}
use Rattle.locality_law.proofs.SeenBroken.{seen_broken}
use Rattle.locality_law.proofs.SeenPairs.{seen_pairs}

-- ---- lists without an item twice

apart_left : {A : Type 0} (xs ys : List A) → AreApart (xs ++ ys) → AreApart xs
apart_left [] ys apart = tt
apart_left (x ∷ xs) ys apart = (λ h. apart.0 (has_left xs ys x h), apart_left xs ys apart.1)

apart_right : {A : Type 0} (xs ys : List A) → AreApart (xs ++ ys) → AreApart ys
apart_right [] ys apart = apart
apart_right (x ∷ xs) ys apart = apart_right xs ys apart.1

-- what an item gives has no item twice where all together have none
part_apart : {A B : Type 0} (f : A → List B) (xs : List A) → AreApart (flat_map f xs) → (x : A) → Has xs x → AreApart (f x)
part_apart f [] apart x h = absurd (has_none x h)
part_apart f (y ∷ ys) apart x h = go (part_apart f ys (apart_right (f y) (flat_map f ys) apart) x) (has_cases y ys x h)
  where
    go : (Has ys x → AreApart (f x)) → (y ≡ x) ⊎ Has ys x → AreApart (f x)
    go ih (inl s) = subst (λ z. AreApart (f z)) s (apart_left (f y) (flat_map f ys) apart)
    go ih (inr here) = ih here

-- where no key stands twice, the key tells the item
told_apart : {A B : Type 0} (key : A → B) (xs : List A) → AreApart (map key xs) → (x y : A) → Has xs x → Has xs y → key x ≡ key y → x ≡ y
told_apart key [] apart x y h i e = absurd (has_none x h)
told_apart {A} key (z ∷ zs) apart x y h i e = go (told_apart key zs apart.1 x y) (has_cases z zs x h) (has_cases z zs y i)
  where
    go : (Has zs x → Has zs y → key x ≡ key y → x ≡ y) → (z ≡ x) ⊎ Has zs x → (z ≡ y) ⊎ Has zs y → x ≡ y
    go ih (inl f) (inl g) = sym f ∙ g
    go ih (inl f) (inr there) = absurd (apart.0 (subst (λ w. Has (map key zs) w) (sym e ∙ sym (ap key f)) (has_map key zs y there)))
    go ih (inr here) (inl g) = absurd (apart.0 (subst (λ w. Has (map key zs) w) (e ∙ sym (ap key g)) (has_map key zs x here)))
    go ih (inr here) (inr there) = ih here there e

-- ---- at each place

pub seen_tells : (s : Chosen) (line : ProductLine) → IsProject line → (u : Unit) → IsUnit line u → (r : RuleAt) → Has (seen_unit s line u) r
    → (r.breaks ≡ true) ↔ BreaksIn line (pair_of r) s
seen_tells s line project u is r here = (there, back)
  where
    breaking : RuleAt
    breaking = record { site = r.site; rule = r.rule; breaks = true }

    seen : List RuleAt
    seen = seen_unit s line u

    left : List RuleAt
    left = unit_judged (projected s line).classes u

    pair : Has (unit_pairs line.classes u) (pair_of r)
    pair = subst (λ ps. Has ps (pair_of r)) (seen_pairs s line u) (has_map pair_of seen r here)

    both : BreaksIn line (pair_of r) s ↔ Has left breaking
    both = breaks_in_unit line project u (pair_of r) pair s

    there : r.breaks ≡ true → BreaksIn line (pair_of r) s
    there e =
        let same : r ≡ breaking = ap (λ b. let j : RuleAt = record { site = r.site; rule = r.rule; breaks = b } in j) e in
        let found : Has (broken seen) breaking = subst (λ j. Has (broken seen) j) same (has_filter (λ (j : RuleAt). j.breaks) seen r here e) in
        both.1 (filter_has (λ (j : RuleAt). j.breaks) left breaking (subst (λ js. Has js breaking) (seen_broken s line project u) found)).0

    back : BreaksIn line (pair_of r) s → r.breaks ≡ true
    back b =
        let found : Has (broken left) breaking = has_filter (λ (j : RuleAt). j.breaks) left breaking (both.0 b) refl in
        let seen_there = filter_has (λ (j : RuleAt). j.breaks) seen breaking (subst (λ js. Has js breaking) (sym (seen_broken s line project u)) found) in
        ap (λ (j : RuleAt). j.breaks) (told_apart pair_of seen apart r breaking here seen_there.0 refl)
      where
        apart : AreApart (map pair_of seen)
        apart =
            subst (λ ps. AreApart ps) (sym (seen_pairs s line u))
            (part_apart (unit_pairs line.classes) (units_of line.classes) (subst (λ ps. AreApart ps) (pairs_by_unit line project) (pairs_apart line project)) u is)
