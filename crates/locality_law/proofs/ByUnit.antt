-- What is judged in a project is what is judged in its units, in their order; each site tells its unit.
use Rattle.std.proofs.Common.{◌≡◌, ◌↔◌, ℕ, ◌==◌, Bool, true, false, not, cond, List, [], ◌∷◌, ◌++◌, map, Option, None, Some, refl, sym, ◌∙◌, ap, ap₂, subst}
use Rattle.std.specs.List.{find, flat_map}
use Rattle.std.specs.Str.{bytes_eq}
use Rattle.std.proofs.lemmas.Bool.{and_from, and_parts, eq-eqb, eqb-true}
use Rattle.std.proofs.lemmas.Grind.{flat_map-append}
use Rattle.std.proofs.lemmas.List.{append_assoc, map-append}
use Rattle.std.proofs.lemmas.List.Folds.{flat_map-map}
use Rattle.cfj_logic.specs.Selections.{Chosen}
use Rattle.cfj_model.specs.Judging.{Pair, RuleAt, Ruling, environment_of, extends_itself, judged, judged_at, judged_class, judged_ctor, judged_expr, judged_field, judged_method, pair_of, pairs_of}
use Rattle.cfj_model.specs.LookUps.{Table, declared, is_known}
use Rattle.cfj_model.specs.Members.{Placed, method_alts_rise, placed, placed_behind}
use Rattle.cfj_model.specs.ProductLines.{IsProject, ProductLine}
use Rattle.cfj_model.specs.Projection.{projected}
use Rattle.cfj_model.specs.declared.class.Class.{Class}
use Rattle.cfj_model.specs.declared.class.Method.{Method}
use Rattle.cfj_model.specs.declared.class.Param.{Param}
use Rattle.cfj_model.specs.declared.site.Rule.TheVariants.{K1, K2}
use Rattle.cfj_model.specs.declared.site.Site.{Site}
use Rattle.cfj_model.specs.declared.site.Site.TheVariants as site
use Rattle.cfj_words.specs.Lists.{Has}
use Rattle.feature_views.proofs.Variants.{variant_is_project}
use Rattle.class_table.proofs.Without.{declared_has, declared_name}
use Rattle.class_table.proofs.Members.{find_has, has_left, has_right, is_name, name_is}
use Rattle.unit_facts.specs.Diagnostics.{BreaksIn}
use Rattle.unit_facts.specs.Units.{class_units, is_declaration, judged_own, placed_method, of_some, unit_judged, unit_of, unit_pairs, units_of}
use Rattle.unit_facts.specs.declared.unit.Unit.{Unit}
use Rattle.unit_facts.specs.declared.unit.Unit.TheVariants as unit
use Rattle.locality_law.proofs.Items.{Each, IsAlone, each_both, each_has, each_of, flat_each, flat_has, has_flat, map_has}
use Rattle.locality_law.proofs.UnitLaws.{alone_found, class_declared}
use Rattle.locality_law.proofs.Methods.{rise_alone}
use Rattle.locality_law.proofs.SeenVariants.{AreNamedApart}
use Rattle.locality_law.proofs.Told.{kept_class}

-- ---- the unit of a site

module _ (u : Unit) where
  -- the rule is at a site of the unit
  abbrev IsInside : RuleAt → Type 0
  IsInside j = unit_of j.site ≡ u

  at_site : (s : Site) → unit_of s ≡ u → (vs : List Ruling) → Each IsInside (judged_at s vs)
  at_site s e [] = tt
  at_site s e (v ∷ vs) = (e, at_site s e vs)

  each_flat : {A : Type 0} (f : A → List RuleAt) (xs : List A) → ((x : A) → Each IsInside (f x)) → Each IsInside (flat_map f xs)
  each_flat f [] h = tt
  each_flat f (x ∷ xs) h = each_both IsInside (f x) (flat_map f xs) (h x) (each_flat f xs h)

own_inside : (p : Table) (k : Class) → Each (IsInside (unit.Class k.name)) (judged_own p k)
own_inside p k =
    let u = unit.Class k.name in
    each_both (IsInside u) (judged_at (site.Class k.name) ((K1, not (is_known p k.parent)) ∷ (K2, extends_itself p k) ∷ [])) (flat_map (judged_field p k) (placed k.fields) ++ judged_ctor p k)
    (at_site u (site.Class k.name) refl ((K1, not (is_known p k.parent)) ∷ (K2, extends_itself p k) ∷ []))
    (each_both (IsInside u) (flat_map (judged_field p k) (placed k.fields)) (judged_ctor p k)
    (each_flat u (judged_field p k) (placed k.fields) (λ f. (refl, (refl, (refl, tt)))))
    (refl, (refl, (refl, each_flat u (λ (c : Param). judged_at (site.CtorParam k.name c.slot) ((K1, not (is_known p c.of)) ∷ [])) k.ctor.params (λ c. (refl, tt))))))

method_inside : (p : Table) (k : Class) (q : Placed Method) → Each (IsInside (unit.Method k.name q.item.name q.item.alt)) (judged_method p k q)
method_inside p k q =
    let m : Method = q.item in
    let u = unit.Method k.name m.name m.alt in
    let params = flat_map (λ (a : Param). judged_at (site.Param k.name m.name m.alt a.slot) ((K1, not (is_known p a.of)) ∷ [])) m.params in
    let nodes = (judged_expr p (environment_of k m) m.body).rules [] in (
      refl,
      (
        refl,
        (
          refl,
          (
            refl,
            each_both (IsInside u) params (flat_map (λ (n : ℕ × List Ruling). judged_at (site.Node k.name m.name m.alt n.0) n.1) nodes)
                (each_flat u (λ (a : Param). judged_at (site.Param k.name m.name m.alt a.slot) ((K1, not (is_known p a.of)) ∷ [])) m.params (λ a. (refl, tt)))
                (each_flat u (λ (n : ℕ × List Ruling). judged_at (site.Node k.name m.name m.alt n.0) n.1) nodes (λ n. at_site u (site.Node k.name m.name m.alt n.0) refl n.1)),
          ),
        ),
      ),
    )

-- what is judged in a unit lies in it
pub unit_inside : (p : Table) (u : Unit) (j : RuleAt) → Has (unit_judged p u) j → unit_of j.site ≡ u
unit_inside p unit.Model j h = absurd (let none : ⊥ = cc h.1 in none)
unit_inside p (unit.Class c) j h = go (declared p c) refl h
  where
    go : (o : Option Class) → declared p c ≡ o → Has (of_some (judged_own p) o) j → unit_of j.site ≡ unit.Class c
    go None e h = absurd (let none : ⊥ = cc h.1 in none)
    go (Some k) e h = each_has (IsInside (unit.Class k.name)) (judged_own p k) (own_inside p k) j h ∙ ap (λ n. unit.Class n) (declared_name p c k e)
unit_inside p (unit.Method c m alt) j h = go (declared p c) refl h
  where
    inner : (k : Class) → k.name ≡ c → (o : Option (Placed Method)) → placed_method m alt k ≡ o → Has (of_some (judged_method p k) o) j → unit_of j.site ≡ unit.Method c m alt
    inner k named None e h = absurd (let none : ⊥ = cc h.1 in none)
    inner k named (Some q) e h =
        let test = (find_has (λ (w : Placed Method). is_declaration m alt w.item) (placed k.methods) q e).1 in
        let both = and_parts (bytes_eq q.item.name m) (q.item.alt == alt) test in
        each_has (IsInside (unit.Method k.name q.item.name q.item.alt)) (judged_method p k q) (method_inside p k q) j h
        ∙ ap (λ n. unit.Method n q.item.name q.item.alt) named
        ∙ ap₂ (λ n a. unit.Method c n a) (name_is q.item.name m both.0) (eqb-true q.item.alt alt both.1)

    go : (o : Option Class) → declared p c ≡ o → Has (of_some (λ k. of_some (judged_method p k) (placed_method m alt k)) o) j → unit_of j.site ≡ unit.Method c m alt
    go None e h = absurd (let none : ⊥ = cc h.1 in none)
    go (Some k) e h = inner k (declared_name p c k e) (placed_method m alt k) refl h

-- ---- a class, part by part

pub class_parts : (p : Table) (k : Class) → judged_class p k ≡ judged_own p k ++ flat_map (judged_method p k) (placed k.methods)
class_parts p k =
    let head = judged_at (site.Class k.name) ((K1, not (is_known p k.parent)) ∷ (K2, extends_itself p k) ∷ []) in
    let fields = flat_map (judged_field p k) (placed k.fields) in
    let methods = flat_map (judged_method p k) (placed k.methods) in
    ap (λ w. head ++ w) (sym (append_assoc fields (judged_ctor p k) methods)) ∙ sym (append_assoc head (fields ++ judged_ctor p k) methods)

-- what is judged in a unit is judged in the project
pub unit_in_project : (p : Table) (u : Unit) (j : RuleAt) → Has (unit_judged p u) j → Has (judged p) j
unfolding judged
unit_in_project p unit.Model j h = absurd (let none : ⊥ = cc h.1 in none)
unit_in_project p (unit.Class c) j h = go (declared p c) refl h
  where
    go : (o : Option Class) → declared p c ≡ o → Has (of_some (judged_own p) o) j → Has (flat_map (judged_class p) p) j
    go None e h = absurd (let none : ⊥ = cc h.1 in none)
    go (Some k) e h =
        has_flat (judged_class p) p k j (declared_has p c k e)
        (subst (λ w. Has w j) (sym (class_parts p k)) (has_left (judged_own p k) (flat_map (judged_method p k) (placed k.methods)) j h))
unit_in_project p (unit.Method c m alt) j h = go (declared p c) refl h
  where
    inner : (k : Class) → Has p k → (o : Option (Placed Method)) → placed_method m alt k ≡ o → Has (of_some (judged_method p k) o) j → Has (flat_map (judged_class p) p) j
    inner k here None e h = absurd (let none : ⊥ = cc h.1 in none)
    inner k here (Some q) e h =
        has_flat (judged_class p) p k j here
        (subst (λ w. Has w j) (sym (class_parts p k))
        (has_right (judged_own p k) (flat_map (judged_method p k) (placed k.methods)) j
        (has_flat (judged_method p k) (placed k.methods) q j (find_has (λ (w : Placed Method). is_declaration m alt w.item) (placed k.methods) q e).0 h)))

    go : (o : Option Class) → declared p c ≡ o → Has (of_some (λ k. of_some (judged_method p k) (placed_method m alt k)) o) j → Has (flat_map (judged_class p) p) j
    go None e h = absurd (let none : ⊥ = cc h.1 in none)
    go (Some k) e h = inner k (declared_has p c k e) (placed_method m alt k) refl h

-- ---- unit by unit

placed_alone : {A : Type 0} (test : A → Bool) (before xs : List A) → IsAlone test xs → IsAlone (λ (q : Placed A). test q.item) (placed_behind before xs)
placed_alone test before [] alone = tt
placed_alone {A} test before (x ∷ xs) alone = (λ t. none_placed (before ++ x ∷ []) xs (alone.0 t), placed_alone test (before ++ x ∷ []) xs alone.1)
  where
    none_placed : (before xs : List A) → find test xs ≡ None → find (λ (q : Placed A). test q.item) (placed_behind before xs) ≡ None
    none_placed before [] e = refl
    none_placed before (y ∷ ys) e = go (none_placed (before ++ y ∷ []) ys) (test y) e
      where
        go : (find test ys ≡ None → find (λ (q : Placed A). test q.item) (placed_behind (before ++ y ∷ []) ys) ≡ None) → (b : Bool) → cond b (Some y) (find test ys) ≡ None
            → cond b (Some (record { before = before; item = y })) (find (λ (q : Placed A). test q.item) (placed_behind (before ++ y ∷ []) ys)) ≡ None
        go ih true e = absurd (let none : ⊥ = cc e in none)
        go ih false e = ih e

-- the items of a list with those before them are its items
placed_items : {A B : Type 0} (f : A → List B) (before xs : List A) → flat_map (λ (q : Placed A). f q.item) (placed_behind before xs) ≡ flat_map f xs
placed_items f before [] = refl
placed_items f before (x ∷ xs) = ap (λ w. f x ++ w) (placed_items f (before ++ x ∷ []) xs)

flat_flat : {A B C : Type 0} (f : B → List C) (g : A → List B) (xs : List A) → flat_map f (flat_map g xs) ≡ flat_map (λ x. flat_map f (g x)) xs
flat_flat f g [] = refl
flat_flat f g (x ∷ xs) = flat_map-append f (g x) (flat_map g xs) ∙ ap (λ w. flat_map f (g x) ++ w) (flat_flat f g xs)

module _ (p : Table) (apart : AreNamedApart p) (rise : (k : Class) → Has p k → method_alts_rise k.methods ≡ true) where
  class_by_unit : (k : Class) → Has p k → judged_class p k ≡ flat_map (unit_judged p) (class_units k)
  class_by_unit k here = class_parts p k ∙ ap₂ (λ a b. a ++ b) (sym (ap (of_some (judged_own p)) found)) methods
    where
      found : declared p k.name ≡ Some k
      found = class_declared p apart k here

      method_unit : Method → Unit
      method_unit m = unit.Method k.name m.name m.alt

      one : (q : Placed Method) → Has (placed k.methods) q → judged_method p k q ≡ unit_judged p (method_unit q.item)
      one q at =
          sym (ap (of_some (judged_method p k))
          (alone_found (λ (w : Placed Method). is_declaration q.item.name q.item.alt w.item) (placed k.methods)
          (placed_alone (is_declaration q.item.name q.item.alt) [] k.methods (rise_alone q.item.name q.item.alt k.methods (rise k here)))
          q at (and_from (bytes_eq q.item.name q.item.name) (q.item.alt == q.item.alt) (is_name q.item.name q.item.name refl) (eq-eqb q.item.alt q.item.alt refl))))
          ∙ sym (ap (of_some (λ k. of_some (judged_method p k) (placed_method q.item.name q.item.alt k))) found)

      methods : flat_map (judged_method p k) (placed k.methods) ≡ flat_map (unit_judged p) (map method_unit k.methods)
      methods =
          flat_each (judged_method p k) (λ (q : Placed Method). unit_judged p (method_unit q.item)) (placed k.methods)
          (each_of (λ (q : Placed Method). judged_method p k q ≡ unit_judged p (method_unit q.item)) (placed k.methods) one)
          ∙ placed_items (λ m. unit_judged p (method_unit m)) [] k.methods
          ∙ sym (flat_map-map (unit_judged p) method_unit k.methods)

  -- what is judged is what is judged in the units, in their order
  pub judged_by_unit : judged p ≡ flat_map (unit_judged p) (units_of p)
  unfolding judged
  judged_by_unit =
      flat_each (judged_class p) (λ k. flat_map (unit_judged p) (class_units k)) p (each_of (λ (k : Class). judged_class p k ≡ flat_map (unit_judged p) (class_units k)) p class_by_unit)
      ∙ sym (flat_flat (unit_judged p) class_units p)

  -- what is judged at a site is judged in its unit
  pub found_in_unit : (j : RuleAt) → Has (judged p) j → Has (unit_judged p (unit_of j.site)) j
  found_in_unit j h =
      let r = flat_has (unit_judged p) (units_of p) j (subst (λ w. Has w j) judged_by_unit h) in
      subst (λ u. Has (unit_judged p u) j) (sym (unit_inside p r.0 j r.2)) r.2

map_flat : {A B C : Type 0} (g : B → C) (f : A → List B) (xs : List A) → map g (flat_map f xs) ≡ flat_map (λ x. map g (f x)) xs
map_flat g f [] = refl
map_flat g f (x ∷ xs) = map-append g (f x) (flat_map f xs) ∙ ap (λ w. map g (f x) ++ w) (map_flat g f xs)

-- ---- of a project

pub pairs_by_unit : (line : ProductLine) → IsProject line → pairs_of line.classes ≡ flat_map (unit_pairs line.classes) (units_of line.classes)
pairs_by_unit line project =
    ap (map pair_of) (judged_by_unit line.classes project.classes_distinct (λ k h. (kept_class line project k h).rise))
    ∙ map_flat pair_of (unit_judged line.classes) (units_of line.classes)

-- a pair of a unit breaks in a variant exactly where it breaks in the variant's unit
pub breaks_in_unit : (line : ProductLine) → IsProject line → (u : Unit) (p : Pair) → Has (unit_pairs line.classes u) p → (s : Chosen)
    → BreaksIn line p s ↔ Has (unit_judged (projected s line).classes u) (record { site = p.0; rule = p.1; breaks = true })
breaks_in_unit line project u p h s = (there, back)
  where
    variant : Table
    variant = (projected s line).classes

    kept : IsProject (projected s line)
    kept = variant_is_project s line project

    broken : RuleAt
    broken = record { site = p.0; rule = p.1; breaks = true }

    inside : unit_of p.0 ≡ u
    inside =
        let r = map_has pair_of (unit_judged line.classes u) p h in
        sym (ap (λ (w : Pair). unit_of w.0) r.2) ∙ unit_inside line.classes u r.0 r.1

    there : BreaksIn line p s → Has (unit_judged variant u) broken
    there b = subst (λ w. Has (unit_judged variant w) broken) inside (found_in_unit variant kept.classes_distinct (λ k at. (kept_class (projected s line) kept k at).rise) broken b)

    back : Has (unit_judged variant u) broken → BreaksIn line p s
    back b = unit_in_project variant u broken b
