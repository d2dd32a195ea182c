-- A method's unit is the same in two projects that have the same facts at its reach.
use Rattle.std.proofs.Common.{◌≡◌, ℕ, Bool, true, false, not, cond, List, [], ◌∷◌, ◌++◌, map, Option, None, Some, option_map, refl, sym, ◌∙◌, ap, ap₂, subst}
use Rattle.std.specs.List.{filter, find}
use Rattle.std.specs.Prelude.{◌==◌}
use Rattle.std.specs.Str.{bytes_eq}
use Rattle.std.proofs.lemmas.Bool.{and_parts, eqb-true}
use Rattle.cfj_logic.specs.Selections.{Chosen}
use Rattle.cfj_logic.specs.Sides.{Sides}
use Rattle.cfj_model.specs.LookUps.{declared}
use Rattle.cfj_model.specs.ProductLines.{IsProject, ProductLine, object}
use Rattle.cfj_model.specs.Projection.{bare_param, is_present, presence_of, projected_method}
use Rattle.cfj_model.specs.Typing.{classes_named_by, method_uses, param_types}
use Rattle.cfj_model.specs.declared.class.Class.{Class}
use Rattle.cfj_model.specs.declared.class.Method.{Method}
use Rattle.cfj_model.specs.declared.class.Param.{Param}
use Rattle.cfj_words.specs.Lists.{Has}
use Rattle.class_table.proofs.Members.{filter_has, find_has, has_left, has_map, has_rest, has_right, name_is}
use Rattle.unit_facts.specs.Pairs.{method_pairs}
use Rattle.unit_facts.specs.Facts.{Head, fact, head_at, head_of, method_at, method_is, signatures_at, signatures_in, signatures_of}
use Rattle.unit_facts.specs.Judgements.{IsSameFor, SameFacts}
use Rattle.unit_facts.specs.Reach.{InMethodReach, InReach, MethodReaches, Reaches, methods_asked, methods_called_by}
use Rattle.unit_facts.specs.Units.{is_declaration, of_some, unit_judged}
use Rattle.unit_facts.specs.declared.unit.Key.{Key}
use Rattle.unit_facts.specs.declared.unit.Key.TheVariants as key
use Rattle.unit_facts.specs.declared.unit.Unit.TheVariants as unit
use Rattle.locality_law.proofs.Agreement.{IsReached, agree_there}
use Rattle.locality_law.proofs.Bodies.{Agree}
use Rattle.locality_law.proofs.BodyNames.{keeps_calls, keeps_names}
use Rattle.locality_law.proofs.Items.{Each, each_of, map_has}
use Rattle.locality_law.proofs.Methods.{class_of_method, is_first, judged_named, method_unit, named_same, shown_method}
use Rattle.locality_law.proofs.SeenChains.{SigSeen}
use Rattle.locality_law.proofs.SeenVariants.{first_present, variant_is, variant_of}
use Rattle.locality_law.proofs.Told.{any_told, head_told, kept_declared, no_object, reach_back, reach_there, some_told}
use Rattle.locality_law.proofs.UnitPairs.{class_called, method_pairs_known}

module _ (q r : ProductLine) (project : IsProject q) (other : IsProject r) (c m : List ℕ) (alt : ℕ) (d : Method) (here : method_at q.classes c m alt ≡ Some d)
    (same : SameFacts q r (unit.Method c m alt)) where
  abbrev N : List ℕ → Type 0
  N = MethodReaches q.classes c d

  abbrev K : List ℕ → Type 0
  K = Has (methods_asked d)

  same_at : (k : Key) → InMethodReach q.classes c d k → fact q k ≡ fact r k
  same_at k h = same k (d, here, h)

  found : (k : Class) × (declared q.classes c ≡ Some k) × (find (is_declaration m alt) k.methods ≡ Some d)
  found = class_of_method q.classes c m alt d here

  both : (bytes_eq d.name m ≡ true) × ((d.alt == alt) ≡ true)
  both = and_parts (bytes_eq d.name m) (d.alt == alt) (find_has (is_declaration m alt) found.0.methods d found.2).1

  named : d.name ≡ m
  named = name_is d.name m both.0

  itself : unit.Method c m alt ≡ unit.Method c d.name d.alt
  itself = sym (ap₂ (λ n a. unit.Method c n a) named (eqb-true d.alt alt both.1))

  method_there : method_at r.classes c m alt ≡ Some d
  method_there =
      sym (some_told method_is (λ x y s. cc s) (λ x s. let none : ⊥ = cc s in none) (method_at q.classes c m alt) (method_at r.classes c m alt) (same_at (key.Own (unit.Method c m alt)) itself)) ∙ here

  heads : (n : List ℕ) → N n → head_at q.classes n ≡ head_at r.classes n
  heads n at = go (bytes_eq n object) refl
    where
      none : (t : ProductLine) → IsProject t → bytes_eq n object ≡ true → head_at t.classes n ≡ None
      none t kept e = ap (head_at t.classes) (name_is n object e) ∙ ap (option_map head_of) (no_object t kept)

      go : (b : Bool) → bytes_eq n object ≡ b → head_at q.classes n ≡ head_at r.classes n
      go true e = none q project e ∙ sym (none r other e)
      go false e = head_told (head_at q.classes n) (head_at r.classes n) (same_at (key.Head n) (at, e))

  signatures : (n k : List ℕ) → N n → K k → signatures_at q.classes n k ≡ signatures_at r.classes n k
  signatures n k at asked = go (bytes_eq n object) refl
    where
      none : (t : ProductLine) → IsProject t → bytes_eq n object ≡ true → signatures_at t.classes n k ≡ []
      none t kept e = ap (λ w. signatures_at t.classes w k) (name_is n object e) ∙ ap (signatures_in k) (no_object t kept)

      go : (b : Bool) → bytes_eq n object ≡ b → signatures_at q.classes n k ≡ signatures_at r.classes n k
      go true e = none q project e ∙ sym (none r other e)
      go false e = any_told (signatures_at q.classes n k) (signatures_at r.classes n k) (same_at (key.Sig n k) (at, asked, e))

  -- ---- the reach

  to_other : (k : Key) → InMethodReach q.classes c d k → InMethodReach r.classes c d k
  to_other key.Model h = h
  to_other (key.Head n) h = (reach_there q.classes r.classes (c ∷ method_uses d) (methods_asked d) heads signatures n h.0, h.1)
  to_other (key.Sig n k) h = (reach_there q.classes r.classes (c ∷ method_uses d) (methods_asked d) heads signatures n h.0, h.1, h.2)
  to_other (key.Own u) h = h

  from_other : (k : Key) → InMethodReach r.classes c d k → InMethodReach q.classes c d k
  from_other key.Model h = h
  from_other (key.Head n) h = (reach_back q.classes r.classes (c ∷ method_uses d) (methods_asked d) heads signatures n h.0, h.1)
  from_other (key.Sig n k) h = (reach_back q.classes r.classes (c ∷ method_uses d) (methods_asked d) heads signatures n h.0, h.1, h.2)
  from_other (key.Own u) h = h

  there : (k : Key) → InReach q (unit.Method c m alt) k → InReach r (unit.Method c m alt) k
  there k (e, is, h) =
      let one : Some e ≡ Some d = sym is ∙ here in
      let s : e ≡ d = cc one in
      (d, method_there, to_other k (subst (λ (w : Method). InMethodReach q.classes c w k) s h))

  back : (k : Key) → InReach r (unit.Method c m alt) k → InReach q (unit.Method c m alt) k
  back k (e, is, h) =
      let one : Some e ≡ Some d = sym is ∙ method_there in
      let s : e ≡ d = cc one in
      (d, here, from_other k (subst (λ (w : Method). InMethodReach r.classes c w k) s h))

  -- ---- what is judged

  start : (n : List ℕ) → Has (c ∷ method_uses d) n → N n
  start n h = Reaches.start n h

  reached : IsReached N K q.classes
  reached = record {
    up = λ n h at e. Reaches.superclass n h at e;
    field = λ n t h at e has. Reaches.field_type n t h at e has;
    method = λ n t k at asked has. Reaches.method_type n t k at asked has;
  }

  params_in : Each N (param_types d.params)
  params_in =
      each_of N (param_types d.params) (λ n h. start n (has_rest c (method_uses d) n (has_rest d.result (param_types d.params ++ classes_named_by d.body) n (has_left (param_types d.params) (classes_named_by d.body) n h))))

  names_in : Each N (classes_named_by d.body)
  names_in =
      each_of N (classes_named_by d.body) (λ n h. start n (has_rest c (method_uses d) n (has_rest d.result (param_types d.params ++ classes_named_by d.body) n (has_right (param_types d.params) (classes_named_by d.body) n h))))

  calls_in : Each K (methods_called_by d.body)
  calls_in = each_of K (methods_called_by d.body) (λ k h. has_rest d.name (methods_called_by d.body) k h)

  module _ (s : Chosen) where
    agree : Agree N K (variant_of s q.classes) (variant_of s r.classes)
    agree = agree_there N K s q.classes r.classes project.classes_distinct other.classes_distinct reached heads signatures

    present_in : (within : Sides) → Each N (param_types (map bare_param (filter (λ p. is_present s (presence_of within p.colors)) d.params)))
    present_in within = each_of N (param_types (map bare_param left)) each
      where
        left : List Param
        left = filter (λ p. is_present s (presence_of within p.colors)) d.params

        each : (n : List ℕ) → Has (param_types (map bare_param left)) n → N n
        each n h =
            let a = map_has (λ (p : Param). p.of) (map bare_param left) n h in
            let b = map_has bare_param left a.0 a.1 in
            let inside = (filter_has (λ p. is_present s (presence_of within p.colors)) d.params b.0 b.1).0 in
            let of : b.0.of ≡ n = ap (λ (p : Param). p.of) b.2 ∙ a.2 in
            start n (has_rest c (method_uses d) n (has_rest d.result (param_types d.params ++ classes_named_by d.body) n
            (has_left (param_types d.params) (classes_named_by d.body) n (subst (Has (param_types d.params)) of (has_map (λ (p : Param). p.of) d.params b.0 inside)))))

    shown_same : (around : Sides) (first : Option SigSeen) → shown_method (variant_of s q.classes) s c alt around first d ≡ shown_method (variant_of s r.classes) s c alt around first d
    shown_same around first = go (is_present s around) (is_present s (presence_of around d.colors))
      where
        e : Method
        e = projected_method s around d

        rules : (again : Bool) → judged_named (variant_of s q.classes) c again e ≡ judged_named (variant_of s r.classes) c again e
        rules again =
            named_same N K (variant_of s q.classes) (variant_of s r.classes) agree c e (start c (0, refl)) (start d.result (has_rest c (method_uses d) d.result (0, refl))) (present_in (presence_of around d.colors))
            (keeps_names N s d.body (presence_of around d.colors) names_in) (0, refl) (keeps_calls K s d.body (presence_of around d.colors) calls_in) again

        go : (a b : Bool) → cond a (of_some (judged_named (variant_of s q.classes) c (not (is_first alt first))) (cond b (Some e) None)) [] ≡ cond a (of_some (judged_named (variant_of s r.classes) c (not (is_first alt first))) (cond b (Some e) None)) []
        go true true = rules (not (is_first alt first))
        go true false = refl
        go false b = refl

    judged_alike : unit_judged (variant_of s q.classes) (unit.Method c m alt) ≡ unit_judged (variant_of s r.classes) (unit.Method c m alt)
    judged_alike =
        method_unit s q.classes project.classes_distinct c m alt found.0 d found.1 (kept_declared q project c found.0 found.1).rise found.2
        ∙ ap₂ (λ (around : Sides) gs. shown_method (variant_of s q.classes) s c alt around (first_present s around gs) d) colors_same signatures_same
        ∙ shown_same twin.0.colors (first_present s twin.0.colors (signatures_of m twin.0))
        ∙ sym (method_unit s r.classes other.classes_distinct c m alt twin.0 d twin.1 (kept_declared r other c twin.0 twin.1).rise twin.2)
      where
        twin : (k : Class) × (declared r.classes c ≡ Some k) × (find (is_declaration m alt) k.methods ≡ Some d)
        twin = class_of_method r.classes c m alt d method_there

        head_same : Some (head_of found.0) ≡ Some (head_of twin.0)
        head_same = sym (ap (option_map head_of) found.1) ∙ heads c (start c (0, refl)) ∙ ap (option_map head_of) twin.1

        colors_same : found.0.colors ≡ twin.0.colors
        colors_same = let h : head_of found.0 ≡ head_of twin.0 = cc head_same in ap (λ (w : Head). w.colors) h

        signatures_same : signatures_of m found.0 ≡ signatures_of m twin.0
        signatures_same =
            sym (ap (signatures_in m) found.1)
            ∙ subst (λ n. signatures_at q.classes c n ≡ signatures_at r.classes c n) named (signatures c d.name (start c (0, refl)) (0, refl))
            ∙ ap (signatures_in m) twin.1

  pub method_law : IsSameFor q r (unit.Method c m alt)
  method_law = record {
    model = let e = same_at key.Model tt in cc e;
    there = there;
    back = back;
    pairs = method_pairs_known q.classes c m alt ∙ ap (of_some (method_pairs (class_called c))) (here ∙ sym method_there) ∙ sym (method_pairs_known r.classes c m alt);
    judged = λ s. ap (λ t. unit_judged t (unit.Method c m alt)) (variant_is s q) ∙ judged_alike s ∙ sym (ap (λ t. unit_judged t (unit.Method c m alt)) (variant_is s r));
  }
