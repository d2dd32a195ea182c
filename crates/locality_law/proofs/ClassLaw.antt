-- A class's unit is the same in two projects that have the same facts at its reach.
use Rattle.std.proofs.Common.{◌≡◌, ◌⊎◌, inl, inr, ℕ, Bool, true, false, cond, List, [], ◌∷◌, ◌++◌, map, None, Some, option_map, refl, sym, ◌∙◌, ap, subst}
use Rattle.std.specs.List.{filter}
use Rattle.std.specs.Str.{bytes_eq}
use Rattle.cfj_logic.specs.Selections.{Chosen}
use Rattle.cfj_model.specs.LookUps.{chain, declared, is_known}
use Rattle.cfj_model.specs.ProductLines.{IsProject, ProductLine, object}
use Rattle.cfj_model.specs.Projection.{bare_field, bare_param, is_present, presence_of, projected_class}
use Rattle.cfj_model.specs.Typing.{param_types}
use Rattle.cfj_model.specs.declared.class.Class.{Class}
use Rattle.cfj_model.specs.declared.class.Field.{Field}
use Rattle.cfj_model.specs.declared.class.Param.{Param}
use Rattle.cfj_words.specs.Lists.{Has}
use Rattle.class_table.proofs.Without.{declared_name}
use Rattle.class_table.proofs.Members.{filter_has, has_cases, has_either, has_left, has_map, has_right, mapped, name_is}
use Rattle.unit_facts.specs.Facts.{class_is, fact, head_at, head_of, own_at, own_of}
use Rattle.unit_facts.specs.Judgements.{IsSameFor, SameFacts}
use Rattle.unit_facts.specs.Reach.{ClassReaches, InClassReach, InReach, IsAbove, types_of_fields}
use Rattle.unit_facts.specs.Units.{judged_own, of_some, unit_judged}
use Rattle.unit_facts.specs.declared.unit.Key.{Key}
use Rattle.unit_facts.specs.declared.unit.Key.TheVariants as key
use Rattle.unit_facts.specs.declared.unit.Unit.TheVariants as unit
use Rattle.locality_law.proofs.Agreement.{known_by_head, same_heads}
use Rattle.locality_law.proofs.ClassUnits.{class_unit, own_same, shown_own}
use Rattle.locality_law.proofs.Items.{map_has}
use Rattle.locality_law.proofs.SeenChains.{head_seen}
use Rattle.locality_law.proofs.SeenVariants.{variant_is, variant_of}
use Rattle.locality_law.proofs.Told.{above_back, above_there, head_told, no_object, some_told}
use Rattle.locality_law.proofs.UnitPairs.{class_pairs_known, own_pairs}

-- what is kept of items is made of them
kept_of : {A : Type 0} (made : A → A) (keeps : A → Bool) (of : A → List ℕ) → ((x : A) → of (made x) ≡ of x) → (xs : List A) (n : List ℕ) → Has (map of (map made (filter keeps xs))) n → Has (map of xs) n
kept_of made keeps of same xs n h =
    let a = map_has of (map made (filter keeps xs)) n h in
    let b = map_has made (filter keeps xs) a.0 a.1 in
    let inside = (filter_has keeps xs b.0 b.1).0 in
    subst (Has (map of xs)) (sym (same b.0) ∙ ap of b.2 ∙ a.2) (has_map of xs b.0 inside)

module _ (q r : ProductLine) (project : IsProject q) (other : IsProject r) (c : List ℕ) (own : Class) (here : own_at q.classes c ≡ Some own) (same : SameFacts q r (unit.Class c)) where
  abbrev N : List ℕ → Type 0
  N = IsAbove q.classes c

  same_at : (k : Key) → InClassReach q.classes c own k → fact q k ≡ fact r k
  same_at k h = same k (own, here, h)

  own_there : own_at r.classes c ≡ Some own
  own_there = sym (some_told class_is (λ x y s. cc s) (λ x s. let none : ⊥ = cc s in none) (own_at q.classes c) (own_at r.classes c) (same_at (key.Own (unit.Class c)) refl)) ∙ here

  heads : (n : List ℕ) → N n → head_at q.classes n ≡ head_at r.classes n
  heads n at = go (bytes_eq n object) refl
    where
      none : (t : ProductLine) → IsProject t → bytes_eq n object ≡ true → head_at t.classes n ≡ None
      none t kept e = ap (head_at t.classes) (name_is n object e) ∙ ap (option_map head_of) (no_object t kept)

      go : (b : Bool) → bytes_eq n object ≡ b → head_at q.classes n ≡ head_at r.classes n
      go true e = none q project e ∙ sym (none r other e)
      go false e = head_told (head_at q.classes n) (head_at r.classes n) (same_at (key.Head n) (inl at, e))

  -- ---- the reach

  reaches_other : (n : List ℕ) → ClassReaches q.classes c own n → ClassReaches r.classes c own n
  reaches_other n (inl at) = inl (above_there q.classes r.classes c heads n at)
  reaches_other n (inr h) = inr h

  reaches_back : (n : List ℕ) → ClassReaches r.classes c own n → ClassReaches q.classes c own n
  reaches_back n (inl at) = inl (above_back q.classes r.classes c heads n at)
  reaches_back n (inr h) = inr h

  to_other : (k : Key) → InClassReach q.classes c own k → InClassReach r.classes c own k
  to_other key.Model h = h
  to_other (key.Head n) h = (reaches_other n h.0, h.1)
  to_other (key.Sig n k) h = h
  to_other (key.Own u) h = h

  from_other : (k : Key) → InClassReach r.classes c own k → InClassReach q.classes c own k
  from_other key.Model h = h
  from_other (key.Head n) h = (reaches_back n h.0, h.1)
  from_other (key.Sig n k) h = h
  from_other (key.Own u) h = h

  there : (k : Key) → InReach q (unit.Class c) k → InReach r (unit.Class c) k
  there k (e, is, h) =
      let one : Some e ≡ Some own = sym is ∙ here in
      let s : e ≡ own = cc one in
      (own, own_there, to_other k (subst (λ (w : Class). InClassReach q.classes c w k) s h))

  back : (k : Key) → InReach r (unit.Class c) k → InReach q (unit.Class c) k
  back k (e, is, h) =
      let one : Some e ≡ Some own = sym is ∙ own_there in
      let s : e ≡ own = cc one in
      (own, here, from_other k (subst (λ (w : Class). InClassReach r.classes c w k) s h))

  -- ---- what is judged

  from : (k : Class) × (declared q.classes c ≡ Some k) × (own_of k ≡ own)
  from = mapped own_of (declared q.classes c) own here

  named : own.name ≡ c
  named = ap (λ (w : Class). w.name) (sym from.2) ∙ declared_name q.classes c from.0 from.1

  own_in : N own.name
  own_in = subst (IsAbove q.classes c) (sym named) IsAbove.itself

  parent_in : N own.parent
  parent_in = subst (λ (w : Class). N w.parent) from.2 (IsAbove.further c (head_of from.0) IsAbove.itself (ap (option_map head_of) from.1))

  module _ (s : Chosen) where
    chains : (n : List ℕ) → N n → map head_seen (chain (variant_of s q.classes) n) ≡ map head_seen (chain (variant_of s r.classes) n)
    chains n at = same_heads N s q.classes r.classes project.classes_distinct other.classes_distinct heads (λ n h at e. IsAbove.further n h at e) n at

    known : (n : List ℕ) → ClassReaches q.classes c own n → is_known (variant_of s q.classes) n ≡ is_known (variant_of s r.classes) n
    known n at =
        known_by_head s q.classes r.classes project.classes_distinct other.classes_distinct n (λ e. head_told (head_at q.classes n) (head_at r.classes n) (same_at (key.Head n) (at, e)))

    known_here : (n : List ℕ) → Has (own.parent ∷ (types_of_fields (projected_class s own).fields ++ param_types (projected_class s own).ctor.params)) n
        → is_known (variant_of s q.classes) n ≡ is_known (variant_of s r.classes) n
    known_here n h = go (has_cases own.parent (types_of_fields (projected_class s own).fields ++ param_types (projected_class s own).ctor.params) n h)
      where
        in_fields : Has (types_of_fields (projected_class s own).fields) n → Has (types_of_fields own.fields) n
        in_fields = kept_of bare_field (λ f. is_present s (presence_of own.colors f.colors)) (λ (f : Field). f.of) (λ f. refl) own.fields n

        in_params : Has (param_types (projected_class s own).ctor.params) n → Has (param_types own.ctor.params) n
        in_params = kept_of bare_param (λ p. is_present s (presence_of own.colors p.colors)) (λ (p : Param). p.of) (λ p. refl) own.ctor.params n

        either : Has (types_of_fields (projected_class s own).fields) n ⊎ Has (param_types (projected_class s own).ctor.params) n → Has (types_of_fields own.fields ++ param_types own.ctor.params) n
        either (inl a) = has_left (types_of_fields own.fields) (param_types own.ctor.params) n (in_fields a)
        either (inr a) = has_right (types_of_fields own.fields) (param_types own.ctor.params) n (in_params a)

        go : (own.parent ≡ n) ⊎ Has (types_of_fields (projected_class s own).fields ++ param_types (projected_class s own).ctor.params) n
            → is_known (variant_of s q.classes) n ≡ is_known (variant_of s r.classes) n
        go (inl e) = known n (inl (subst N e parent_in))
        go (inr a) = known n (inr (either (has_either (types_of_fields (projected_class s own).fields) (param_types (projected_class s own).ctor.params) n a)))

    shown_same : shown_own (variant_of s q.classes) s (Some own) ≡ shown_own (variant_of s r.classes) s (Some own)
    shown_same = go (is_present s own.colors)
      where
        go : (b : Bool) → cond b (judged_own (variant_of s q.classes) (projected_class s own)) [] ≡ cond b (judged_own (variant_of s r.classes) (projected_class s own)) []
        go true = own_same (variant_of s q.classes) (variant_of s r.classes) (projected_class s own) (chains own.name own_in) (chains own.parent parent_in) known_here
        go false = refl

    judged_alike : unit_judged (variant_of s q.classes) (unit.Class c) ≡ unit_judged (variant_of s r.classes) (unit.Class c)
    judged_alike =
        class_unit s q.classes project.classes_distinct c
        ∙ ap (shown_own (variant_of s q.classes) s) here
        ∙ shown_same
        ∙ sym (ap (shown_own (variant_of s r.classes) s) own_there)
        ∙ sym (class_unit s r.classes other.classes_distinct c)

  pub class_law : IsSameFor q r (unit.Class c)
  class_law = record {
    model = let e = same_at key.Model tt in cc e;
    there = there;
    back = back;
    pairs = class_pairs_known q.classes c ∙ ap (of_some own_pairs) (here ∙ sym own_there) ∙ sym (class_pairs_known r.classes c);
    judged = λ s. ap (λ t. unit_judged t (unit.Class c)) (variant_is s q) ∙ judged_alike s ∙ sym (ap (λ t. unit_judged t (unit.Class c)) (variant_is s r));
  }
