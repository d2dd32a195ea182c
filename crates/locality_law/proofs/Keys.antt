-- The reach as a list: names that are closed under what they lead to, and the keys that they make.
use Rattle.std.proofs.Common.{◌≡◌, ◌⊎◌, ◌↔◌, inl, inr, ℕ, List, [], ◌∷◌, ◌++◌, map, Option, None, Some, refl, sym, ◌∙◌, ap, ap₂, subst}
use Rattle.std.specs.List.{flat_map}
use Rattle.std.specs.Prelude.{⊤}
use Rattle.cfj_model.specs.LookUps.{Table}
use Rattle.cfj_model.specs.ProductLines.{ProductLine}
use Rattle.cfj_model.specs.declared.class.Class.{Class}
use Rattle.cfj_model.specs.declared.class.Method.{Method}
use Rattle.cfj_words.specs.Lists.{Has}
use Rattle.class_table.proofs.Members.{has_cases, has_either, has_left, has_map, has_none, has_rest, has_right}
use Rattle.unit_facts.specs.Facts.{Head, head_at, method_at, own_at, signatures_at}
use Rattle.unit_facts.specs.Reach.{ClassReaches, InClassReach, InMethodReach, InReach, IsNotObject, MethodReaches, Reaches, keys_of, methods_asked, signature_types, types_of_fields}
use Rattle.unit_facts.specs.declared.unit.Key.{Key}
use Rattle.unit_facts.specs.declared.unit.Key.TheVariants as key
use Rattle.unit_facts.specs.declared.unit.Unit.{Unit}
use Rattle.unit_facts.specs.declared.unit.Unit.TheVariants as unit
use Rattle.locality_law.proofs.Items.{flat_has, has_flat, map_has}

-- ---- names

-- what a head leads to
abbrev pub led_by : Option Head → List (List ℕ)
led_by None = []
led_by (Some h) = h.parent ∷ types_of_fields h.fields

-- what a class leads to
abbrev pub leads_to : Table → List (List ℕ) → List ℕ → List (List ℕ)
leads_to p asked n = led_by (head_at p n) ++ flat_map (λ m. signature_types (signatures_at p n m)) asked

-- names with all starts, closed under what they lead to, have all that is reached
pub all_reached : (p : Table) (starts asked names : List (List ℕ)) → ((n : List ℕ) → Has starts n → Has names n) → ((n t : List ℕ) → Has names n → Has (leads_to p asked n) t → Has names t)
    → (n : List ℕ) → Reaches p starts asked n → Has names n
all_reached p starts asked names begun closed _ (Reaches.start n h) = begun n h
all_reached p starts asked names begun closed _ (Reaches.superclass n h r e) =
    closed n h.parent (all_reached p starts asked names begun closed n r)
    (has_left (led_by (head_at p n)) (flat_map (λ m. signature_types (signatures_at p n m)) asked) h.parent (subst (λ o. Has (led_by o) h.parent) (sym e) (0, refl)))
all_reached p starts asked names begun closed _ (Reaches.field_type n t h r e has) =
    closed n t (all_reached p starts asked names begun closed n r)
    (has_left (led_by (head_at p n)) (flat_map (λ m. signature_types (signatures_at p n m)) asked) t (subst (λ o. Has (led_by o) t) (sym e) (has_rest h.parent (types_of_fields h.fields) t has)))
all_reached p starts asked names begun closed _ (Reaches.method_type n t m r here has) =
    closed n t (all_reached p starts asked names begun closed n r)
    (has_right (led_by (head_at p n)) (flat_map (λ m. signature_types (signatures_at p n m)) asked) t (has_flat (λ m. signature_types (signatures_at p n m)) asked m t here has))

-- ---- keys

module _ (u : Unit) (names methods : List (List ℕ)) where
  abbrev heads : List Key
  heads = map key.Head names

  abbrev signatures : List Key
  signatures = flat_map (λ n. map (key.Sig n) methods) names

  -- what a key of the list is
  abbrev IsListed : Key → Type 0
  IsListed key.Model = ⊤
  IsListed (key.Head n) = Has names n
  IsListed (key.Sig n m) = Has names n × Has methods m
  IsListed (key.Own w) = w ≡ u

  pub listed : (k : Key) → Has (keys_of u names methods) k → IsListed k
  listed k h = go (has_cases key.Model (heads ++ (signatures ++ key.Own u ∷ [])) k h)
    where
      in_last : (key.Own u ≡ k) ⊎ Has [] k → IsListed k
      in_last (inl s) = subst IsListed s refl
      in_last (inr none) = absurd (has_none k none)

      in_signatures : Has signatures k → IsListed k
      in_signatures there =
          let a = flat_has (λ n. map (key.Sig n) methods) names k there in
          let b = map_has (key.Sig a.0) methods k a.2 in
          subst IsListed b.2 (a.1, b.1)

      behind : Has signatures k ⊎ Has (key.Own u ∷ []) k → IsListed k
      behind (inl there) = in_signatures there
      behind (inr there) = in_last (has_cases (key.Own u) [] k there)

      rest : Has heads k ⊎ Has (signatures ++ key.Own u ∷ []) k → IsListed k
      rest (inl there) = let a = map_has key.Head names k there in subst IsListed a.2 a.1
      rest (inr there) = behind (has_either signatures (key.Own u ∷ []) k there)

      go : (key.Model ≡ k) ⊎ Has (heads ++ (signatures ++ key.Own u ∷ [])) k → IsListed k
      go (inl s) = subst IsListed s tt
      go (inr there) = rest (has_either heads (signatures ++ key.Own u ∷ []) k there)

  pub is_listed : (k : Key) → IsListed k → Has (keys_of u names methods) k
  is_listed key.Model h = (0, refl)
  is_listed (key.Head n) h =
      has_rest key.Model (heads ++ (signatures ++ key.Own u ∷ [])) (key.Head n) (has_left heads (signatures ++ key.Own u ∷ []) (key.Head n) (has_map key.Head names n h))
  is_listed (key.Sig n m) h =
      has_rest key.Model (heads ++ (signatures ++ key.Own u ∷ [])) (key.Sig n m)
      (has_right heads (signatures ++ key.Own u ∷ []) (key.Sig n m)
      (has_left signatures (key.Own u ∷ []) (key.Sig n m) (has_flat (λ n. map (key.Sig n) methods) names n (key.Sig n m) h.0 (has_map (key.Sig n) methods m h.1))))
  is_listed (key.Own w) h =
      has_rest key.Model (heads ++ (signatures ++ key.Own u ∷ [])) (key.Own w)
      (has_right heads (signatures ++ key.Own u ∷ []) (key.Own w) (has_right signatures (key.Own u ∷ []) (key.Own w) (0, ap (λ x. Some (key.Own x)) (sym h))))

-- names that are those that a method reaches, and methods that are those that it is judged by, make its reach
pub method_keys : (q : ProductLine) (c m : List ℕ) (alt : ℕ) (d : Method) → method_at q.classes c m alt ≡ Some d → d.name ≡ m → d.alt ≡ alt → (names methods : List (List ℕ))
    → ((n : List ℕ) → Has names n ↔ (MethodReaches q.classes c d n × IsNotObject n)) → ((k : List ℕ) → Has methods k ↔ Has (methods_asked d) k)
    → (k : Key) → Has (keys_of (unit.Method c m alt) names methods) k ↔ InReach q (unit.Method c m alt) k
method_keys q c m alt d here named numbered names methods reached asked k = (λ h. (d, here, there k (listed u names methods k h)), λ h. is_listed u names methods k (back k h))
  where
    u : Unit
    u = unit.Method c m alt

    same : unit.Method c m alt ≡ unit.Method c d.name d.alt
    same = sym (ap₂ (λ n a. unit.Method c n a) named numbered)

    there : (k : Key) → IsListed u names methods k → InMethodReach q.classes c d k
    there key.Model h = tt
    there (key.Head n) h = (reached n).0 h
    there (key.Sig n l) h = let r = (reached n).0 h.0 in (r.0, (asked l).0 h.1, r.1)
    there (key.Own w) h = h ∙ same

    from : (k : Key) → InMethodReach q.classes c d k → IsListed u names methods k
    from key.Model h = tt
    from (key.Head n) h = (reached n).1 h
    from (key.Sig n l) h = ((reached n).1 (h.0, h.2), (asked l).1 h.1)
    from (key.Own w) h = h ∙ sym same

    back : (k : Key) → InReach q u k → IsListed u names methods k
    back k (e, is, h) =
        let one : Some e ≡ Some d = sym is ∙ here in
        let s : e ≡ d = cc one in
        from k (subst (λ (w : Method). InMethodReach q.classes c w k) s h)

-- the same of a class
pub class_keys : (q : ProductLine) (c : List ℕ) (own : Class) → own_at q.classes c ≡ Some own → (names : List (List ℕ)) → ((n : List ℕ) → Has names n ↔ (ClassReaches q.classes c own n × IsNotObject n))
    → (k : Key) → Has (keys_of (unit.Class c) names []) k ↔ InReach q (unit.Class c) k
class_keys q c own here names reached k = (λ h. (own, here, there k (listed u names [] k h)), λ h. is_listed u names [] k (back k h))
  where
    u : Unit
    u = unit.Class c

    there : (k : Key) → IsListed u names [] k → InClassReach q.classes c own k
    there key.Model h = tt
    there (key.Head n) h = (reached n).0 h
    there (key.Sig n l) h = has_none l h.1
    there (key.Own w) h = h

    from : (k : Key) → InClassReach q.classes c own k → IsListed u names [] k
    from key.Model h = tt
    from (key.Head n) h = (reached n).1 h
    from (key.Sig n l) h = absurd h
    from (key.Own w) h = h

    back : (k : Key) → InReach q u k → IsListed u names [] k
    back k (e, is, h) =
        let one : Some e ≡ Some own = sym is ∙ here in
        let s : e ≡ own = cc one in
        from k (subst (λ (w : Class). InClassReach q.classes c w k) s h)
