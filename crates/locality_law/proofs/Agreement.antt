-- Where the facts at classes and methods are the same, look-ups in the variants agree there.
use Rattle.std.proofs.Common.{◌≡◌, ℕ, Bool, true, false, ◌||◌, cond, List, [], ◌∷◌, map, Option, None, Some, is_some, option_map, refl, sym, ◌∙◌, ap, ap₂, subst}
use Rattle.std.specs.List.{filter}
use Rattle.std.specs.Str.{bytes_eq}
use Rattle.cfj_logic.specs.Selections.{Chosen}
use Rattle.cfj_model.specs.LookUps.{Table, chain, declared, field_called, field_of, first_some, is_known, method_called, method_of}
use Rattle.cfj_model.specs.ProductLines.{object}
use Rattle.cfj_model.specs.Projection.{bare_field, is_present, presence_of, projected_method}
use Rattle.cfj_model.specs.declared.class.Class.{Class}
use Rattle.cfj_model.specs.declared.class.Field.{Field}
use Rattle.cfj_model.specs.declared.class.Method.{Method}
use Rattle.cfj_words.specs.Lists.{Has}
use Rattle.class_table.proofs.Members.{filter_has, find_has, has_filter, has_map}
use Rattle.unit_facts.specs.Facts.{Head, Signature, Taken, head_at, head_of, signature_of, signatures_at, signatures_in}
use Rattle.unit_facts.specs.Reach.{signature_types, types_of_fields}
use Rattle.locality_law.proofs.Bodies.{Agree, If}
use Rattle.locality_law.proofs.Items.{Each, has_flat, map_has}
use Rattle.locality_law.proofs.SeenChains.{AreAlike, ClassSeen, HeadSeen, below_same, chain_all, chain_same, class_seen, field_same, fields_same, head_seen, method_same, overridden_same}
use Rattle.locality_law.proofs.SeenVariants.{AreNamedApart, class_in_variant, classes_known, head_in_variant, heads_known, shown_of, variant_of}

-- the same heads at these classes
abbrev pub HaveHeads : (List ℕ → Type 0) → Table → Table → Type 0
HaveHeads N p q = (n : List ℕ) → N n → head_at p n ≡ head_at q n

-- the same signatures of these methods in them
abbrev pub HaveSignatures : (List ℕ → Type 0) → (List ℕ → Type 0) → Table → Table → Type 0
HaveSignatures N K p q = (n m : List ℕ) → N n → K m → signatures_at p n m ≡ signatures_at q n m

-- the superclasses of these classes are among them
abbrev pub IsUpward : (List ℕ → Type 0) → Table → Type 0
IsUpward N p = (n : List ℕ) (h : Head) → N n → head_at p n ≡ Some h → N h.parent

-- what these classes' fields and these methods are of is among them too
pub record IsReached (N K : List ℕ → Type 0) (p : Table) : Type 0 where
  pub up : IsUpward N p
  pub field : (n t : List ℕ) (h : Head) → N n → head_at p n ≡ Some h → Has (types_of_fields h.fields) t → N t
  pub method : (n t m : List ℕ) → N n → K m → Has (signature_types (signatures_at p n m)) t → N t

-- ---- by heads

some_map : {A B : Type 0} (f : A → B) (o : Option A) → is_some o ≡ is_some (option_map f o)
some_map f None = refl
some_map f (Some x) = refl

-- a head tells whether its class is known in the variant
pub known_by_head : (s : Chosen) (p q : Table) → AreNamedApart p → AreNamedApart q → (n : List ℕ) → (bytes_eq n object ≡ false → head_at p n ≡ head_at q n)
    → is_known (variant_of s p) n ≡ is_known (variant_of s q) n
known_by_head s p q apart alone n same = go (bytes_eq n object) refl
  where
    seen : (t : Table) → AreNamedApart t → is_some (declared (variant_of s t) n) ≡ is_some (head_in_variant s n (head_at t n))
    seen t named = some_map head_seen (declared (variant_of s t) n) ∙ ap is_some (heads_known s t named n)

    go : (b : Bool) → bytes_eq n object ≡ b → (b || is_some (declared (variant_of s p) n)) ≡ (b || is_some (declared (variant_of s q) n))
    go true e = refl
    go false e = seen p apart ∙ ap (λ o. is_some (head_in_variant s n o)) (same e) ∙ sym (seen q alone)

module _ (N : List ℕ → Type 0) (s : Chosen) (p q : Table) (apart : AreNamedApart p) (alone : AreNamedApart q) (heads : HaveHeads N p q) where
  pub heads_alike_there : AreAlike head_seen (λ (v : HeadSeen). v.parent) (λ k. refl) N (variant_of s p) (variant_of s q)
  heads_alike_there n at = heads_known s p apart n ∙ ap (head_in_variant s n) (heads n at) ∙ sym (heads_known s q alone n)

  module _ (up : IsUpward N p) where
    pub closed_there : (n : List ℕ) (v : Class) → N n → declared (variant_of s p) n ≡ Some v → N v.parent
    closed_there n v at e =
        let r = shown_of s p apart n v e in
        subst (λ (w : Class). N w.parent) r.3 (up n (head_of r.0) at (ap (option_map head_of) r.1))

    -- chains in the variants are seen alike
    pub same_heads : (n : List ℕ) → N n → map head_seen (chain (variant_of s p) n) ≡ map head_seen (chain (variant_of s q) n)
    same_heads n at = chain_same head_seen (λ (v : HeadSeen). v.parent) (λ k. refl) N (variant_of s p) (variant_of s q) heads_alike_there closed_there n at

    module _ (K : List ℕ → Type 0) (signatures : HaveSignatures N K p q) where
      pub same_classes : (n m : List ℕ) → N n → K m → map (class_seen m) (chain (variant_of s p) n) ≡ map (class_seen m) (chain (variant_of s q) n)
      same_classes n m at asked = chain_same (class_seen m) (λ (v : ClassSeen). v.head.parent) (λ k. refl) N (variant_of s p) (variant_of s q) alike closed_there n at
        where
          alike : (l : List ℕ) → N l → option_map (class_seen m) (declared (variant_of s p) l) ≡ option_map (class_seen m) (declared (variant_of s q) l)
          alike l here =
              classes_known s p apart l m ∙ ap₂ (λ h gs. class_in_variant s l h gs) (heads l here) (signatures l m here asked) ∙ sym (classes_known s q alone l m)

-- ---- what is found is reached

first_field : (N : List ℕ → Type 0) (f : List ℕ) (ks : List Class) → Each (λ (k : Class). (d : Field) → Has k.fields d → N d.of) ks → If (λ (d : Field). N d.of) (first_some (field_called f) ks)
first_field N f [] each = tt
first_field N f (k ∷ ks) each = go (first_field N f ks each.1) (field_called f k) refl
  where
    go : If (λ (d : Field). N d.of) (first_some (field_called f) ks) → (o : Option Field) → field_called f k ≡ o → If (λ (d : Field). N d.of) (cond (is_some o) o (first_some (field_called f) ks))
    go ih None e = ih
    go ih (Some d) e = each.0 d (find_has (λ d. bytes_eq d.name f) k.fields d e).0

first_method : (N : List ℕ → Type 0) (m : List ℕ) (ks : List Class) → Each (λ (k : Class). (d : Method) → Has k.methods d → bytes_eq d.name m ≡ true → N d.result) ks
    → If (λ (d : Method). N d.result) (first_some (method_called m) ks)
first_method N m [] each = tt
first_method N m (k ∷ ks) each = go (first_method N m ks each.1) (method_called m k) refl
  where
    go : If (λ (d : Method). N d.result) (first_some (method_called m) ks) → (o : Option Method) → method_called m k ≡ o → If (λ (d : Method). N d.result) (cond (is_some o) o (first_some (method_called m) ks))
    go ih None e = ih
    go ih (Some d) e = let r = find_has (λ d. bytes_eq d.name m) k.methods d e in each.0 d r.0 r.1

module _ (N K : List ℕ → Type 0) (s : Chosen) (p : Table) (apart : AreNamedApart p) (reached : IsReached N K p) where
  fields_reached : (n : List ℕ) (v : Class) → N n → declared (variant_of s p) n ≡ Some v → (d : Field) → Has v.fields d → N d.of
  fields_reached n v at e d h =
      let r = shown_of s p apart n v e in
      let here = subst (λ (w : Class). Has w.fields d) (sym r.3) h in
      let from = map_has bare_field (filter (λ (f : Field). is_present s (presence_of r.0.colors f.colors)) r.0.fields) d here in
      let inside = (filter_has (λ (f : Field). is_present s (presence_of r.0.colors f.colors)) r.0.fields from.0 from.1).0 in
      subst (λ (w : Field). N w.of) from.2 (reached.field n from.0.of (head_of r.0) at (ap (option_map head_of) r.1) (has_map (λ (f : Field). f.of) r.0.fields from.0 inside))

  results_reached : (n m : List ℕ) (v : Class) → N n → K m → declared (variant_of s p) n ≡ Some v → (d : Method) → Has v.methods d → bytes_eq d.name m ≡ true → N d.result
  results_reached n m v at asked e d h named =
      let r = shown_of s p apart n v e in
      let keeps : Method → Bool = λ d. is_present s (presence_of r.0.colors d.colors) in
      let here = subst (λ (w : Class). Has w.methods d) (sym r.3) h in
      let from = map_has (projected_method s r.0.colors) (filter keeps r.0.methods) d here in
      let inside = (filter_has keeps r.0.methods from.0 from.1).0 in
      let is_named : bytes_eq from.0.name m ≡ true = subst (λ (w : Method). bytes_eq w.name m ≡ true) (sym from.2) named in
      let among = has_map signature_of (filter (λ (d : Method). bytes_eq d.name m) r.0.methods) from.0 (has_filter (λ (d : Method). bytes_eq d.name m) r.0.methods from.0 inside is_named) in
      let types : Signature → List (List ℕ) = λ g. g.result ∷ map (λ (t : Taken). t.of) g.params in
      subst (λ (w : Method). N w.result) from.2
      (reached.method n from.0.result m at asked
      (subst (λ o. Has (signature_types (signatures_in m o)) from.0.result) (sym r.1)
      (has_flat types (map signature_of (filter (λ (d : Method). bytes_eq d.name m) r.0.methods)) (signature_of from.0) from.0.result among (0, refl))))

  up_there : (n : List ℕ) (v : Class) → N n → declared (variant_of s p) n ≡ Some v → N v.parent
  up_there n v at e =
      let r = shown_of s p apart n v e in
      subst (λ (w : Class). N w.parent) r.3 (reached.up n (head_of r.0) at (ap (option_map head_of) r.1))

  pub field_reached : (n f : List ℕ) → N n → If (λ (d : Field). N d.of) (field_of (variant_of s p) n f)
  field_reached n f at =
      first_field N f (chain (variant_of s p) n) (chain_all N (λ (k : Class). (d : Field) → Has k.fields d → N d.of) (variant_of s p) up_there fields_reached n at)

  pub method_reached : (n m : List ℕ) → N n → K m → If (λ (d : Method). N d.result) (method_of (variant_of s p) n m)
  method_reached n m at asked =
      first_method N m (chain (variant_of s p) n)
      (chain_all N (λ (k : Class). (d : Method) → Has k.methods d → bytes_eq d.name m ≡ true → N d.result) (variant_of s p) up_there
      (λ l k here e. results_reached l m k here asked e) n at)

-- ---- all look-ups

pub agree_there : (N K : List ℕ → Type 0) (s : Chosen) (p q : Table) → AreNamedApart p → AreNamedApart q → IsReached N K p → HaveHeads N p q → HaveSignatures N K p q
    → Agree N K (variant_of s p) (variant_of s q)
agree_there N K s p q apart alone reached heads signatures = record {
  known = λ n at. known_by_head s p q apart alone n (λ other. heads n at);
  below = λ n d at. below_same (variant_of s p) (variant_of s q) n (same_heads N s p q apart alone heads reached.up n at) d;
  field = λ n f at. field_same (variant_of s p) (variant_of s q) n (same_heads N s p q apart alone heads reached.up n at) f;
  fields = λ n at. fields_same (variant_of s p) (variant_of s q) n (same_heads N s p q apart alone heads reached.up n at);
  method = λ n m at asked. method_same (variant_of s p) (variant_of s q) n m (same_classes N s p q apart alone heads reached.up K signatures n m at asked);
  overridden = λ n m at asked. overridden_same (variant_of s p) (variant_of s q) n m (same_classes N s p q apart alone heads reached.up K signatures n m at asked);
  field_in = field_reached N K s p apart reached;
  result_in = method_reached N K s p apart reached;
}
