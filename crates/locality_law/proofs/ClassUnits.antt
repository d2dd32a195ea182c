-- A class of a variant is judged by what is seen of the classes above it, and of those that it names.
use Rattle.std.proofs.Common.{◌≡◌, ℕ, Bool, true, false, not, cond, List, [], ◌∷◌, ◌++◌, map, Option, None, Some, option_map, refl, ◌∙◌, ap, ap₂}
use Rattle.std.specs.List.{flat_map}
use Rattle.std.specs.Option.{option_and_then}
use Rattle.cfj_logic.specs.Selections.{Chosen}
use Rattle.cfj_model.specs.Judging.{RuleAt, are_same, extends_itself, judged_at, judged_ctor, judged_field, takes_fields}
use Rattle.cfj_model.specs.LookUps.{Table, all_fields, chain, declared, is_known}
use Rattle.cfj_model.specs.Members.{Placed, field_name_of, is_again, placed, placed_behind}
use Rattle.cfj_model.specs.Projection.{is_present, projected_class}
use Rattle.cfj_model.specs.Typing.{param_types}
use Rattle.cfj_model.specs.declared.class.Class.{Class}
use Rattle.cfj_model.specs.declared.class.Field.{Field}
use Rattle.cfj_model.specs.declared.class.Param.{Param}
use Rattle.cfj_model.specs.declared.site.Rule.TheVariants.{K1, K2, K3, K4, K5, K6, K9}
use Rattle.cfj_model.specs.declared.site.Site.TheVariants as site
use Rattle.cfj_words.specs.Lists.{Has}
use Rattle.class_table.proofs.Members.{has_left, has_map, has_rest, has_right}
use Rattle.unit_facts.specs.Facts.{own_at, own_of}
use Rattle.unit_facts.specs.Reach.{types_of_fields}
use Rattle.unit_facts.specs.Units.{judged_own, of_some, unit_judged}
use Rattle.unit_facts.specs.declared.unit.Unit.TheVariants as unit
use Rattle.locality_law.proofs.Items.{Each, each_of, flat_each}
use Rattle.locality_law.proofs.SeenChains.{any_parent_same, fields_same, head_seen, inherited_same}
use Rattle.locality_law.proofs.SeenVariants.{AreNamedApart, declared_variant, shown, variant_of}

-- items with those before them are items
pub each_placed : {A : Type 0} (P : A → Type 0) (before xs : List A) → Each P xs → Each (λ (q : Placed A). P q.item) (placed_behind before xs)
each_placed P before [] e = tt
each_placed P before (x ∷ xs) e = (e.0, each_placed P (before ++ x ∷ []) xs e.1)

module _ (p q : Table) (k : Class) (own : map head_seen (chain p k.name) ≡ map head_seen (chain q k.name)) (above : map head_seen (chain p k.parent) ≡ map head_seen (chain q k.parent))
    (known : (n : List ℕ) → Has (k.parent ∷ (types_of_fields k.fields ++ param_types k.ctor.params)) n → is_known p n ≡ is_known q n) where
  class_rules : judged_at (site.Class k.name) ((K1, not (is_known p k.parent)) ∷ (K2, extends_itself p k) ∷ [])
      ≡ judged_at (site.Class k.name) ((K1, not (is_known q k.parent)) ∷ (K2, extends_itself q k) ∷ [])
  class_rules = ap₂ (λ a b. judged_at (site.Class k.name) ((K1, not a) ∷ (K2, b) ∷ [])) (known k.parent (0, refl)) (any_parent_same p q k.name own k.name)

  field_rules : (f : Placed Field) → is_known p f.item.of ≡ is_known q f.item.of → judged_field p k f ≡ judged_field q k f
  field_rules f e =
      ap₂ (λ a b. judged_at (site.Field k.name f.item.name f.item.alt) ((K1, not a) ∷ (K3, b) ∷ (K9, is_again field_name_of f) ∷ [])) e (inherited_same p q k.name own f.item.name)

  fields_rules : flat_map (judged_field p k) (placed k.fields) ≡ flat_map (judged_field q k) (placed k.fields)
  fields_rules = flat_each (judged_field p k) (judged_field q k) (placed k.fields) (over (placed k.fields) (each_placed KnownAlike [] k.fields (each_of KnownAlike k.fields of_fields)))
    where
      KnownAlike : Field → Type 0
      KnownAlike f = is_known p f.of ≡ is_known q f.of

      of_fields : (f : Field) → Has k.fields f → KnownAlike f
      of_fields f h =
          known f.of (has_rest k.parent (types_of_fields k.fields ++ param_types k.ctor.params) f.of
          (has_left (types_of_fields k.fields) (param_types k.ctor.params) f.of (has_map (λ (f : Field). f.of) k.fields f h)))

      over : (fs : List (Placed Field)) → Each (λ (f : Placed Field). KnownAlike f.item) fs → Each (λ f. judged_field p k f ≡ judged_field q k f) fs
      over [] e = tt
      over (f ∷ fs) e = (field_rules f e.0, over fs e.1)

  ctor_rules : judged_ctor p k ≡ judged_ctor q k
  ctor_rules =
      ap₂ (λ (fs gs : List Field). heads fs gs ++ params p) (fields_same p q k.name own) (fields_same p q k.parent above)
      ∙ ap (λ w. heads (all_fields q k.name) (all_fields q k.parent) ++ w)
      (flat_each (param p) (param q) k.ctor.params (each_of (λ (c : Param). param p c ≡ param q c) k.ctor.params
      (λ c h. ap (λ b. judged_at (site.CtorParam k.name c.slot) ((K1, not b) ∷ []))
      (known c.of (has_rest k.parent (types_of_fields k.fields ++ param_types k.ctor.params) c.of
      (has_right (types_of_fields k.fields) (param_types k.ctor.params) c.of (has_map (λ (c : Param). c.of) k.ctor.params c h)))))))
    where
      param : Table → Param → List RuleAt
      param t c = judged_at (site.CtorParam k.name c.slot) ((K1, not (is_known t c.of)) ∷ [])

      params : Table → List RuleAt
      params t = flat_map (param t) k.ctor.params

      heads : List Field → List Field → List RuleAt
      heads all inherited =
          judged_at (site.Ctor k.name)
          ((K4, not (takes_fields k.ctor.params all))
          ∷ (K5, not (are_same (map (λ s. s.name) k.ctor.sends) (map (λ f. f.name) inherited)))
          ∷ (K6, not (are_same (map (λ a. a.name) k.ctor.assigns) (map (λ f. f.name) k.fields))) ∷ [])

  pub own_same : judged_own p k ≡ judged_own q k
  own_same = ap₂ (λ a b. a ++ b) class_rules (ap₂ (λ a b. a ++ b) fields_rules ctor_rules)

-- ---- a class's unit in a variant

abbrev pub shown_own : Table → Chosen → Option Class → List RuleAt
shown_own t s None = []
shown_own t s (Some k) = cond (is_present s k.colors) (judged_own t (projected_class s k)) []

pub class_unit : (s : Chosen) (p : Table) → AreNamedApart p → (c : List ℕ) → unit_judged (variant_of s p) (unit.Class c) ≡ shown_own (variant_of s p) s (own_at p c)
class_unit s p apart c = ap (of_some (judged_own (variant_of s p))) (declared_variant s p apart c) ∙ go (declared p c)
  where
    here : (k : Class) (b : Bool) → of_some (judged_own (variant_of s p)) (cond b (Some (projected_class s k)) None) ≡ cond b (judged_own (variant_of s p) (projected_class s (own_of k))) []
    here k true = refl
    here k false = refl

    go : (o : Option Class) → of_some (judged_own (variant_of s p)) (option_and_then (shown s) o) ≡ shown_own (variant_of s p) s (option_map own_of o)
    go None = refl
    go (Some k) = here k (is_present s k.colors)
