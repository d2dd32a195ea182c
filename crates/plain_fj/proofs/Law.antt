-- A class table is well typed exactly where no rule breaks.
use Rattle.std.proofs.Common.{◌≡◌, ℕ, Bool, true, false, not, ◌&&◌, List, ◌++◌, length, map, nat_le, Option, None, Some, is_some, refl, sym, ◌∙◌, ap, subst}
use Rattle.std.specs.Prelude.{◌↔◌}
use Rattle.std.specs.List.{list_all}
use Rattle.std.specs.Str.{bytes_eq}
use Rattle.std.proofs.lemmas.Bool.{and_parts, and_from, not-true, not-false, false_from_ne_true}
use Rattle.cfj_words.specs.Names.{is_short_identifier}
use Rattle.cfj_model.specs.Coloring.{Palette, are_known, palette_of}
use Rattle.cfj_model.specs.Members.{field_alts_rise, method_alts_rise}
use Rattle.cfj_model.specs.ProductLines.{ProductLine, IsProject, object, most_fields, most_methods, are_distinct, is_field, are_fields as are_kept_fields, is_ctor, is_method as is_kept_method, are_methods, is_class}
use Rattle.cfj_words.specs.Lists.{Has}
use Rattle.cfj_model.specs.LookUps.{Table, is_called, is_known, is_subtype, declared, chain, all_fields, ancestors, field_called, first_some, method_called, method_of}
use Rattle.cfj_model.specs.Judging.{first_breaking, are_same, environment_of, extends_itself, is_no_result, is_overridden_wrongly, variable_type}
use Rattle.cfj_model.specs.Typing.{Extends, IsSubtype, HasFields, HasMethodType, IsMethodOk, IsClassOk, IsTableOk, IsWellTyped, param_types, param_pair, field_pair, class_uses}
use Rattle.cfj_model.specs.declared.class.Class.{Class}
use Rattle.cfj_model.specs.declared.class.Field.{Field}
use Rattle.cfj_model.specs.declared.class.Method.{Method}
use Rattle.cfj_model.specs.declared.class.Param.{Param}
use Rattle.class_table.proofs.Members.{not_true, name_is, is_name, differs_back, find_none, none_find, find_distinct, has_all, all_has, none_has, has_no, has_filter, filter_has}
use Rattle.class_table.proofs.Without.{declared_name, declared_has}
use Rattle.plain_fj.specs.Alternatives.{DoAltsRise}
use Rattle.plain_fj.proofs.Chains.{IsAcyclic, chain_has, above_in_chain, holds_subtype, subtype_holds, itself_found, itself_by_rules}
use Rattle.plain_fj.proofs.Inherited.{IsSound, known_class, fields_are, are_fields, own_fields, method_is, is_method, ancestors_are}
use Rattle.plain_fj.proofs.Typed.{HasKnownTypes, typed, derived}
use Rattle.plain_fj.proofs.Clear.{names_known}
use Rattle.plain_fj.proofs.Uses.{UsesKnown, uses_known, known_uses, same_is, is_same_as, pairs_same, types_same, names_same}
use Rattle.plain_fj.proofs.Kept.{IsKept, kept, keeps, IsKeptMethod, kept_method, keeps_method}
use Rattle.plain_fj.proofs.Quiet.{body_type, are_known_params, class_keeps, quiet_keeps, keeps_quiet}

-- what a project's type keeps of the names of its classes
pub record HasDistinctNames (p : Table) : Type 0 where
  pub classes : are_distinct (map (λ (k : Class). k.name) p) ≡ true
  pub no_object : (k : Class) → Has p k → bytes_eq k.name object ≡ false

module _ (palette : Palette) (k : Class) (h : is_class palette k ≡ true) where
  abbrev named : Bool
  named = is_short_identifier k.name && not (bytes_eq k.name object)

  abbrev above : Bool
  above = named && are_known palette k.colors && is_short_identifier k.parent

  members : ((above && are_kept_fields palette k.fields && is_ctor palette k.ctor) ≡ true) × (are_methods palette k.methods ≡ true)
  unfolding is_class
  members = and_parts (above && are_kept_fields palette k.fields && is_ctor palette k.ctor) (are_methods palette k.methods) h

  fields : (above ≡ true) × (are_kept_fields palette k.fields ≡ true)
  fields = and_parts above (are_kept_fields palette k.fields) (and_parts (above && are_kept_fields palette k.fields) (is_ctor palette k.ctor) members.0).0

  no_object_class : bytes_eq k.name object ≡ false
  no_object_class =
      let known : (named && are_known palette k.colors) ≡ true = (and_parts (named && are_known palette k.colors) (is_short_identifier k.parent) fields.0).0 in
      not-true (bytes_eq k.name object) (and_parts (is_short_identifier k.name) (not (bytes_eq k.name object)) (and_parts named (are_known palette k.colors) known).0).1

  rising_alts : DoAltsRise k
  rising_alts =
      record {
        fields = (and_parts (nat_le (length k.fields) most_fields) (field_alts_rise k.fields)
            (and_parts (nat_le (length k.fields) most_fields && field_alts_rise k.fields) (list_all (is_field palette) k.fields) fields.1).0).1;
        methods = (and_parts (nat_le (length k.methods) most_methods) (method_alts_rise k.methods)
            (and_parts (nat_le (length k.methods) most_methods && method_alts_rise k.methods) (list_all (is_kept_method palette) k.methods) members.1).0).1;
      }

each_class : (q : ProductLine) → IsProject q → (k : Class) → Has q.classes k → is_class (palette_of q.model) k ≡ true
each_class q project k h = all_has (is_class (palette_of q.model)) q.classes project.each_class k h

-- A project's names are distinct so.
pub names_kept : (q : ProductLine) → IsProject q → HasDistinctNames q.classes
names_kept q project = record { classes = project.classes_distinct; no_object = λ k h. no_object_class (palette_of q.model) k (each_class q project k h) }

-- The alts of a project's members rise.
pub alts_kept : (q : ProductLine) → IsProject q → (k : Class) → Has q.classes k → DoAltsRise k
alts_kept q project k h = rising_alts (palette_of q.model) k (each_class q project k h)

pub found_by_name : (p : Table) → HasDistinctNames p → (k : Class) → Has p k → declared p k.name ≡ Some k
found_by_name p names k h = find_distinct (λ (k : Class). k.name) p names.classes k h k.name refl

pub object_is_free : (p : Table) → HasDistinctNames p → declared p object ≡ None
object_is_free p names = none_find (is_called object) p names.no_object

-- ---- sound tables

-- a field is among an ancestor's exactly where the ancestor has one of its name
not_called : (f : List ℕ) (a : Class) → is_some (field_called f a) ≡ false → (g : Field) → Has a.fields g → bytes_eq g.name f ≡ false
not_called f a h g i = find_none (λ (d : Field). bytes_eq d.name f) a.fields (nothing (field_called f a) h) g i
  where
    nothing : (o : Option Field) → is_some o ≡ false → o ≡ None
    nothing None h = refl
    nothing (Some x) h = absurd (not_true h)

-- A table of which no rule breaks is sound.
sound_kept : (p : Table) → HasDistinctNames p → ((k : Class) → Has p k → IsKept p k) → IsSound p
sound_kept p names each =
    record {
      object_free = object_is_free p names;
      found = found_by_name p names;
      acyclic = acyclic;
      parents = λ k h. (each k h).parent;
      field_types = λ k h f i. ((each k h).fields f i).0;
      results = λ k h m i. (kept_method p k m ((each k h).methods m i)).result;
      fields_distinct = λ k h. (each k h).fields_alone;
      methods_distinct = λ k h. (each k h).methods_alone;
      apart = apart;
    }
  where
    acyclic : IsAcyclic p
    acyclic c d x s =
        let k : Class = x.0 in
        let n : k.name ≡ c = declared_name p c k x.1 in
        not_true (sym (itself_found p k d (subst (λ z. Extends p z d) (sym n) x) (subst (IsSubtype p d) (sym n) s)) ∙ (each k (declared_has p c k x.1)).itself)

    apart : (k a : Class) → Has p k → Has p a → IsSubtype p k.name a.name → bytes_eq k.name a.name ≡ false → (f g : Field) → Has k.fields f → Has a.fields g
        → bytes_eq f.name g.name ≡ false
    apart k a hk ha above other f g hf hg =
        let there : Has (chain p k.name) a = above_in_chain p k.name a.name a above (found_by_name p names a ha) in
        let ancestor : Has (ancestors p k.name) a = has_filter (λ c. not (is_called k.name c)) (chain p k.name) a there (ap not (differs_back k.name a.name other)) in
        let free = none_has (λ a. is_some (field_called f.name a)) (ancestors p k.name) ((each k hk).fields f hf).1 a ancestor in
        differs_back g.name f.name (not_called f.name a free g hg)

-- A table that is OK is sound.
sound_table : (p : Table) → HasDistinctNames p → IsTableOk p → IsSound p
sound_table p names ok =
    record {
      object_free = object_is_free p names;
      found = found_by_name p names;
      acyclic = ok.acyclic;
      parents = λ k h. (uses k h).parent;
      field_types = λ k h f i. all_has (λ (f : Field). is_known p f.of) k.fields (uses k h).fields f i;
      results = λ k h m i. (uses k h).results m i;
      fields_distinct = ok.fields_alone;
      methods_distinct = ok.methods_alone;
      apart = ok.apart;
    }
  where
    uses : (k : Class) → Has p k → UsesKnown p k
    uses k h = uses_known p k (has_all (is_known p) (class_uses k) (ok.known k h))

-- ---- classes

module _ (p : Table) (sound : IsSound p) (k : Class) (here : Has p k) where
  env : (m : Method) → are_known_params p m.params ≡ true → HasKnownTypes p (environment_of k m)
  env m known = record { class = known_class p k.name k (sound.found k here); params = all_has (λ (q : Param). is_known p q.of) m.params known }

  inherits : HasFields p k.parent (all_fields p k.parent)
  inherits = are_fields p sound k.parent (sound.parents k here)

  all : all_fields p k.name ≡ all_fields p k.parent ++ k.fields
  all = own_fields p sound.acyclic k (sound.found k here)

  nearest : (m : Method) → first_some (method_called m.name) (ancestors p k.name) ≡ method_of p k.parent m.name
  nearest m = ap (first_some (method_called m.name)) (ancestors_are p sound.acyclic k (sound.found k here))

  method_ok : (m : Method) → IsKeptMethod p k m → IsMethodOk p k m
  method_ok m i = go (body_type p k m) refl i.typed
    where
      below : (t : List ℕ) → body_type p k m ≡ Some t → IsSubtype p t m.result
      below t q = holds_subtype p t m.result (not-false (is_subtype p t m.result) (sym (ap (is_no_result p m) q) ∙ i.returns))

      overrides : (ts : List (List ℕ)) (r : List ℕ) → HasMethodType p m.name k.parent ts r → (ts ≡ param_types m.params) × (r ≡ m.result)
      overrides ts r h =
          let d = method_is p sound m.name k.parent ts r h in
          let same = not-false (are_same (param_types d.0.params) (param_types m.params) && bytes_eq d.0.result m.result)
          (sym (ap (is_overridden_wrongly m) (nearest m ∙ d.1)) ∙ i.overrides) in
          let parts = and_parts (are_same (param_types d.0.params) (param_types m.params)) (bytes_eq d.0.result m.result) same in
          (sym d.2 ∙ same_is (param_types d.0.params) (param_types m.params) parts.0, sym d.3 ∙ name_is d.0.result m.result parts.1)

      go : (o : Option (List ℕ)) → body_type p k m ≡ o → is_some o ≡ true → IsMethodOk p k m
      go None q h = absurd (not_true (sym h))
      go (Some t) q h = record { type = t; typed = (derived p (environment_of k m) sound (env m i.params) m.body t q).0; below = below t q; overrides = overrides }

  class_ok : IsKept p k → IsClassOk p k
  class_ok i =
      record {
        above = all_fields p k.parent;
        inherited = inherits;
        takes = pairs_same k.ctor.params (all_fields p k.name) (same_is (map (λ p. p.of) k.ctor.params) (map (λ f. f.of) (all_fields p k.name)) parts.0)
            (same_is (map (λ p. p.name) k.ctor.params) (map (λ f. f.name) (all_fields p k.name)) parts.1) ∙ ap (map field_pair) all;
        sends = same_is (map (λ s. s.name) k.ctor.sends) (map (λ f. f.name) (all_fields p k.parent)) i.sends;
        assigns = same_is (map (λ a. a.name) k.ctor.assigns) (map (λ f. f.name) k.fields) i.assigns;
        methods = λ m h. method_ok m (kept_method p k m (i.methods m h));
      }
    where
      parts : (are_same (map (λ p. p.of) k.ctor.params) (map (λ f. f.of) (all_fields p k.name)) ≡ true) × (are_same (map (λ p. p.name) k.ctor.params) (map (λ f. f.name) (all_fields p k.name)) ≡ true)
      parts = and_parts (are_same (map (λ p. p.of) k.ctor.params) (map (λ f. f.of) (all_fields p k.name))) (are_same (map (λ p. p.name) k.ctor.params) (map (λ f. f.name) (all_fields p k.name))) i.takes

  ok_method : UsesKnown p k → (m : Method) → Has k.methods m → IsMethodOk p k m → IsKeptMethod p k m
  ok_method uses m h ok =
      record { result = uses.results m h; overrides = overrides (method_of p k.parent m.name) refl; returns = ap (is_no_result p m) typed-as ∙ below; params = uses.params m h; typed = ap is_some typed-as }
    where
      typed-as : body_type p k m ≡ Some ok.type
      typed-as = (typed p (environment_of k m) sound (env m (uses.params m h)) m.body ok.type ok.typed).0

      below : not (is_subtype p ok.type m.result) ≡ false
      below = ap not (subtype_holds p ok.type m.result ok.below)

      overrides : (o : Option Method) → method_of p k.parent m.name ≡ o → is_overridden_wrongly m (first_some (method_called m.name) (ancestors p k.name)) ≡ false
      overrides None q = ap (is_overridden_wrongly m) (nearest m ∙ q)
      overrides (Some d) q =
          let same = ok.overrides (param_types d.params) d.result (is_method p sound.acyclic m.name k.parent d q) in
          ap (is_overridden_wrongly m) (nearest m ∙ q)
          ∙ ap not (and_from (are_same (param_types d.params) (param_types m.params)) (bytes_eq d.result m.result) (is_same_as (param_types d.params) (param_types m.params) same.0)
          (is_name d.result m.result same.1))

  ok_class : UsesKnown p k → IsClassOk p k → IsKept p k
  ok_class uses ok =
      record {
        parent = uses.parent;
        itself = false_from_ne_true (extends_itself p k) (λ t. let r = itself_by_rules p k t in sound.acyclic k.name r.0 r.1 r.2);
        fields = λ f h. (all_has (λ (f : Field). is_known p f.of) k.fields uses.fields f h, has_no (λ a. is_some (field_called f.name a)) (ancestors p k.name) (free f h));
        fields_alone = sound.fields_distinct k here;
        takes = and_from (are_same (map (λ p. p.of) k.ctor.params) (map (λ f. f.of) (all_fields p k.name))) (are_same (map (λ p. p.name) k.ctor.params) (map (λ f. f.name) (all_fields p k.name)))
            (is_same_as (map (λ p. p.of) k.ctor.params) (map (λ f. f.of) (all_fields p k.name)) (types_same k.ctor.params (all_fields p k.name) takes))
            (is_same_as (map (λ p. p.name) k.ctor.params) (map (λ f. f.name) (all_fields p k.name)) (names_same k.ctor.params (all_fields p k.name) takes));
        sends = is_same_as (map (λ s. s.name) k.ctor.sends) (map (λ f. f.name) (all_fields p k.parent)) (ok.sends ∙ ap (map (λ (f : Field). f.name)) above);
        assigns = is_same_as (map (λ a. a.name) k.ctor.assigns) (map (λ f. f.name) k.fields) ok.assigns;
        ctor = uses.ctor;
        methods = λ m h. keeps_method p k m (ok_method uses m h (ok.methods m h));
        methods_alone = sound.methods_distinct k here;
      }
    where
      above : ok.above ≡ all_fields p k.parent
      above = fields_are p sound.object_free sound.acyclic k.parent ok.above ok.inherited

      takes : map param_pair k.ctor.params ≡ map field_pair (all_fields p k.name)
      takes = ok.takes ∙ ap (λ z. map field_pair (z ++ k.fields)) above ∙ ap (map field_pair) (sym all)

      free : (f : Field) → Has k.fields f → (a : Class) → Has (ancestors p k.name) a → is_some (field_called f.name a) ≡ false
      free f h a i =
          let r = filter_has (λ c. not (is_called k.name c)) (chain p k.name) a i in
          let up = chain_has p k.name a r.0 in
          let other : bytes_eq k.name a.name ≡ false = differs_back a.name k.name (not-true (bytes_eq a.name k.name) r.1) in
          ap is_some (none_find (λ (g : Field). bytes_eq g.name f.name) a.fields (λ g j. differs_back f.name g.name (sound.apart k a here (declared_has p a.name a up.0) up.1 other f g h j)))

-- ---- the law

well_typed_keeps : (p : Table) → HasDistinctNames p → IsWellTyped p → (k : Class) → Has p k → class_keeps p k ≡ true
well_typed_keeps p names ok k h =
    keeps p k (ok_class p (sound_table p names ok.table) k h (uses_known p k (has_all (is_known p) (class_uses k) (ok.table.known k h))) (ok.classes k h))

keeps_well_typed : (p : Table) → HasDistinctNames p → ((k : Class) → Has p k → IsKept p k) → IsWellTyped p
keeps_well_typed p names each =
    record {
      table = record {
        known = λ k h n i. all_has (is_known p) (class_uses k) (known_uses p k (uses k h)) n i;
        acyclic = sound.acyclic;
        apart = sound.apart;
        fields_alone = sound.fields_distinct;
        methods_alone = sound.methods_distinct;
      };
      classes = λ k h. class_ok p sound k h (each k h);
    }
  where
    sound : IsSound p
    sound = sound_kept p names each

    uses : (k : Class) → Has p k → UsesKnown p k
    uses k h =
        record {
          parent = (each k h).parent;
          fields = has_all (λ (f : Field). is_known p f.of) k.fields (λ f i. ((each k h).fields f i).0);
          ctor = (each k h).ctor;
          results = λ m i. (kept_method p k m ((each k h).methods m i)).result;
          params = λ m i. (kept_method p k m ((each k h).methods m i)).params;
          bodies = λ m i. names_known p (variable_type (environment_of k m)) m.body (kept_method p k m ((each k h).methods m i)).typed;
        }

-- A class table is well typed exactly where no rule breaks.
well_typed_exactly : (p : Table) → HasDistinctNames p → IsWellTyped p ↔ (first_breaking p ≡ None)
well_typed_exactly p names = (
  λ ok. keeps_quiet p (has_all (class_keeps p) p (well_typed_keeps p names ok)),
  λ quiet. keeps_well_typed p names (λ k h. kept p k (all_has (class_keeps p) p (quiet_keeps p quiet) k h)),
)

-- The same of a project.
pub well_typed_project : (q : ProductLine) → IsProject q → IsWellTyped q.classes ↔ (first_breaking q.classes ≡ None)
well_typed_project q project = well_typed_exactly q.classes (names_kept q project)
