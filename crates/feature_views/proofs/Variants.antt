-- A variant is a plain project.
use Rattle.std.proofs.Common.{◌≡◌, refl, ℕ, ◌≤◌, Bool, true, not, ◌&&◌, nat_le, List, [], length, map, arith}
use Rattle.std.specs.List.{filter, list_all}
use Rattle.std.specs.Str.{bytes_eq}
use Rattle.std.proofs.lemmas.Bool.{and_parts, and_from}
use Rattle.cfj_words.specs.Names.{is_short_identifier}
use Rattle.cfj_model.specs.declared.class.Field.{Field}
use Rattle.cfj_model.specs.declared.class.Param.{Param}
use Rattle.cfj_model.specs.declared.class.Sent.{Sent}
use Rattle.cfj_model.specs.declared.class.Constructor.{Constructor}
use Rattle.cfj_model.specs.declared.class.Method.{Method}
use Rattle.cfj_model.specs.declared.class.Class.{Class}
use Rattle.cfj_model.specs.declared.expr.Expr.{Expr}
use Rattle.cfj_model.specs.declared.feature_model.FeatureModel.{FeatureModel}
use Rattle.cfj_model.specs.declared.feature_model.Format.TheVariants.{One}
use Rattle.cfj_model.specs.Coloring.{Palette, are_known, is_unmarked, palette_of}
use Rattle.cfj_model.specs.Expressions.{is_named, nest, node_count, slots}
use Rattle.cfj_model.specs.Members.{field_alts_rise, method_alts_rise}
use Rattle.cfj_model.specs.ProductLines.{ProductLine, IsProject, IsPlain, object, most_fields, most_in_ctor, most_methods, most_params, most_nodes, most_nest, most_classes, most_size, are_distinct, rise_from, is_field, is_param, is_sent, are_fields, are_params, are_sents, is_ctor, is_body, is_method, are_methods, is_class, method_size, class_size, is_plain_method, is_plain_class}
use Rattle.cfj_model.specs.Projection.{presence_of, is_present, bare_field, bare_param, bare_sent, present_fields, present_params, present_sents, present_methods, projected_ctor, projected_expr, projected_method, projected_class, projected}
use Rattle.cfj_logic.specs.Selections.{Chosen}
use Rattle.cfj_logic.specs.Sides.{Sides}
use Rattle.feature_views.specs.Selected.{present_classes}
use Rattle.feature_views.proofs.Kept.{at_most, length_kept, few_kept, sum_kept, small_kept, distinct_kept, alts_kept, rise_kept, all_kept, all_made}
use Rattle.feature_views.proofs.KeptBodies.{no_features, stays_named, becomes_bare, loses_nodes, stays_shallow, keeps_slots}
use Rattle.feature_views.proofs.Sublists.{rise_sublist}

-- no colours are known to any model
unmarked_2 : (known b : Bool) → (known && b) ≡ true → (true && b) ≡ true
unmarked_2 known b e = (and_parts known b e).1

unmarked_3 : (known b c : Bool) → (known && b && c) ≡ true → (true && b && c) ≡ true
unmarked_3 known b c e =
    let outer = and_parts (known && b) c e in
    and_from b c (unmarked_2 known b outer.0) outer.1

bare_is_field : (palette : Palette) (f : Field) → is_field palette f ≡ true → is_field no_features (bare_field f) ≡ true
bare_is_field palette f e = unmarked_3 (are_known palette f.colors) (is_short_identifier f.of) (is_short_identifier f.name) e

bare_is_param : (palette : Palette) (p : Param) → is_param palette p ≡ true → is_param no_features (bare_param p) ≡ true
bare_is_param palette p e = unmarked_3 (are_known palette p.colors) (is_short_identifier p.of) (is_short_identifier p.name) e

bare_is_sent : (palette : Palette) (a : Sent) → is_sent palette a ≡ true → is_sent no_features (bare_sent a) ≡ true
bare_is_sent palette a e = unmarked_2 (are_known palette a.colors) (is_short_identifier a.name) e

module _ (s : Chosen) (around : Sides) (palette : Palette) where
  kept_fields : (fs : List Field) → are_fields palette fs ≡ true → are_fields no_features (present_fields s around fs) ≡ true
  kept_fields fs e =
      let keeps : Field → Bool = λ f. is_present s (presence_of around f.colors) in
      let outer = and_parts (nat_le (length fs) most_fields && field_alts_rise fs) (list_all (is_field palette) fs) e in
      let inner = and_parts (nat_le (length fs) most_fields) (field_alts_rise fs) outer.0 in
      and_from _ _
      (and_from _ _ (few_kept bare_field keeps most_fields fs inner.0) (alts_kept bare_field keeps (λ f. (f.name, f.alt)) fs inner.1))
      (all_kept bare_field keeps (is_field palette) (is_field no_features) (bare_is_field palette) fs outer.1)

  kept_params : (most : ℕ) (ps : List Param) → are_params most palette ps ≡ true → are_params most no_features (present_params s around ps) ≡ true
  kept_params most ps e =
      let keeps : Param → Bool = λ p. is_present s (presence_of around p.colors) in
      let few = nat_le (length ps) most in
      let rise = rise_from 0 (map (λ (p : Param). p.slot) ps) in
      let outer = and_parts (few && rise) (list_all (is_param palette) ps) e in
      let inner = and_parts few rise outer.0 in
      and_from _ _
      (and_from _ _ (few_kept bare_param keeps most ps inner.0) (rise_kept bare_param keeps (λ p. p.slot) ps inner.1))
      (all_kept bare_param keeps (is_param palette) (is_param no_features) (bare_is_param palette) ps outer.1)

  kept_param_names : (ps : List Param) → are_distinct (map (λ p. p.name) ps) ≡ true → are_distinct (map (λ p. p.name) (present_params s around ps)) ≡ true
  kept_param_names ps e = distinct_kept bare_param (λ p. is_present s (presence_of around p.colors)) (λ p. p.name) ps e

  kept_sents : (ss : List Sent) → are_sents palette ss ≡ true → are_sents no_features (present_sents s around ss) ≡ true
  kept_sents ss e =
      let keeps : Sent → Bool = λ a. is_present s (presence_of around a.colors) in
      let few = nat_le (length ss) most_in_ctor in
      let rise = rise_from 0 (map (λ (a : Sent). a.slot) ss) in
      let outer = and_parts (few && rise) (list_all (is_sent palette) ss) e in
      let inner = and_parts few rise outer.0 in
      and_from _ _
      (and_from _ _ (few_kept bare_sent keeps most_in_ctor ss inner.0) (rise_kept bare_sent keeps (λ a. a.slot) ss inner.1))
      (all_kept bare_sent keeps (is_sent palette) (is_sent no_features) (bare_is_sent palette) ss outer.1)

  kept_ctor : (c : Constructor) → is_ctor palette c ≡ true → is_ctor no_features (projected_ctor s around c) ≡ true
  kept_ctor c e =
      let outer = and_parts (are_params most_in_ctor palette c.params && are_sents palette c.sends) (are_sents palette c.assigns) e in
      let inner = and_parts (are_params most_in_ctor palette c.params) (are_sents palette c.sends) outer.0 in
      and_from _ _ (and_from _ _ (kept_params most_in_ctor c.params inner.0) (kept_sents c.sends inner.1)) (kept_sents c.assigns outer.1)

  kept_body : (x : Expr) → is_body palette x ≡ true → is_body no_features (projected_expr s around x) ≡ true
  kept_body x e =
      let y = projected_expr s around x in
      let named = is_named palette x in
      let few = nat_le (node_count x) most_nodes in
      let shallow = nat_le (nest x) most_nest in
      let outer = and_parts (named && few && shallow) (rise_from 0 (slots x)) e in
      let middle = and_parts (named && few) shallow outer.0 in
      let inner = and_parts named few middle.0 in
      and_from _ _
      (and_from _ _
      (and_from _ _ (stays_named s palette x around inner.0) (at_most (node_count y) (node_count x) most_nodes (loses_nodes s x around) inner.1))
      (at_most (nest y) (nest x) most_nest (stays_shallow s x around).depth middle.1))
      (rise_sublist (slots y) (slots x) (keeps_slots s x around) outer.1)

unmarked_heading : (a b known c : Bool) → (a && b && known && c) ≡ true → (a && b && true && c) ≡ true
unmarked_heading a b known c h =
    let outer = and_parts (a && b && known) c h in
    let inner = and_parts (a && b) known outer.0 in
    and_from (a && b && true) c (and_from (a && b) true inner.0 refl) outer.1

module _ (s : Chosen) (around : Sides) (palette : Palette) where
  kept_method : (m : Method) → is_method palette m ≡ true → is_method no_features (projected_method s around m) ≡ true
  unfolding is_method
  kept_method m e =
      let known = are_known palette m.colors in
      let result = is_short_identifier m.result in
      let named = is_short_identifier m.name in
      let params = are_params most_params palette m.params in
      let distinct = are_distinct (map (λ (p : Param). p.name) m.params) in
      let outer = and_parts (known && result && named && params && distinct) (is_body palette m.body) e in
      let middle = and_parts (known && result && named && params) distinct outer.0 in
      let inner = and_parts (known && result && named) params middle.0 in
      let within = presence_of around m.colors in
      and_from _ _
      (and_from _ _
      (and_from _ _ (unmarked_3 known result named inner.0) (kept_params s within palette most_params m.params inner.1))
      (kept_param_names s within palette m.params middle.1))
      (kept_body s within palette m.body outer.1)

  kept_methods : (ms : List Method) → are_methods palette ms ≡ true → are_methods no_features (present_methods s around ms) ≡ true
  kept_methods ms e =
      let keeps : Method → Bool = λ m. is_present s (presence_of around m.colors) in
      let made = projected_method s around in
      let outer = and_parts (nat_le (length ms) most_methods && method_alts_rise ms) (list_all (is_method palette) ms) e in
      let inner = and_parts (nat_le (length ms) most_methods) (method_alts_rise ms) outer.0 in
      and_from _ _
      (and_from _ _ (few_kept made keeps most_methods ms inner.0) (alts_kept made keeps (λ m. (m.name, m.alt)) ms inner.1))
      (all_kept made keeps (is_method palette) (is_method no_features) kept_method ms outer.1)

kept_class : (s : Chosen) (palette : Palette) (k : Class) → is_class palette k ≡ true → is_class no_features (projected_class s k) ≡ true
unfolding is_class
kept_class s palette k e =
    let named = is_short_identifier k.name in
    let own = not (bytes_eq k.name object) in
    let known = are_known palette k.colors in
    let under = is_short_identifier k.parent in
    let fields = are_fields palette k.fields in
    let ctor = is_ctor palette k.ctor in
    let whole = and_parts (named && own && known && under && fields && ctor) (are_methods palette k.methods) e in
    let built = and_parts (named && own && known && under && fields) ctor whole.0 in
    let body = and_parts (named && own && known && under) fields built.0 in
    let heading = unmarked_heading named own known under body.0 in
    and_from _ _
    (and_from _ _ (and_from _ _ heading (kept_fields s k.colors palette k.fields body.1)) (kept_ctor s k.colors palette k.ctor built.1))
    (kept_methods s k.colors palette k.methods whole.1)

kept_method_size : (s : Chosen) (around : Sides) (m : Method) → method_size (projected_method s around m) ≤ method_size m
kept_method_size s around m =
    let within = presence_of around m.colors in
    let params = length_kept bare_param (λ p. is_present s (presence_of within p.colors)) m.params in
    let nodes = loses_nodes s m.body within in
    omega arith

kept_size : (s : Chosen) (k : Class) → class_size (projected_class s k) ≤ class_size k
kept_size s k =
    let fields = length_kept bare_field (λ f. is_present s (presence_of k.colors f.colors)) k.fields in
    let params = length_kept bare_param (λ p. is_present s (presence_of k.colors p.colors)) k.ctor.params in
    let sends = length_kept bare_sent (λ a. is_present s (presence_of k.colors a.colors)) k.ctor.sends in
    let assigns = length_kept bare_sent (λ a. is_present s (presence_of k.colors a.colors)) k.ctor.assigns in
    let methods = sum_kept (projected_method s k.colors) (λ m. is_present s (presence_of k.colors m.colors)) method_size method_size (kept_method_size s k.colors) k.methods in
    omega arith

-- what a project keeps, its variant keeps
pub variant_is_project : (s : Chosen) (p : ProductLine) → IsProject p → IsProject (projected s p)
unfolding projected
variant_is_project s p h =
    let keeps : Class → Bool = λ k. is_present s k.colors in
    let made = projected_class s in
    record {
      few_features = refl;
      features_named = refl;
      features_distinct = refl;
      few_formula_nodes = refl;
      each_constraint = refl;
      few_classes = few_kept made keeps most_classes p.classes h.few_classes;
      classes_distinct = distinct_kept made keeps (λ k. k.name) p.classes h.classes_distinct;
      each_class = all_kept made keeps (is_class (palette_of p.model)) (is_class no_features) (kept_class s (palette_of p.model)) p.classes h.each_class;
      fits = small_kept made keeps class_size class_size (kept_size s) most_size p.classes h.fits;
    }

unmarked : {A B : Type 0} (bare : A → B) (colors : B → Sides) (keeps : A → Bool) → ((x : A) → is_unmarked (colors (bare x)) ≡ true) → (xs : List A)
    → list_all (λ y. is_unmarked (colors y)) (map bare (filter keeps xs)) ≡ true
unmarked bare colors keeps h xs = all_made bare keeps (λ y. is_unmarked (colors y)) h xs

plain_method : (s : Chosen) (around : Sides) (m : Method) → is_plain_method (projected_method s around m) ≡ true
unfolding is_plain_method
plain_method s around m =
    let within = presence_of around m.colors in
    and_from _ _
    (unmarked bare_param (λ (p : Param). p.colors) (λ p. is_present s (presence_of within p.colors)) (λ p. refl) m.params)
    (becomes_bare s m.body within)

plain_class : (s : Chosen) (k : Class) → is_plain_class (projected_class s k) ≡ true
unfolding is_plain_class
plain_class s k =
    and_from _ _
    (and_from _ _
    (and_from _ _
    (and_from _ _
    (unmarked bare_field (λ (f : Field). f.colors) (λ f. is_present s (presence_of k.colors f.colors)) (λ f. refl) k.fields)
    (unmarked bare_param (λ (p : Param). p.colors) (λ p. is_present s (presence_of k.colors p.colors)) (λ p. refl) k.ctor.params))
    (unmarked bare_sent (λ (a : Sent). a.colors) (λ a. is_present s (presence_of k.colors a.colors)) (λ a. refl) k.ctor.sends))
    (unmarked bare_sent (λ (a : Sent). a.colors) (λ a. is_present s (presence_of k.colors a.colors)) (λ a. refl) k.ctor.assigns))
    (all_made (projected_method s k.colors) (λ m. is_present s (presence_of k.colors m.colors)) is_plain_method (plain_method s k.colors) k.methods)

-- nothing in a variant is marked
pub variant_is_plain : (s : Chosen) (p : ProductLine) → IsPlain (projected s p)
unfolding projected
variant_is_plain s p = all_made (projected_class s) (λ k. is_present s k.colors) is_plain_class (plain_class s) p.classes

-- the present classes without features are the variant
pub variant_is : (s : Chosen) (p : ProductLine) (model : FeatureModel) (classes : List Class) → model ≡ record { format = One; features = []; constraints = [] }
    → classes ≡ present_classes s p.classes → record { model = model; classes = classes } ≡ projected s p
unfolding projected
variant_is s p model classes m k = rw (m, k) refl
