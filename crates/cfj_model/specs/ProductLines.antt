-- What a project is, and what its type keeps of it.
use Rattle.std.specs.Prelude.{◌≡◌, ℕ, ◌+◌, Bool, true, not, ◌&&◌, nat_le, List, [], ◌∷◌, ◌++◌, length, map, codes, sum_by}
use Rattle.std.specs.List.{list_all}
use Rattle.std.specs.Str.{bytes_eq}
use Rattle.cfj_words.specs.Names.{is_among, is_short_identifier}
use Rattle.cfj_model.specs.Coloring.{Palette, are_known, is_unmarked, palette_of}
use Rattle.cfj_model.specs.Expressions.{is_bare, is_named, nest, node_count, slots}
use Rattle.cfj_model.specs.Members.{field_alts_rise, method_alts_rise}
use Rattle.cfj_logic.specs.Formulas.{is_over, formula_nest, formula_node_count}
use Rattle.cfj_logic.specs.declared.formula.Formula.{Formula}
use Rattle.cfj_model.specs.declared.class.Method.{Method}
use Rattle.cfj_model.specs.declared.class.Field.{Field}
use Rattle.cfj_model.specs.declared.class.Param.{Param}
use Rattle.cfj_model.specs.declared.class.Sent.{Sent}
use Rattle.cfj_model.specs.declared.class.Constructor.{Constructor}
use Rattle.cfj_model.specs.declared.class.Class.{Class}
use Rattle.cfj_model.specs.declared.expr.Expr.{Expr}
use Rattle.cfj_model.specs.declared.feature_model.FeatureModel.{FeatureModel}
use Rattle.cfj_model.specs.declared.feature_model.Format.TheVariants.{Two}

-- a feature model, and classes whose nodes may be marked with its features
pub record ProductLine : Type 0 where
  pub model : FeatureModel
  pub classes : List Class

-- The limits of a project: `most_in_ctor` is that of each list of a constructor, `most_params` that of a method's parameters,
-- `most_nodes` that of a body, and `most_nest` that of bodies and constraints.
abbrev pub most_features : ℕ
most_features = 128

abbrev pub most_classes : ℕ
most_classes = 1024

abbrev pub most_fields : ℕ
most_fields = 64

abbrev pub most_in_ctor : ℕ
most_in_ctor = 1024

abbrev pub most_methods : ℕ
most_methods = 256

abbrev pub most_params : ℕ
most_params = 16

abbrev pub most_nodes : ℕ
most_nodes = 1024

abbrev pub most_nest : ℕ
most_nest = 64

abbrev pub most_formula_nodes : ℕ
most_formula_nodes = 4096

abbrev pub most_size : ℕ
most_size = 1000000

-- the root of all classes, which no project declares
abbrev pub object : List ℕ
object = codes "Object"

-- each name is new behind those before it
abbrev pub are_new : List (List ℕ) → List (List ℕ) → Bool
are_new before [] = true
are_new before (n ∷ ns) = not (is_among before n) && are_new (before ++ n ∷ []) ns

abbrev pub are_distinct : List (List ℕ) → Bool
are_distinct = are_new []

-- the slots rise, from a least one on
abbrev pub rise_from : ℕ → List ℕ → Bool
rise_from least [] = true
rise_from least (s ∷ ss) = nat_le least s && rise_from (s + 1) ss

abbrev pub is_field : Palette → Field → Bool
is_field palette f = are_known palette f.colors && is_short_identifier f.of && is_short_identifier f.name

abbrev pub is_param : Palette → Param → Bool
is_param palette p = are_known palette p.colors && is_short_identifier p.of && is_short_identifier p.name

abbrev pub is_sent : Palette → Sent → Bool
is_sent palette s = are_known palette s.colors && is_short_identifier s.name

-- parameters, at most so many
abbrev pub are_params : ℕ → Palette → List Param → Bool
are_params most palette ps = nat_le (length ps) most && rise_from 0 (map (λ p. p.slot) ps) && list_all (is_param palette) ps

abbrev pub are_sents : Palette → List Sent → Bool
are_sents palette ss = nat_le (length ss) most_in_ctor && rise_from 0 (map (λ s. s.slot) ss) && list_all (is_sent palette) ss

abbrev pub are_fields : Palette → List Field → Bool
are_fields palette fs = nat_le (length fs) most_fields && field_alts_rise fs && list_all (is_field palette) fs

abbrev pub is_ctor : Palette → Constructor → Bool
is_ctor palette c = are_params most_in_ctor palette c.params && are_sents palette c.sends && are_sents palette c.assigns

abbrev pub is_body : Palette → Expr → Bool
is_body palette e = is_named palette e && nat_le (node_count e) most_nodes && nat_le (nest e) most_nest && rise_from 0 (slots e)

unfoldable pub is_method : Palette → Method → Bool
is_method palette m =
    are_known palette m.colors
    && is_short_identifier m.result
    && is_short_identifier m.name
    && are_params most_params palette m.params
    && are_distinct (map (λ p. p.name) m.params)
    && is_body palette m.body

abbrev pub are_methods : Palette → List Method → Bool
are_methods palette ms = nat_le (length ms) most_methods && method_alts_rise ms && list_all (is_method palette) ms

-- what a project keeps of a class by itself
unfoldable pub is_class : Palette → Class → Bool
is_class palette k =
    is_short_identifier k.name
    && not (bytes_eq k.name object)
    && are_known palette k.colors
    && is_short_identifier k.parent
    && are_fields palette k.fields
    && is_ctor palette k.ctor
    && are_methods palette k.methods

-- a method, its parameters and its nodes
abbrev pub method_size : Method → ℕ
method_size m = 1 + (length m.params + node_count m.body)

-- the classes, fields, methods, parameters, sent names, assignments and expression nodes together
abbrev pub class_size : Class → ℕ
class_size k = 1 + (length k.fields + (length k.ctor.params + (length k.ctor.sends + (length k.ctor.assigns + sum_by method_size k.methods))))

abbrev pub size : List Class → ℕ
size = sum_by class_size

-- a constraint over so many features
abbrev pub is_constraint : ℕ → Formula → Bool
is_constraint features f = is_over features f && nat_le (formula_nest f) most_nest

-- what a project's type keeps
pub record IsProject (p : ProductLine) : Type 0 where
  pub few_features : nat_le (length p.model.features) most_features ≡ true
  pub features_named : list_all is_short_identifier p.model.features ≡ true
  pub features_distinct : are_distinct p.model.features ≡ true
  pub few_formula_nodes : nat_le (sum_by formula_node_count p.model.constraints) most_formula_nodes ≡ true
  pub each_constraint : list_all (is_constraint (length p.model.features)) p.model.constraints ≡ true
  pub few_classes : nat_le (length p.classes) most_classes ≡ true
  pub classes_distinct : are_distinct (map (λ k. k.name) p.classes) ≡ true
  pub each_class : list_all (is_class (palette_of p.model)) p.classes ≡ true
  pub fits : nat_le (size p.classes) most_size ≡ true

-- no node of a method is marked
unfoldable pub is_plain_method : Method → Bool
is_plain_method m = is_unmarked m.colors && list_all (λ (p : Param). is_unmarked p.colors) m.params && is_bare m.body

-- no node of a class is marked
unfoldable pub is_plain_class : Class → Bool
is_plain_class k =
    is_unmarked k.colors
    && list_all (λ (f : Field). is_unmarked f.colors) k.fields
    && list_all (λ (p : Param). is_unmarked p.colors) k.ctor.params
    && list_all (λ (s : Sent). is_unmarked s.colors) k.ctor.sends
    && list_all (λ (a : Sent). is_unmarked a.colors) k.ctor.assigns
    && list_all is_plain_method k.methods

abbrev pub is_plain : List Class → Bool
is_plain = list_all is_plain_class

-- nothing is marked
abbrev pub IsPlain : ProductLine → Type 0
IsPlain p = is_plain p.classes ≡ true

-- the same product line in format Two, where its marks mean what they meant
abbrev pub in_format_two : ProductLine → ProductLine
in_format_two p = record p { model = record p.model { format = Two } }
