-- What a project's type keeps of the parts that are read by themselves, beside `is_class` of a class, `is_ctor` of a
-- constructor and `is_body` of an expression.
use Rattle.std.specs.Prelude.{◌≡◌, Bool, true, ◌&&◌, ◌==◌, nat_le, length, sum_by}
use Rattle.std.specs.List.{list_all}
use Rattle.cfj_words.specs.Names.{is_short_identifier}
use Rattle.cfj_logic.specs.Formulas.{formula_node_count}
use Rattle.cfj_model.specs.Coloring.{Palette}
use Rattle.cfj_model.specs.Numbered.{is_numbered_method}
use Rattle.cfj_model.specs.ProductLines.{are_distinct, most_features, most_formula_nodes}
use Rattle.cfj_model.specs.ProductLines.{is_constraint, is_field, is_method}
use Rattle.cfj_model.specs.declared.feature_model.FeatureModel.{FeatureModel}
use Rattle.cfj_model.specs.declared.member.Member.{Member}
use Rattle.cfj_model.specs.declared.member.Member.TheVariants as member

-- a project's feature model
pub record IsModel (m : FeatureModel) : Type 0 where
  pub few_features : nat_le (length m.features) most_features ≡ true
  pub features_named : list_all is_short_identifier m.features ≡ true
  pub features_distinct : are_distinct m.features ≡ true
  pub few_formula_nodes : nat_le (sum_by formula_node_count m.constraints) most_formula_nodes ≡ true
  pub each_constraint : list_all (is_constraint (length m.features)) m.constraints ≡ true

-- a field or a method
abbrev pub is_member : Palette → Member → Bool
is_member palette (member.Field f) = is_field palette f
is_member palette (member.Method m) = is_method palette m

-- It has no namesakes before it, and the slots of a method run in the order of the text.
abbrev pub is_numbered_member : Member → Bool
is_numbered_member (member.Field f) = f.alt == 0
is_numbered_member (member.Method m) = m.alt == 0 && is_numbered_method m
