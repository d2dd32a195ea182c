-- The roles of the tokens of a project's tree.
use Rattle.std.specs.Prelude.{ℕ, List, [], ◌∷◌}
use Rattle.cfj_model.specs.ExpressionGrammar.{roles_expr}
use Rattle.cfj_model.specs.FormulaGrammar.{IffTree, roles_iff}
use Rattle.cfj_model.specs.Grammar.{Declared, Named, MethodTree, ClassTree, Tree, constraint_word, features_word}
use Rattle.cfj_model.specs.declared.feature_model.Format.{Format}
use Rattle.cfj_model.specs.declared.feature_model.Format.TheVariants.{One, Two}
use Rattle.cfj_model.specs.Marks.{in_order, each_behind, separated, roles_marks}
use Rattle.cfj_model.specs.Roles.{Role, format_line, feature_name, class_name, field_name, method_name, param_name, method_param_name, sent_name, assigned_name, used_name, other_token}

-- the roles of a tree's tokens, one for each, and those that follow
abbrev pub roles_format : Format → List Role → List Role
roles_format One rest = rest
roles_format Two rest = format_line ∷ other_token ∷ rest

abbrev pub roles_feature : List ℕ → List Role → List Role
roles_feature f rest = feature_name f ∷ rest

abbrev pub roles_features : List (List ℕ) → List Role → List Role
roles_features [] rest = rest
roles_features (f ∷ fs) rest = used_name features_word ∷ feature_name f ∷ each_behind other_token roles_feature fs (other_token ∷ rest)

abbrev pub roles_field : Declared → List Role → List Role
roles_field d rest = roles_marks d.marks (used_name d.of ∷ field_name d.name ∷ other_token ∷ rest)

abbrev pub roles_param : Declared → List Role → List Role
roles_param d rest = roles_marks d.marks (used_name d.of ∷ param_name d.name ∷ rest)

abbrev pub roles_sent : Named → List Role → List Role
roles_sent s rest = roles_marks s.marks (sent_name s.name ∷ rest)

abbrev pub roles_assign : Named → List Role → List Role
roles_assign a rest = roles_marks a.marks (other_token ∷ other_token ∷ assigned_name a.name ∷ other_token ∷ used_name a.name ∷ other_token ∷ rest)

abbrev pub roles_method_param : Declared → List Role → List Role
roles_method_param d rest = roles_marks d.marks (used_name d.of ∷ method_param_name d.name ∷ rest)

abbrev pub roles_method : MethodTree → List Role → List Role
roles_method m rest =
    roles_marks m.marks
    (used_name m.result
    ∷ method_name m.name
    ∷ other_token
    ∷ separated other_token roles_method_param m.params
    (other_token
    ∷ other_token
    ∷ other_token
    ∷ roles_expr 0 m.body (other_token ∷ other_token ∷ rest)))

abbrev pub roles_constraint : IffTree → List Role → List Role
roles_constraint x rest = used_name constraint_word ∷ roles_iff 0 x (other_token ∷ rest)

abbrev pub roles_ctor : ClassTree → List Role → List Role
roles_ctor k rest =
    used_name k.name
    ∷ other_token
    ∷ separated other_token roles_param k.params
    (other_token
    ∷ other_token
    ∷ other_token
    ∷ other_token
    ∷ separated other_token roles_sent k.sends
    (other_token
    ∷ other_token
    ∷ in_order roles_assign k.assigns (other_token ∷ rest)))

abbrev pub roles_class : ClassTree → List Role → List Role
roles_class k rest =
    roles_marks k.marks
    (other_token
    ∷ class_name k.name
    ∷ other_token ∷ used_name k.parent ∷ other_token ∷ in_order roles_field k.fields (roles_ctor k (in_order roles_method k.methods (other_token ∷ rest))))

abbrev pub roles : Tree → List Role → List Role
roles tree rest =
    roles_format tree.format (roles_features tree.features (in_order roles_constraint tree.constraints (in_order roles_class tree.classes rest)))
