-- The texts that are read by themselves, besides whole projects and single classes.
use Rattle.std.specs.Prelude.{ℕ, List, [], ◌∷◌}
use Rattle.cfj_model.specs.declared.class.Constructor.{Constructor}
use Rattle.cfj_model.specs.declared.class.Field.{Field}
use Rattle.cfj_model.specs.declared.class.Method.{Method}
use Rattle.cfj_model.specs.declared.expr.Expr.{Expr}
use Rattle.cfj_model.specs.declared.feature_model.FeatureModel.{FeatureModel}
use Rattle.cfj_model.specs.declared.member.Member.{Member}
use Rattle.cfj_model.specs.declared.member.Member.TheVariants as member
use Rattle.cfj_model.specs.ExpressionGrammar.{ExprTree, StartTree, StepsTree, ArgsTree, MoreArgsTree, cast, chain, variable, this_word, made, bracket, stop, get, call, no_args, first_arg, no_more, next_arg, spell_expr, roles_expr, value_expr}
use Rattle.cfj_model.specs.FormulaGrammar.{IffTree}
use Rattle.cfj_model.specs.Languages.{Language, with_features}
use Rattle.cfj_model.specs.declared.feature_model.Format.{Format}
use Rattle.cfj_model.specs.declared.want.Want.{Want}
use Rattle.cfj_model.specs.declared.want.Want.TheVariants as want
use Rattle.cfj_model.specs.Grammar.{Declared, Named, MethodTree, ClassTree, Tree, spell, spell_ctor, spell_field, spell_method, spell_name, value, value_ctor, value_field, value_method}
use Rattle.cfj_model.specs.Marks.{roles_marks}
use Rattle.cfj_model.specs.Roles.{Role, method_name, nothing, other_token, used_name}
use Rattle.cfj_words.specs.Tokens.{Token}
use Rattle.cfj_model.specs.TreeRoles.{roles, roles_ctor, roles_field, roles_method}

-- a feature model is a project without classes
pub record ModelTree : Type 0 where
  pub format : Format
  pub features : List (List ℕ)
  pub constraints : List IffTree

abbrev pub without_classes : ModelTree → Tree
without_classes m = record { format = m.format; features = m.features; constraints = m.constraints; classes = [] }

-- feature models
abbrev pub models : Language FeatureModel
models =
    record {
      Tree = ModelTree;
      spell = λ m. spell (without_classes m);
      roles = λ m. roles (without_classes m);
      value = λ m. (value (without_classes m)).model;
      met = nothing;
    }

-- a constructor without the name of its class
pub record CtorTree : Type 0 where
  pub params : List Declared
  pub sends : List Named
  pub assigns : List Named

abbrev pub in_class : List ℕ → CtorTree → ClassTree
in_class class c = record { marks = []; name = class; parent = class; fields = []; params = c.params; sends = c.sends; assigns = c.assigns; methods = [] }

-- constructors of the class of this name, in this format and with nodes that may be marked with these features
abbrev pub constructors : Format → List (List ℕ) → List ℕ → Language Constructor
constructors format features class =
    record {
      Tree = CtorTree;
      spell = λ c. spell_ctor (in_class class c);
      roles = λ c. roles_ctor (in_class class c);
      value = λ c. value_ctor features (in_class class c);
      met = with_features format features;
    }

-- single fields
abbrev pub single_fields : Format → List (List ℕ) → Language Field
single_fields format features =
    record {
      Tree = Declared;
      spell = spell_field;
      roles = roles_field;
      value = value_field features;
      met = with_features format features;
    }

-- single methods
abbrev pub single_methods : Format → List (List ℕ) → Language Method
single_methods format features =
    record {
      Tree = MethodTree;
      spell = spell_method;
      roles = roles_method;
      value = value_method features;
      met = with_features format features;
    }

-- a field or a method
pub data MemberTree : Type 0 where
  a_field : Declared → MemberTree
  a_method : MethodTree → MemberTree

abbrev pub spell_member : MemberTree → List Token → List Token
spell_member (a_field d) = spell_field d
spell_member (a_method m) = spell_method m

-- Of a member by itself only the next token tells which it is. Where no other was met, a field's name breaks what a method's
-- breaks, so that its role may be the same.
abbrev pub roles_member : MemberTree → List Role → List Role
roles_member (a_field d) rest = roles_marks d.marks (used_name d.of ∷ method_name d.name ∷ other_token ∷ rest)
roles_member (a_method m) rest = roles_method m rest

abbrev pub value_member : List (List ℕ) → MemberTree → Member
value_member features (a_field d) = member.Field (value_field features d)
value_member features (a_method m) = member.Method (value_method features m)

-- single fields and methods
abbrev pub single_members : Format → List (List ℕ) → Language Member
single_members format features =
    record {
      Tree = MemberTree;
      spell = spell_member;
      roles = roles_member;
      value = value_member features;
      met = with_features format features;
    }

-- names
abbrev pub names : Language (List ℕ)
names = record { Tree = List ℕ; spell = spell_name; roles = λ w rest. used_name w ∷ rest; value = λ w. w; met = nothing }

-- no argument of an expression is marked
abbrev mutual
  pub IsUnmarked : ExprTree → Type 0
  IsUnmarked (cast c t) = IsUnmarked t
  IsUnmarked (chain s ss) = IsStartUnmarked s × AreStepsUnmarked ss

  pub IsStartUnmarked : StartTree → Type 0
  IsStartUnmarked (variable w) = Unit {0}
  IsStartUnmarked this_word = Unit {0}
  IsStartUnmarked (made c xs) = AreUnmarked xs
  IsStartUnmarked (bracket t) = IsUnmarked t

  pub AreStepsUnmarked : StepsTree → Type 0
  AreStepsUnmarked stop = Unit {0}
  AreStepsUnmarked (get f ss) = AreStepsUnmarked ss
  AreStepsUnmarked (call m xs ss) = AreUnmarked xs × AreStepsUnmarked ss

  pub AreUnmarked : ArgsTree → Type 0
  AreUnmarked no_args = Unit {0}
  AreUnmarked (first_arg (w ∷ ws) t ts) = ⊥
  AreUnmarked (first_arg [] t ts) = IsUnmarked t × AreMoreUnmarked ts

  pub AreMoreUnmarked : MoreArgsTree → Type 0
  AreMoreUnmarked no_more = Unit {0}
  AreMoreUnmarked (next_arg (w ∷ ws) t ts) = ⊥
  AreMoreUnmarked (next_arg [] t ts) = IsUnmarked t × AreMoreUnmarked ts

pub record UnmarkedTree : Type 0 where
  pub tree : ExprTree
  pub unmarked : IsUnmarked tree

-- expressions without marks
abbrev pub expressions : Language Expr
expressions = record { Tree = UnmarkedTree; spell = λ x. spell_expr x.tree; roles = λ x. roles_expr 0 x.tree; value = λ x. (value_expr [] 0 x.tree).0; met = nothing }

-- the texts of a language, which stand for the values that are made of its own
abbrev pub standing_for : {V W : Type 0} → (V → W) → Language V → Language W
standing_for f l = record { Tree = l.Tree; spell = l.spell; roles = l.roles; value = λ x. f (l.value x); met = l.met }

-- single members of the kind that is wanted
abbrev pub members_wanted : Want → Format → List (List ℕ) → Language Member
members_wanted want.Any format features = single_members format features
members_wanted want.Field format features = standing_for member.Field (single_fields format features)
members_wanted want.Method format features = standing_for member.Method (single_methods format features)
