-- The grammar of projects: concrete-syntax trees, the tokens that a tree spells, and the product line that it stands
-- for.
use Rattle.std.specs.Prelude.{ℕ, ◌+◌, List, [], ◌∷◌, map, codes}
use Rattle.cfj_model.specs.declared.class.Field.{Field}
use Rattle.cfj_model.specs.declared.class.Param.{Param}
use Rattle.cfj_model.specs.declared.class.Sent.{Sent}
use Rattle.cfj_model.specs.declared.class.Constructor.{Constructor}
use Rattle.cfj_model.specs.declared.class.Method.{Method}
use Rattle.cfj_model.specs.declared.class.Class.{Class}
use Rattle.cfj_model.specs.declared.feature_model.Format.{Format}
use Rattle.cfj_model.specs.declared.feature_model.Format.TheVariants.{One, Two}
use Rattle.cfj_model.specs.declared.signed.Signed.{Signed}
use Rattle.cfj_model.specs.ProductLines.{ProductLine}
use Rattle.cfj_model.specs.ExpressionGrammar.{ExprTree, spell_expr, value_expr}
use Rattle.cfj_model.specs.FormulaGrammar.{IffTree, spell_iff, value_iff}
use Rattle.cfj_model.specs.Members.{numbered_fields, numbered_methods}
use Rattle.cfj_model.specs.Marks.{in_order, each_behind, separated, spell_marks, colors_of}
use Rattle.cfj_words.specs.Tokens.{Token, Id, ClassWord, ExtendsWord, SuperWord, ThisWord, ReturnWord, OpenBrace, CloseBrace, OpenParen, CloseParen, Semicolon, Comma, Dot, Equals}

-- marks, a type and a name: of a field, or of a parameter
pub record Declared : Type 0 where
  pub marks : List Signed
  pub of : List ℕ
  pub name : List ℕ

-- marks and a name that is sent, or assigned
pub record Named : Type 0 where
  pub marks : List Signed
  pub name : List ℕ

pub record MethodTree : Type 0 where
  pub marks : List Signed
  pub result : List ℕ
  pub name : List ℕ
  pub params : List Declared
  pub body : ExprTree

-- The constructor's name is the class's, and so isn't told twice. The same holds of both names of an assignment.
pub record ClassTree : Type 0 where
  pub marks : List Signed
  pub name : List ℕ
  pub parent : List ℕ
  pub fields : List Declared
  pub params : List Declared
  pub sends : List Named
  pub assigns : List Named
  pub methods : List MethodTree

-- a project: its format, which is Two where a line says so, its features, in a line where there are any, its
-- constraints and its classes
pub record Tree : Type 0 where
  pub format : Format
  pub features : List (List ℕ)
  pub constraints : List IffTree
  pub classes : List ClassTree

-- the word of the line for format Two; it is an identifier like any other
abbrev pub format_word : List ℕ
format_word = codes "format2"

-- the word that begins a feature line; it is an identifier too
abbrev pub features_word : List ℕ
features_word = codes "features"

-- the word that begins a constraint; it is an identifier too
abbrev pub constraint_word : List ℕ
constraint_word = codes "constraint"

-- id
abbrev pub spell_name : List ℕ → List Token → List Token
spell_name w rest = Id w ∷ rest

-- ["format2" ";"]
abbrev pub spell_format : Format → List Token → List Token
spell_format One rest = rest
spell_format Two rest = Id format_word ∷ Semicolon ∷ rest

-- ["features" id {"," id} ";"]
abbrev pub spell_features : List (List ℕ) → List Token → List Token
spell_features [] rest = rest
spell_features (f ∷ fs) rest = Id features_word ∷ Id f ∷ each_behind Comma spell_name fs (Semicolon ∷ rest)

-- field: marks id id ";"
abbrev pub spell_field : Declared → List Token → List Token
spell_field d rest = spell_marks d.marks (Id d.of ∷ Id d.name ∷ Semicolon ∷ rest)

-- param: marks id id
abbrev pub spell_param : Declared → List Token → List Token
spell_param d rest = spell_marks d.marks (Id d.of ∷ Id d.name ∷ rest)

-- sent: marks id
abbrev pub spell_sent : Named → List Token → List Token
spell_sent s rest = spell_marks s.marks (Id s.name ∷ rest)

-- assign: marks "this" "." id "=" id ";"
abbrev pub spell_assign : Named → List Token → List Token
spell_assign a rest = spell_marks a.marks (ThisWord ∷ Dot ∷ Id a.name ∷ Equals ∷ Id a.name ∷ Semicolon ∷ rest)

-- ctor: id "(" list(param) ")" "{" "super" "(" list(sent) ")" ";" {assign} "}"
abbrev pub spell_ctor : ClassTree → List Token → List Token
spell_ctor k rest =
    Id k.name
    ∷ OpenParen
    ∷ separated Comma spell_param k.params
    (CloseParen
    ∷ OpenBrace
    ∷ SuperWord
    ∷ OpenParen
    ∷ separated Comma spell_sent k.sends
    (CloseParen
    ∷ Semicolon
    ∷ in_order spell_assign k.assigns (CloseBrace ∷ rest)))

-- method: marks id id "(" list(param) ")" "{" "return" expr ";" "}"
abbrev pub spell_method : MethodTree → List Token → List Token
spell_method m rest =
    spell_marks m.marks
    (Id m.result
    ∷ Id m.name
    ∷ OpenParen
    ∷ separated Comma spell_param m.params
    (CloseParen ∷ OpenBrace ∷ ReturnWord ∷ spell_expr m.body (Semicolon ∷ CloseBrace ∷ rest)))

-- "constraint" iff ";"
abbrev pub spell_constraint : IffTree → List Token → List Token
spell_constraint x rest = Id constraint_word ∷ spell_iff x (Semicolon ∷ rest)

-- class: marks "class" id "extends" id "{" {field} ctor {method} "}"
abbrev pub spell_class : ClassTree → List Token → List Token
spell_class k rest =
    spell_marks k.marks
    (ClassWord
    ∷ Id k.name
    ∷ ExtendsWord ∷ Id k.parent ∷ OpenBrace ∷ in_order spell_field k.fields (spell_ctor k (in_order spell_method k.methods (CloseBrace ∷ rest))))

-- project: ["format2" ";"] ["features" id {"," id} ";"] {"constraint" iff ";"} {class}
abbrev pub spell : Tree → List Token → List Token
spell tree rest =
    spell_format tree.format (spell_features tree.features (in_order spell_constraint tree.constraints (in_order spell_class tree.classes rest)))

-- Items with their places in their list, from a number on.
abbrev pub numbered : {A B : Type 0} → (ℕ → A → B) → ℕ → List A → List B
numbered f n [] = []
numbered f n (x ∷ xs) = f n x ∷ numbered f (n + 1) xs

-- a field by itself, whose alt is 0
abbrev pub value_field : List (List ℕ) → Declared → Field
value_field features d = record { alt = 0; colors = colors_of features d.marks; of = d.of; name = d.name }

abbrev pub value_param : List (List ℕ) → ℕ → Declared → Param
value_param features slot d = record { slot = slot; colors = colors_of features d.marks; of = d.of; name = d.name }

abbrev pub value_sent : List (List ℕ) → ℕ → Named → Sent
value_sent features slot s = record { slot = slot; colors = colors_of features s.marks; name = s.name }

abbrev pub value_ctor : List (List ℕ) → ClassTree → Constructor
value_ctor features k =
    record {
      params = numbered (value_param features) 0 k.params;
      sends = numbered (value_sent features) 0 k.sends;
      assigns = numbered (value_sent features) 0 k.assigns;
    }

-- a method by itself, whose alt is 0
abbrev pub value_method : List (List ℕ) → MethodTree → Method
value_method features m =
    record {
      alt = 0;
      colors = colors_of features m.marks;
      result = m.result;
      name = m.name;
      params = numbered (value_param features) 0 m.params;
      body = (value_expr features 0 m.body).0;
    }

abbrev pub value_class : List (List ℕ) → ClassTree → Class
value_class features k =
    record {
      name = k.name;
      colors = colors_of features k.marks;
      parent = k.parent;
      fields = numbered_fields (map (value_field features) k.fields);
      ctor = value_ctor features k;
      methods = numbered_methods (map (value_method features) k.methods);
    }

-- the product line that a tree stands for; it is numbered
abbrev pub value : Tree → ProductLine
value tree =
    record {
      model = record { format = tree.format; features = tree.features; constraints = map (value_iff tree.features) tree.constraints };
      classes = map (value_class tree.features) tree.classes;
    }
