-- The languages of project texts and of class texts, and what a text of a language stands for.
use Rattle.std.specs.Prelude.{◌≡◌, ℕ, List, []}
use Rattle.std.specs.Str.{chars, IsUtf8}
use Rattle.cfj_words.specs.Lexemes.{AtEnd, next_lexeme}
use Rattle.cfj_words.specs.Tokens.{Token, Takes}
use Rattle.cfj_model.specs.ProductLines.{ProductLine}
use Rattle.cfj_model.specs.declared.class.Class.{Class}
use Rattle.cfj_model.specs.declared.feature_model.Format.{Format}
use Rattle.cfj_model.specs.Grammar.{Tree, spell, value, ClassTree, spell_class, value_class}
use Rattle.cfj_model.specs.TreeRoles.{roles, roles_class}
use Rattle.cfj_model.specs.Roles.{Role, Tally, nothing, AreWithin}

-- A language: its trees, the tokens that a tree spells, their roles, the value that a tree stands for, and what
-- counts as met before a text begins.
pub record Language (V : Type 0) : Type 1 where
  pub Tree : Type 0
  pub spell : Tree → List Token → List Token
  pub roles : Tree → List Role → List Role
  pub value : Tree → V
  pub met : Tally

-- whole projects
abbrev pub projects : Language ProductLine
projects = record { Tree = Tree; spell = spell; roles = roles; value = value; met = nothing }

-- this format and these features were met, and nothing else
abbrev pub with_features : Format → List (List ℕ) → Tally
with_features format features = record nothing { format = format; features = features }

-- single classes, in this format and with nodes that may be marked with these features
abbrev pub single_classes : Format → List (List ℕ) → Language Class
single_classes format features =
    record {
      Tree = ClassTree;
      spell = spell_class;
      roles = roles_class;
      value = value_class features;
      met = with_features format features;
    }

-- The text is one of the language, within the limits, and stands for this value.
pub record IsTextOf {V : Type 0} (l : Language V) (text : List ℕ) (v : V) : Type 0 where
  pub utf8 : IsUtf8 text
  pub tree : l.Tree
  pub rest : List ℕ
  pub spelled : Takes (chars text) (l.spell tree []) rest
  pub ended : next_lexeme rest ≡ AtEnd
  pub within : AreWithin l.met (l.roles tree [])
  pub valued : v ≡ l.value tree
