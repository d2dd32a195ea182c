-- What the machine reads, in the words of the grammar.
use Rattle.std.specs.Prelude.{◌≡◌, ℕ, List, ◌++◌, [], ◌∷◌, length}
use Rattle.cfj_model.specs.FormulaGrammar.{IffTree, spell_iff, roles_iff, value_iff}
use Rattle.cfj_model.specs.Roles.{Role, other_token}
use Rattle.cfj_words.specs.Tokens.{Token, Semicolon}
use Rattle.formula_reader.specs.Machine.{State, done}

-- The tokens are a formula's, with its semicolon, in these roles, and this state holds what it stands for.
pub record IsFormula (features : List (List ℕ)) (ts : List Token) (rs : List Role) (s : State) : Type 0 where
  pub tree : IffTree
  pub spelled : ts ≡ spell_iff tree (Semicolon ∷ [])
  pub in_roles : rs ≡ roles_iff 0 tree (other_token ∷ [])
  pub valued : s ≡ done (value_iff features tree)

-- A formula, with its semicolon, begins with these tokens, in these roles.
pub record BeginsFormula (front : List Token) (rs : List Role) : Type 0 where
  pub tree : IffTree
  pub more : List Token
  pub others : List Role
  pub text : spell_iff tree (Semicolon ∷ []) ≡ front ++ more
  pub in_roles : roles_iff 0 tree (other_token ∷ []) ≡ rs ++ others
  pub each : length rs ≡ length front
