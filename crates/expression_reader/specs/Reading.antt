-- How what the machine has read stands towards the grammar.
use Rattle.std.specs.Prelude.{◌≡◌, ℕ, ◌+◌, Bool, true, false, if◌then◌else◌, List, [], ◌∷◌, ◌++◌, length}
use Rattle.cfj_model.specs.ExpressionGrammar.{ExprTree, spell_expr, roles_expr}
use Rattle.cfj_words.specs.Tokens.{Token, Semicolon}
use Rattle.cfj_model.specs.Roles.{Role, casts, mark_name, node, opens, other_token, sign, used_name, var_name}
use Rattle.expression_reader.specs.declared.mode.Mode.{Mode}
use Rattle.expression_reader.specs.declared.mode.Mode.TheVariants.{AfterDot, AfterMember, AfterNew, AfterClass}

-- The text of an expression with the token behind it begins with these tokens, in these roles.
pub record Begins (front : List Token) (rs : List Role) : Type 0 where
  pub tree : ExprTree
  pub more : List Token
  pub others : List Role
  pub text : spell_expr tree (Semicolon ∷ []) ≡ front ++ more
  pub in_roles : roles_expr 0 tree (other_token ∷ []) ≡ rs ++ others
  pub each : length rs ≡ length front

-- some text of an expression begins with these tokens
abbrev pub CanGoOn : List Token → Type 0
CanGoOn front = (rs : List Role) × Begins front rs

-- The tokens are the text of this tree, and the token behind it.
abbrev pub IsTextOf : List Token → ExprTree → Type 0
IsTextOf ts x = ts ≡ spell_expr x (Semicolon ∷ [])

-- the node whose own token was read, and which takes its slot with the next token
abbrev pub owed : Mode → ℕ
owed (AfterDot x) = 1
owed (AfterMember x w) = 1
owed AfterNew = 1
owed (AfterClass c) = 1
owed _ = 0

-- a node's own token
abbrev pub is_node : Role → Bool
is_node (var_name w) = true
is_node (casts d) = true
is_node node = true
is_node _ = false

-- how many nodes have their own tokens among these
abbrev pub nodes_in : List Role → ℕ
nodes_in [] = 0
nodes_in (r ∷ rs) = (if is_node r then 1 else 0) + nodes_in rs

-- a token of an expression
abbrev pub is_role_of_body : Role → Bool
is_role_of_body (var_name w) = true
is_role_of_body (used_name w) = true
is_role_of_body (mark_name w) = true
is_role_of_body (opens d) = true
is_role_of_body (casts d) = true
is_role_of_body sign = true
is_role_of_body node = true
is_role_of_body other_token = true
is_role_of_body _ = false
