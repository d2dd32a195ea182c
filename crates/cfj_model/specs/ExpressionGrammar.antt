-- The grammar of expressions, with marks and brackets as they stand: what a tree spells, the roles of its tokens and the
-- expression that it stands for.
use Rattle.std.specs.Prelude.{ℕ, ◌+◌, List, [], ◌∷◌, ◌++◌, codes}
use Rattle.cfj_model.specs.declared.expr.Arg.{Arg}
use Rattle.cfj_model.specs.declared.expr.Expr.{Expr}
use Rattle.cfj_model.specs.declared.expr.Expr.TheVariants as e
use Rattle.cfj_model.specs.declared.signed.Signed.{Signed}
use Rattle.cfj_model.specs.Marks.{spell_marks, roles_marks, colors_of}
use Rattle.cfj_words.specs.Tokens.{Token, Id, NewWord, ThisWord, OpenParen, CloseParen, Comma, Dot}
use Rattle.cfj_model.specs.Roles.{Role, casts, node, opens, other_token, used_name, var_name}

mutual
  -- expr: cast, or chain; a cast is "(" id ")" expr
  pub data ExprTree : Type 0 where
    cast : List ℕ → ExprTree → ExprTree
    chain : StartTree → StepsTree → ExprTree

  -- start: id, "this", "new" id "(" list(arg) ")", or "(" expr ")"
  pub data StartTree : Type 0 where
    variable : List ℕ → StartTree
    this_word : StartTree
    made : List ℕ → ArgsTree → StartTree
    bracket : ExprTree → StartTree

  -- {"." id ["(" list(arg) ")"]}
  pub data StepsTree : Type 0 where
    stop : StepsTree
    get : List ℕ → StepsTree → StepsTree
    call : List ℕ → ArgsTree → StepsTree → StepsTree

  -- list(arg), where an argument is marks and an expression
  pub data ArgsTree : Type 0 where
    no_args : ArgsTree
    first_arg : List Signed → ExprTree → MoreArgsTree → ArgsTree

  -- {"," arg}
  pub data MoreArgsTree : Type 0 where
    no_more : MoreArgsTree
    next_arg : List Signed → ExprTree → MoreArgsTree → MoreArgsTree

-- the tokens of a tree, and what follows
abbrev mutual
  pub spell_expr : ExprTree → List Token → List Token
  spell_expr (cast c t) rest = OpenParen ∷ Id c ∷ CloseParen ∷ spell_expr t rest
  spell_expr (chain s ss) rest = spell_start s (spell_steps ss rest)

  pub spell_start : StartTree → List Token → List Token
  spell_start (variable w) rest = Id w ∷ rest
  spell_start this_word rest = ThisWord ∷ rest
  spell_start (made c xs) rest = NewWord ∷ Id c ∷ OpenParen ∷ spell_args xs (CloseParen ∷ rest)
  spell_start (bracket t) rest = OpenParen ∷ spell_expr t (CloseParen ∷ rest)

  pub spell_steps : StepsTree → List Token → List Token
  spell_steps stop rest = rest
  spell_steps (get f ss) rest = Dot ∷ Id f ∷ spell_steps ss rest
  spell_steps (call m xs ss) rest = Dot ∷ Id m ∷ OpenParen ∷ spell_args xs (CloseParen ∷ spell_steps ss rest)

  pub spell_args : ArgsTree → List Token → List Token
  spell_args no_args rest = rest
  spell_args (first_arg ms t ts) rest = spell_marks ms (spell_expr t (spell_more_args ts rest))

  pub spell_more_args : MoreArgsTree → List Token → List Token
  spell_more_args no_more rest = rest
  spell_more_args (next_arg ms t ts) rest = Comma ∷ spell_marks ms (spell_expr t (spell_more_args ts rest))

-- The roles of its tokens inside so many open argument lists, brackets and casts, and those that follow. A cast is open to the
-- end of its operand.
abbrev mutual
  pub roles_expr : ℕ → ExprTree → List Role → List Role
  roles_expr d (cast c t) rest = casts (d + 1) ∷ used_name c ∷ other_token ∷ roles_expr (d + 1) t rest
  roles_expr d (chain s ss) rest = roles_start d s (roles_steps d ss rest)

  pub roles_start : ℕ → StartTree → List Role → List Role
  roles_start d (variable w) rest = var_name w ∷ rest
  roles_start d this_word rest = node ∷ rest
  roles_start d (made c xs) rest = node ∷ used_name c ∷ opens (d + 1) ∷ roles_args (d + 1) xs (other_token ∷ rest)
  roles_start d (bracket t) rest = opens (d + 1) ∷ roles_expr (d + 1) t (other_token ∷ rest)

  pub roles_steps : ℕ → StepsTree → List Role → List Role
  roles_steps d stop rest = rest
  roles_steps d (get f ss) rest = node ∷ used_name f ∷ roles_steps d ss rest
  roles_steps d (call m xs ss) rest = node ∷ used_name m ∷ opens (d + 1) ∷ roles_args (d + 1) xs (other_token ∷ roles_steps d ss rest)

  pub roles_args : ℕ → ArgsTree → List Role → List Role
  roles_args d no_args rest = rest
  roles_args d (first_arg ms t ts) rest = roles_marks ms (roles_expr d t (roles_more_args d ts rest))

  pub roles_more_args : ℕ → MoreArgsTree → List Role → List Role
  roles_more_args d no_more rest = rest
  roles_more_args d (next_arg ms t ts) rest = other_token ∷ roles_marks ms (roles_expr d t (roles_more_args d ts rest))

-- An expression or arguments, and the next slot. A node takes its slot at its own token.
abbrev pub Numbered : Type 0 → Type 0
Numbered A = A × ℕ

abbrev mutual
  -- the expression that a tree stands for, over these features, with its slots from a number on; brackets aren't kept
  pub value_expr : List (List ℕ) → ℕ → ExprTree → Numbered Expr
  value_expr features n (cast c t) = let v = value_expr features (n + 1) t in (e.Cast n c v.0, v.1)
  value_expr features n (chain s ss) = let v = value_start features n s in value_steps features v.1 v.0 ss

  pub value_start : List (List ℕ) → ℕ → StartTree → Numbered Expr
  value_start features n (variable w) = (e.Var n w, n + 1)
  value_start features n this_word = (e.Var n (codes "this"), n + 1)
  value_start features n (made c xs) = let v = value_args features (n + 1) xs in (e.New n c v.0, v.1)
  value_start features n (bracket t) = value_expr features n t

  pub value_steps : List (List ℕ) → ℕ → Expr → StepsTree → Numbered Expr
  value_steps features n on stop = (on, n)
  value_steps features n on (get f ss) = value_steps features (n + 1) (e.Get n on f) ss
  value_steps features n on (call m xs ss) = let v = value_args features (n + 1) xs in value_steps features v.1 (e.Call n on m v.0) ss

  pub value_args : List (List ℕ) → ℕ → ArgsTree → Numbered (List Arg)
  value_args features n no_args = ([], n)
  value_args features n (first_arg ms t ts) =
      let v = value_expr features n t in value_more_args features v.1 (record { colors = colors_of features ms; expr = v.0 } ∷ []) ts

  -- and the arguments before it
  pub value_more_args : List (List ℕ) → ℕ → List Arg → MoreArgsTree → Numbered (List Arg)
  value_more_args features n done no_more = (done, n)
  value_more_args features n done (next_arg ms t ts) =
      let v = value_expr features n t in value_more_args features v.1 (done ++ record { colors = colors_of features ms; expr = v.0 } ∷ []) ts
