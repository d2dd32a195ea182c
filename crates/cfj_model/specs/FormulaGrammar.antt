-- The grammar of formulas: a type for each level, from the loosest connective to the tightest, with what a tree spells, the
-- roles of its tokens and the formula that it stands for.
use Rattle.std.specs.Prelude.{ℕ, ◌+◌, List, ◌∷◌, position, Option, Some, None}
use Rattle.std.specs.Str.{bytes_eq}
use Rattle.cfj_logic.specs.declared.formula.Formula.{Formula}
use Rattle.cfj_logic.specs.declared.formula.Formula.TheVariants as f
use Rattle.cfj_words.specs.Tokens.{Token, Id, TrueWord, FalseWord, OpenParen, CloseParen, Bang, Ampersand, Bar, Arrow, DoubleArrow}
use Rattle.cfj_model.specs.Roles.{Role, formula_name, formula_node, formula_opens, opens, other_token}

mutual
  -- iff: imp {"<->" imp}, to the left
  pub data IffTree : Type 0 where
    one_implies : ImpliesTree → IffTree
    iff : IffTree → ImpliesTree → IffTree

  -- imp: or ["->" imp]
  pub data ImpliesTree : Type 0 where
    one_or : OrTree → ImpliesTree
    implies : OrTree → ImpliesTree → ImpliesTree

  -- or: and {"|" and}, to the left
  pub data OrTree : Type 0 where
    one_and : AndTree → OrTree
    or : OrTree → AndTree → OrTree

  -- and: unary {"&" unary}, to the left
  pub data AndTree : Type 0 where
    one_unary : UnaryTree → AndTree
    and : AndTree → UnaryTree → AndTree

  -- unary: "!" unary, id, "true", "false", or "(" iff ")"
  pub data UnaryTree : Type 0 where
    negated : UnaryTree → UnaryTree
    named : List ℕ → UnaryTree
    true_word : UnaryTree
    false_word : UnaryTree
    bracketed : IffTree → UnaryTree

-- the tokens of a tree, and what follows
abbrev mutual
  pub spell_iff : IffTree → List Token → List Token
  spell_iff (one_implies x) rest = spell_implies x rest
  spell_iff (iff x y) rest = spell_iff x (DoubleArrow ∷ spell_implies y rest)

  pub spell_implies : ImpliesTree → List Token → List Token
  spell_implies (one_or x) rest = spell_or x rest
  spell_implies (implies x y) rest = spell_or x (Arrow ∷ spell_implies y rest)

  pub spell_or : OrTree → List Token → List Token
  spell_or (one_and x) rest = spell_and x rest
  spell_or (or x y) rest = spell_or x (Bar ∷ spell_and y rest)

  pub spell_and : AndTree → List Token → List Token
  spell_and (one_unary x) rest = spell_unary x rest
  spell_and (and x y) rest = spell_and x (Ampersand ∷ spell_unary y rest)

  pub spell_unary : UnaryTree → List Token → List Token
  spell_unary (negated x) rest = Bang ∷ spell_unary x rest
  spell_unary (named w) rest = Id w ∷ rest
  spell_unary true_word rest = TrueWord ∷ rest
  spell_unary false_word rest = FalseWord ∷ rest
  spell_unary (bracketed x) rest = OpenParen ∷ spell_iff x (CloseParen ∷ rest)

-- The roles of its tokens inside so many open brackets, `!` and `->`, and those that follow. An `!` is open to the end of its
-- operand, and an `->` to the end of its right side.
abbrev mutual
  pub roles_iff : ℕ → IffTree → List Role → List Role
  roles_iff d (one_implies x) rest = roles_implies d x rest
  roles_iff d (iff x y) rest = roles_iff d x (formula_node ∷ roles_implies d y rest)

  pub roles_implies : ℕ → ImpliesTree → List Role → List Role
  roles_implies d (one_or x) rest = roles_or d x rest
  roles_implies d (implies x y) rest = roles_or d x (formula_opens (d + 1) ∷ roles_implies (d + 1) y rest)

  pub roles_or : ℕ → OrTree → List Role → List Role
  roles_or d (one_and x) rest = roles_and d x rest
  roles_or d (or x y) rest = roles_or d x (formula_node ∷ roles_and d y rest)

  pub roles_and : ℕ → AndTree → List Role → List Role
  roles_and d (one_unary x) rest = roles_unary d x rest
  roles_and d (and x y) rest = roles_and d x (formula_node ∷ roles_unary d y rest)

  pub roles_unary : ℕ → UnaryTree → List Role → List Role
  roles_unary d (negated x) rest = formula_opens (d + 1) ∷ roles_unary (d + 1) x rest
  roles_unary d (named w) rest = formula_name w ∷ rest
  roles_unary d true_word rest = formula_node ∷ rest
  roles_unary d false_word rest = formula_node ∷ rest
  roles_unary d (bracketed x) rest = opens (d + 1) ∷ roles_iff (d + 1) x (other_token ∷ rest)

-- a feature by its number; a name that isn't a feature stands for nothing, and for it any formula will do
abbrev pub feature_at : Option ℕ → Formula
feature_at None = f.False
feature_at (Some feature) = f.Feat feature

abbrev pub feature_named : List (List ℕ) → List ℕ → Formula
feature_named features w = feature_at (position (λ g. bytes_eq g w) features)

-- the formula that a tree stands for, over these features; brackets aren't kept
abbrev mutual
  pub value_iff : List (List ℕ) → IffTree → Formula
  value_iff features (one_implies x) = value_implies features x
  value_iff features (iff x y) = f.Iff (value_iff features x) (value_implies features y)

  pub value_implies : List (List ℕ) → ImpliesTree → Formula
  value_implies features (one_or x) = value_or features x
  value_implies features (implies x y) = f.Implies (value_or features x) (value_implies features y)

  pub value_or : List (List ℕ) → OrTree → Formula
  value_or features (one_and x) = value_and features x
  value_or features (or x y) = f.Or (value_or features x) (value_and features y)

  pub value_and : List (List ℕ) → AndTree → Formula
  value_and features (one_unary x) = value_unary features x
  value_and features (and x y) = f.And (value_and features x) (value_unary features y)

  pub value_unary : List (List ℕ) → UnaryTree → Formula
  value_unary features (negated x) = f.Not (value_unary features x)
  value_unary features (named w) = feature_named features w
  value_unary features true_word = f.True
  value_unary features false_word = f.False
  value_unary features (bracketed x) = value_iff features x
