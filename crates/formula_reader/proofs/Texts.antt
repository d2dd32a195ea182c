-- What follows the text of a formula, or its roles, stands behind them.
use Rattle.std.proofs.Common.{◌≡◌, ℕ, ◌+◌, List, ◌∷◌, ◌++◌, refl, ◌∙◌, ap}
use Rattle.cfj_model.specs.FormulaGrammar.{IffTree, one_implies, iff, ImpliesTree, one_or, implies, OrTree, one_and, or, AndTree, one_unary, and, UnaryTree, negated, named, true_word, false_word, bracketed, spell_iff, spell_implies, spell_or, spell_and, spell_unary, roles_iff, roles_implies, roles_or, roles_and, roles_unary}
use Rattle.cfj_model.specs.Roles.{Role, formula_node, formula_opens, opens, other_token}
use Rattle.cfj_words.specs.Tokens.{Token, OpenParen, CloseParen, Bang, Ampersand, Bar, Arrow, DoubleArrow}

mutual
  pub spell_iff_append : (x : IffTree) (us rest : List Token) → spell_iff x us ++ rest ≡ spell_iff x (us ++ rest)
  spell_iff_append (one_implies x) us rest = spell_implies_append x us rest
  spell_iff_append (iff x y) us rest = spell_iff_append x (DoubleArrow ∷ spell_implies y us) rest ∙ ap (λ w. spell_iff x (DoubleArrow ∷ w)) (spell_implies_append y us rest)

  spell_implies_append : (x : ImpliesTree) (us rest : List Token) → spell_implies x us ++ rest ≡ spell_implies x (us ++ rest)
  spell_implies_append (one_or x) us rest = spell_or_append x us rest
  spell_implies_append (implies x y) us rest = spell_or_append x (Arrow ∷ spell_implies y us) rest ∙ ap (λ w. spell_or x (Arrow ∷ w)) (spell_implies_append y us rest)

  spell_or_append : (x : OrTree) (us rest : List Token) → spell_or x us ++ rest ≡ spell_or x (us ++ rest)
  spell_or_append (one_and x) us rest = spell_and_append x us rest
  spell_or_append (or x y) us rest = spell_or_append x (Bar ∷ spell_and y us) rest ∙ ap (λ w. spell_or x (Bar ∷ w)) (spell_and_append y us rest)

  spell_and_append : (x : AndTree) (us rest : List Token) → spell_and x us ++ rest ≡ spell_and x (us ++ rest)
  spell_and_append (one_unary x) us rest = spell_unary_append x us rest
  spell_and_append (and x y) us rest = spell_and_append x (Ampersand ∷ spell_unary y us) rest ∙ ap (λ w. spell_and x (Ampersand ∷ w)) (spell_unary_append y us rest)

  spell_unary_append : (x : UnaryTree) (us rest : List Token) → spell_unary x us ++ rest ≡ spell_unary x (us ++ rest)
  spell_unary_append (negated x) us rest = ap (λ w. Bang ∷ w) (spell_unary_append x us rest)
  spell_unary_append (named w) us rest = refl
  spell_unary_append true_word us rest = refl
  spell_unary_append false_word us rest = refl
  spell_unary_append (bracketed x) us rest = ap (λ w. OpenParen ∷ w) (spell_iff_append x (CloseParen ∷ us) rest)

mutual
  pub roles_iff_append : (d : ℕ) (x : IffTree) (us rest : List Role) → roles_iff d x us ++ rest ≡ roles_iff d x (us ++ rest)
  roles_iff_append d (one_implies x) us rest = roles_implies_append d x us rest
  roles_iff_append d (iff x y) us rest = roles_iff_append d x (formula_node ∷ roles_implies d y us) rest ∙ ap (λ w. roles_iff d x (formula_node ∷ w)) (roles_implies_append d y us rest)

  roles_implies_append : (d : ℕ) (x : ImpliesTree) (us rest : List Role) → roles_implies d x us ++ rest ≡ roles_implies d x (us ++ rest)
  roles_implies_append d (one_or x) us rest = roles_or_append d x us rest
  roles_implies_append d (implies x y) us rest = roles_or_append d x (formula_opens (d + 1) ∷ roles_implies (d + 1) y us) rest ∙ ap (λ w. roles_or d x (formula_opens (d + 1) ∷ w)) (roles_implies_append (d + 1) y us rest)

  roles_or_append : (d : ℕ) (x : OrTree) (us rest : List Role) → roles_or d x us ++ rest ≡ roles_or d x (us ++ rest)
  roles_or_append d (one_and x) us rest = roles_and_append d x us rest
  roles_or_append d (or x y) us rest = roles_or_append d x (formula_node ∷ roles_and d y us) rest ∙ ap (λ w. roles_or d x (formula_node ∷ w)) (roles_and_append d y us rest)

  roles_and_append : (d : ℕ) (x : AndTree) (us rest : List Role) → roles_and d x us ++ rest ≡ roles_and d x (us ++ rest)
  roles_and_append d (one_unary x) us rest = roles_unary_append d x us rest
  roles_and_append d (and x y) us rest = roles_and_append d x (formula_node ∷ roles_unary d y us) rest ∙ ap (λ w. roles_and d x (formula_node ∷ w)) (roles_unary_append d y us rest)

  roles_unary_append : (d : ℕ) (x : UnaryTree) (us rest : List Role) → roles_unary d x us ++ rest ≡ roles_unary d x (us ++ rest)
  roles_unary_append d (negated x) us rest = ap (λ w. formula_opens (d + 1) ∷ w) (roles_unary_append (d + 1) x us rest)
  roles_unary_append d (named w) us rest = refl
  roles_unary_append d true_word us rest = refl
  roles_unary_append d false_word us rest = refl
  roles_unary_append d (bracketed x) us rest = ap (λ w. opens (d + 1) ∷ w) (roles_iff_append (d + 1) x (other_token ∷ us) rest)
