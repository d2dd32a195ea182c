-- What a formula's tree stands for: a formula over the features, with as many nodes as its roles count.
use Rattle.std.proofs.Common.{◌≡◌, ℕ, ◌+◌, ◌<◌, Bool, true, List, [], ◌∷◌, length, Option, Some, None, refl, sym, ◌∙◌, ap, subst, arith, position}
use Rattle.std.proofs.lemmas.Bool.{and_from, lt-ltb}
use Rattle.std.proofs.lemmas.List.Quantifiers.{position-Some}
use Rattle.std.specs.Str.{bytes_eq}
use Rattle.cfj_logic.specs.Formulas.{is_over_step, is_over, formula_node_count_step, formula_node_count}
use Rattle.cfj_model.specs.FormulaGrammar.{IffTree, one_implies, iff, ImpliesTree, one_or, implies, OrTree, one_and, or, AndTree, one_unary, and, UnaryTree, negated, named, true_word, false_word, bracketed, roles_iff, roles_implies, roles_or, roles_and, roles_unary, feature_at, feature_named, value_iff, value_implies, value_or, value_and, value_unary}
use Rattle.cfj_model.specs.Roles.{Role, formula_name, formula_node, formula_opens, other_token, Tally, counted, tallied}
use Rattle.cfj_logic.proofs.FormulaCases.{fold_true, fold_false, fold_feat, fold_not, fold_and, fold_or, fold_implies, fold_iff}

-- ---- over the features

-- a feature's number is below that of all
place_over : (n : ℕ) (o : Option ℕ) → ((i : ℕ) → o ≡ Some i → i < n) → is_over n (feature_at o) ≡ true
place_over n None h = fold_false Bool (is_over_step n)
place_over n (Some i) h = fold_feat Bool (is_over_step n) i ∙ lt-ltb i n (h i refl)

name_over : (features : List (List ℕ)) (w : List ℕ) → is_over (length features) (feature_named features w) ≡ true
name_over features w = place_over (length features) (position (λ g. bytes_eq g w) features) (λ i e. (position-Some (λ g. bytes_eq g w) features i [] e).0)

module _ (features : List (List ℕ)) where
  mutual
    pub iff_over : (x : IffTree) → is_over (length features) (value_iff features x) ≡ true
    iff_over (one_implies x) = implies_over x
    iff_over (iff x y) = fold_iff Bool (is_over_step (length features)) (value_iff features x) (value_implies features y) ∙ and_from _ _ (iff_over x) (implies_over y)

    implies_over : (x : ImpliesTree) → is_over (length features) (value_implies features x) ≡ true
    implies_over (one_or x) = or_over x
    implies_over (implies x y) = fold_implies Bool (is_over_step (length features)) (value_or features x) (value_implies features y) ∙ and_from _ _ (or_over x) (implies_over y)

    or_over : (x : OrTree) → is_over (length features) (value_or features x) ≡ true
    or_over (one_and x) = and_over x
    or_over (or x y) = fold_or Bool (is_over_step (length features)) (value_or features x) (value_and features y) ∙ and_from _ _ (or_over x) (and_over y)

    and_over : (x : AndTree) → is_over (length features) (value_and features x) ≡ true
    and_over (one_unary x) = unary_over x
    and_over (and x y) = fold_and Bool (is_over_step (length features)) (value_and features x) (value_unary features y) ∙ and_from _ _ (and_over x) (unary_over y)

    unary_over : (x : UnaryTree) → is_over (length features) (value_unary features x) ≡ true
    unary_over (negated x) = fold_not Bool (is_over_step (length features)) (value_unary features x) ∙ unary_over x
    unary_over (named w) = name_over features w
    unary_over true_word = fold_true Bool (is_over_step (length features))
    unary_over false_word = fold_false Bool (is_over_step (length features))
    unary_over (bracketed x) = iff_over x

-- ---- nodes

-- more nodes of formulas, and other marks
abbrev pub with_formula : Tally → List (List ℕ) → ℕ → Tally
with_formula t marks n = record t { marks = marks; formula_nodes = t.formula_nodes + n }

-- These roles add so many nodes of formulas to a tally, and no more than marks are changed.
pub record Adds (t : Tally) (n : ℕ) (roles rest : List Role) : Type 0 where
  pub marks : List (List ℕ)
  pub is : tallied t roles ≡ tallied (with_formula t marks n) rest

-- the number of nodes may be written in another way
adds_as : (t : Tally) (m n : ℕ) (roles rest : List Role) → m ≡ n → Adds t m roles rest → Adds t n roles rest
adds_as t m n roles rest e a = subst (λ k. Adds t k roles rest) e a

-- a token that is one node
adds_one : (t : Tally) (n : ℕ) (rest : List Role) → n ≡ 1 → Adds t n (formula_node ∷ rest) rest
adds_one t n rest e = adds_as t 1 n (formula_node ∷ rest) rest (sym e) (record { marks = t.marks; is = refl })

-- so many nodes, then one, then so many
adds_both : (t : Tally) (m n k : ℕ) (roles more rest : List Role) (r : Role) → ((u : Tally) → counted u r ≡ with_formula u u.marks 1) → k ≡ m + (1 + n) → Adds t m roles (r ∷ more) → ((u : Tally) → Adds u n more rest) → Adds t k roles rest
adds_both t m n k roles more rest r one e a b =
    let u : Tally = with_formula t a.marks m in
    let v : Tally = with_formula u a.marks 1 in
    let c : Adds v n more rest = b v in
    let sum : v.formula_nodes + n ≡ t.formula_nodes + k = omega (arith, e) in
    record {
      marks = c.marks;
      is = a.is ∙ ap (λ x. tallied x more) (one u) ∙ c.is ∙ ap (λ x. tallied (record t { marks = c.marks; formula_nodes = x }) rest) sum;
    }

-- one node before so many
adds_behind : (t : Tally) (n k : ℕ) (more rest : List Role) (r : Role) → ((u : Tally) → counted u r ≡ with_formula u u.marks 1) → k ≡ 1 + n → ((u : Tally) → Adds u n more rest) → Adds t k (r ∷ more) rest
adds_behind t n k more rest r one e b =
    let v : Tally = with_formula t t.marks 1 in
    let c : Adds v n more rest = b v in
    let sum : v.formula_nodes + n ≡ t.formula_nodes + k = omega (arith, e) in
    record { marks = c.marks; is = ap (λ x. tallied x more) (one t) ∙ c.is ∙ ap (λ x. tallied (record t { marks = c.marks; formula_nodes = x }) rest) sum }

name_count : (o : Option ℕ) → formula_node_count (feature_at o) ≡ 1
name_count None = fold_false ℕ formula_node_count_step
name_count (Some i) = fold_feat ℕ formula_node_count_step i

module _ (features : List (List ℕ)) where
  mutual
    pub iff_adds : (t : Tally) (d : ℕ) (x : IffTree) (rest : List Role) → Adds t (formula_node_count (value_iff features x)) (roles_iff d x rest) rest
    iff_adds t d (one_implies x) rest = implies_adds t d x rest
    iff_adds t d (iff x y) rest =
        adds_both t (formula_node_count (value_iff features x)) (formula_node_count (value_implies features y)) _ (roles_iff d (iff x y) rest) (roles_implies d y rest) rest formula_node (λ u. refl)
        (fold_iff ℕ formula_node_count_step (value_iff features x) (value_implies features y)) (iff_adds t d x (formula_node ∷ roles_implies d y rest)) (λ u. implies_adds u d y rest)

    implies_adds : (t : Tally) (d : ℕ) (x : ImpliesTree) (rest : List Role) → Adds t (formula_node_count (value_implies features x)) (roles_implies d x rest) rest
    implies_adds t d (one_or x) rest = or_adds t d x rest
    implies_adds t d (implies x y) rest =
        adds_both t (formula_node_count (value_or features x)) (formula_node_count (value_implies features y)) _ (roles_implies d (implies x y) rest) (roles_implies (d + 1) y rest) rest (formula_opens (d + 1)) (λ u. refl)
        (fold_implies ℕ formula_node_count_step (value_or features x) (value_implies features y)) (or_adds t d x (formula_opens (d + 1) ∷ roles_implies (d + 1) y rest)) (λ u. implies_adds u (d + 1) y rest)

    or_adds : (t : Tally) (d : ℕ) (x : OrTree) (rest : List Role) → Adds t (formula_node_count (value_or features x)) (roles_or d x rest) rest
    or_adds t d (one_and x) rest = and_adds t d x rest
    or_adds t d (or x y) rest =
        adds_both t (formula_node_count (value_or features x)) (formula_node_count (value_and features y)) _ (roles_or d (or x y) rest) (roles_and d y rest) rest formula_node (λ u. refl)
        (fold_or ℕ formula_node_count_step (value_or features x) (value_and features y)) (or_adds t d x (formula_node ∷ roles_and d y rest)) (λ u. and_adds u d y rest)

    and_adds : (t : Tally) (d : ℕ) (x : AndTree) (rest : List Role) → Adds t (formula_node_count (value_and features x)) (roles_and d x rest) rest
    and_adds t d (one_unary x) rest = unary_adds t d x rest
    and_adds t d (and x y) rest =
        adds_both t (formula_node_count (value_and features x)) (formula_node_count (value_unary features y)) _ (roles_and d (and x y) rest) (roles_unary d y rest) rest formula_node (λ u. refl)
        (fold_and ℕ formula_node_count_step (value_and features x) (value_unary features y)) (and_adds t d x (formula_node ∷ roles_unary d y rest)) (λ u. unary_adds u d y rest)

    unary_adds : (t : Tally) (d : ℕ) (x : UnaryTree) (rest : List Role) → Adds t (formula_node_count (value_unary features x)) (roles_unary d x rest) rest
    unary_adds t d (negated x) rest =
        adds_behind t (formula_node_count (value_unary features x)) _ (roles_unary (d + 1) x rest) rest (formula_opens (d + 1)) (λ u. refl)
        (fold_not ℕ formula_node_count_step (value_unary features x)) (λ u. unary_adds u (d + 1) x rest)
    unary_adds t d (named w) rest = adds_as t 1 _ (formula_name w ∷ rest) rest (sym (name_count (position (λ g. bytes_eq g w) features))) (record { marks = t.marks; is = refl })
    unary_adds t d true_word rest = adds_one t _ rest (fold_true ℕ formula_node_count_step)
    unary_adds t d false_word rest = adds_one t _ rest (fold_false ℕ formula_node_count_step)
    unary_adds t d (bracketed x) rest = let a = iff_adds (record t { marks = [] }) (d + 1) x (other_token ∷ rest) in record { marks = a.marks; is = a.is }

  -- the nodes of a formula are counted
  pub nodes_added : (t : Tally) (d : ℕ) (x : IffTree) → (tallied t (roles_iff d x [])).formula_nodes ≡ t.formula_nodes + formula_node_count (value_iff features x)
  nodes_added t d x = let a = iff_adds t d x [] in ap (λ (u : Tally). u.formula_nodes) a.is
