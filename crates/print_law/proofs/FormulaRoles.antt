-- The tree of a formula that a project keeps is within the limits.
use Rattle.std.proofs.Common.{◌≡◌, ℕ, ◌+◌, ◌<◌, ◌≤◌, max, Bool, true, false, nat_lt, if◌then◌else◌, List, [], ◌∷◌, length, get_or, refl, sym, ap, subst, ◌∙◌, arith}
use Rattle.std.specs.List.{list_all}
use Rattle.std.proofs.lemmas.Bool.{and_parts, ltb-true}
use Rattle.cfj_logic.specs.declared.formula.Formula.{Formula}
use Rattle.cfj_logic.specs.declared.formula.Formula.TheOpen.{Formula-F}
use Rattle.cfj_logic.specs.declared.formula.Formula.TheFolds.{fold-Formula}
use Rattle.cfj_words.specs.Names.{is_among, is_short_identifier}
use Rattle.cfj_logic.specs.Formulas.{is_over_step, is_over, FormulaNesting, operand_depth, formula_nesting_step, formula_nest, formula_node_count_step, formula_node_count}
use Rattle.cfj_model.specs.FormulaGrammar.{roles_iff, roles_implies, roles_or, roles_and, roles_unary, bracketed}
use Rattle.cfj_model.specs.ProductLines.{most_nest, most_formula_nodes}
use Rattle.cfj_model.specs.Roles.{Role, formula_name, formula_node, formula_opens, opens, other_token, Tally, AreWithin}
use Rattle.cfj_logic.proofs.FormulaCases.{Cases, by_cases, fold_true, fold_false, fold_feat, fold_not, fold_and, fold_or, fold_implies, fold_iff}
use Rattle.print_law.proofs.Features.{has_named}
use Rattle.print_law.proofs.FormulaTrees.{Shape, an_iff, an_implies, an_or, an_and, a_unary, to_iff, to_implies, to_or, to_and, to_unary, level_of, shape_step, shape, tree_of_formula, named_well}
use Rattle.print_law.proofs.Limits.{formula_name_ok, formula_node_ok, formula_opens_ok, opens_ok}

-- the features are met, and no mark
pub record IsReady (features : List (List ℕ)) (t : Tally) : Type 0 where
  pub met : t.features ≡ features
  pub marks : t.marks ≡ []

-- with more nodes of formulas
abbrev pub counting : Tally → ℕ → Tally
counting t n = record t { formula_nodes = t.formula_nodes + n }

-- roles that nest so deep and count so many nodes are within the limits, where there is room and what follows is
record Fits (features : List (List ℕ)) (roles : ℕ → List Role → List Role) (depth count : ℕ) : Type 0 where
  on : (t : Tally) (d : ℕ) (rest : List Role) → IsReady features t → d + depth ≤ most_nest → t.formula_nodes + count ≤ most_formula_nodes → AreWithin (counting t count) rest → AreWithin t (roles d rest)

same_count : (t : Tally) (n : ℕ) (rest : List Role) → n ≡ t.formula_nodes → AreWithin t rest → AreWithin (record t { formula_nodes = n }) rest
same_count t n rest e w = subst (λ m. AreWithin (record t { formula_nodes = m }) rest) (sym e) w

module _ (features : List (List ℕ)) where
  one_node : Fits features (λ d rest. formula_node ∷ rest) 0 1
  one_node = record { on = λ t d rest r deep few w. (formula_node_ok t (omega arith), w) }

  one_name : (w : List ℕ) → is_short_identifier w ≡ true → is_among features w ≡ true → Fits features (λ d rest. formula_name w ∷ rest) 0 1
  one_name n h f = record { on = λ t d rest r deep few w. (formula_name_ok t n h (ap (λ fs. is_among fs n) r.met ∙ f) (omega arith), w) }

  -- a connective between operands
  with_node : (a b : ℕ → List Role → List Role) (m n k l : ℕ) → Fits features a m k → Fits features b n l → Fits features (λ d rest. a d (formula_node ∷ b d rest)) (max m n) (k + (1 + l))
  with_node a b m n k l p q = record {
    on = λ t d rest r deep few w.
        let u : Tally = counting t (k + 1) in
        p.on t d (formula_node ∷ b d rest) r (omega arith) (omega arith) (
          formula_node_ok (counting t k) (omega arith),
          subst (λ x. AreWithin (record t { formula_nodes = x }) (b d rest)) (let e : t.formula_nodes + (k + 1) ≡ t.formula_nodes + k + 1 = omega arith in e)
              (q.on u d rest (record { met = r.met; marks = r.marks }) (omega arith) (omega arith) (same_count (counting t (k + (1 + l))) _ rest (omega arith) w)),
        );
  }

  -- an `->` is open to the end of its right side
  with_arrow : (a b : ℕ → List Role → List Role) (m n k l : ℕ) → Fits features a m k → Fits features b n l → Fits features (λ d rest. a d (formula_opens (d + 1) ∷ b (d + 1) rest)) (max m (1 + n)) (k + (1 + l))
  with_arrow a b m n k l p q = record {
    on = λ t d rest r deep few w.
        let u : Tally = counting t (k + 1) in
        p.on t d (formula_opens (d + 1) ∷ b (d + 1) rest) r (omega arith) (omega arith) (
          formula_opens_ok (counting t k) (d + 1) (omega arith) (omega arith),
          subst (λ x. AreWithin (record t { formula_nodes = x }) (b (d + 1) rest)) (let e : t.formula_nodes + (k + 1) ≡ t.formula_nodes + k + 1 = omega arith in e)
              (q.on u (d + 1) rest (record { met = r.met; marks = r.marks }) (omega arith) (omega arith) (same_count (counting t (k + (1 + l))) _ rest (omega arith) w)),
        );
  }

  with_bang : (b : ℕ → List Role → List Role) (n l : ℕ) → Fits features b n l → Fits features (λ d rest. formula_opens (d + 1) ∷ b (d + 1) rest) (1 + n) (1 + l)
  with_bang b n l q = record {
    on = λ t d rest r deep few w. (
      formula_opens_ok t (d + 1) (omega arith) (omega arith),
      q.on (counting t 1) (d + 1) rest (record { met = r.met; marks = r.marks }) (omega arith) (omega arith) (same_count (counting t (1 + l)) _ rest (omega arith) w),
    );
  }

  with_brackets : (b : ℕ → List Role → List Role) (n l : ℕ) → Fits features b n l → Fits features (λ d rest. opens (d + 1) ∷ b (d + 1) (other_token ∷ rest)) (1 + n) l
  with_brackets b n l q = record {
    on = λ t d rest r deep few w. (
      opens_ok t (d + 1) (omega arith),
      q.on (record t { marks = [] }) (d + 1) (other_token ∷ rest) (record { met = r.met; marks = refl }) (omega arith) few
          (refl, subst (λ ms. AreWithin (record t { marks = ms; formula_nodes = t.formula_nodes + l }) rest) r.marks w),
    );
  }

-- the nesting and the nodes are those of the tree, at its level
record IsNested (features : List (List ℕ)) (s : Shape) (n : FormulaNesting) (count : ℕ) : Type 0 where
  level : n.level ≡ level_of s
  fits : Fits features (λ d. roles_iff d (to_iff s)) n.depth count

module _ (features : List (List ℕ)) where
  bracket_if : (k count : ℕ) (n : FormulaNesting) (roles : ℕ → List Role → List Role) (b : Bool) → nat_lt n.level k ≡ b → Fits features roles (if b then 1 + n.depth else n.depth) count → Fits features roles (operand_depth k n) count
  bracket_if k count n roles b e h = subst (λ c. Fits features roles (if c then 1 + n.depth else n.depth) count) (sym e) h

  in_brackets : (s : Shape) (n : FormulaNesting) (count : ℕ) → IsNested features s n count → Fits features (λ d. roles_unary d (bracketed (to_iff s))) (1 + n.depth) count
  in_brackets s n count h = with_brackets features (λ d. roles_iff d (to_iff s)) n.depth count h.fits

  unary_fits : (s : Shape) (n : FormulaNesting) (count : ℕ) → IsNested features s n count → Fits features (λ d. roles_unary d (to_unary s)) (operand_depth 5 n) count
  unary_fits (an_iff u) n count h = bracket_if 5 count n _ true (ap (λ l. nat_lt l 5) h.level) (in_brackets (an_iff u) n count h)
  unary_fits (an_implies u) n count h = bracket_if 5 count n _ true (ap (λ l. nat_lt l 5) h.level) (in_brackets (an_implies u) n count h)
  unary_fits (an_or u) n count h = bracket_if 5 count n _ true (ap (λ l. nat_lt l 5) h.level) (in_brackets (an_or u) n count h)
  unary_fits (an_and u) n count h = bracket_if 5 count n _ true (ap (λ l. nat_lt l 5) h.level) (in_brackets (an_and u) n count h)
  unary_fits (a_unary u) n count h = bracket_if 5 count n _ false (ap (λ l. nat_lt l 5) h.level) h.fits

  and_fits : (s : Shape) (n : FormulaNesting) (count : ℕ) → IsNested features s n count → Fits features (λ d. roles_and d (to_and s)) (operand_depth 4 n) count
  and_fits (an_iff u) n count h = bracket_if 4 count n _ true (ap (λ l. nat_lt l 4) h.level) (in_brackets (an_iff u) n count h)
  and_fits (an_implies u) n count h = bracket_if 4 count n _ true (ap (λ l. nat_lt l 4) h.level) (in_brackets (an_implies u) n count h)
  and_fits (an_or u) n count h = bracket_if 4 count n _ true (ap (λ l. nat_lt l 4) h.level) (in_brackets (an_or u) n count h)
  and_fits (an_and u) n count h = bracket_if 4 count n _ false (ap (λ l. nat_lt l 4) h.level) h.fits
  and_fits (a_unary u) n count h = bracket_if 4 count n _ false (ap (λ l. nat_lt l 4) h.level) h.fits

  or_fits : (s : Shape) (n : FormulaNesting) (count : ℕ) → IsNested features s n count → Fits features (λ d. roles_or d (to_or s)) (operand_depth 3 n) count
  or_fits (an_iff u) n count h = bracket_if 3 count n _ true (ap (λ l. nat_lt l 3) h.level) (in_brackets (an_iff u) n count h)
  or_fits (an_implies u) n count h = bracket_if 3 count n _ true (ap (λ l. nat_lt l 3) h.level) (in_brackets (an_implies u) n count h)
  or_fits (an_or u) n count h = bracket_if 3 count n _ false (ap (λ l. nat_lt l 3) h.level) h.fits
  or_fits (an_and u) n count h = bracket_if 3 count n _ false (ap (λ l. nat_lt l 3) h.level) h.fits
  or_fits (a_unary u) n count h = bracket_if 3 count n _ false (ap (λ l. nat_lt l 3) h.level) h.fits

  implies_fits : (s : Shape) (n : FormulaNesting) (count : ℕ) → IsNested features s n count → Fits features (λ d. roles_implies d (to_implies s)) (operand_depth 2 n) count
  implies_fits (an_iff u) n count h = bracket_if 2 count n _ true (ap (λ l. nat_lt l 2) h.level) (in_brackets (an_iff u) n count h)
  implies_fits (an_implies u) n count h = bracket_if 2 count n _ false (ap (λ l. nat_lt l 2) h.level) h.fits
  implies_fits (an_or u) n count h = bracket_if 2 count n _ false (ap (λ l. nat_lt l 2) h.level) h.fits
  implies_fits (an_and u) n count h = bracket_if 2 count n _ false (ap (λ l. nat_lt l 2) h.level) h.fits
  implies_fits (a_unary u) n count h = bracket_if 2 count n _ false (ap (λ l. nat_lt l 2) h.level) h.fits

  iff_fits : (s : Shape) (n : FormulaNesting) (count : ℕ) → IsNested features s n count → Fits features (λ d. roles_iff d (to_iff s)) (operand_depth 1 n) count
  iff_fits (an_iff u) n count h = bracket_if 1 count n _ false (ap (λ l. nat_lt l 1) h.level) h.fits
  iff_fits (an_implies u) n count h = bracket_if 1 count n _ false (ap (λ l. nat_lt l 1) h.level) h.fits
  iff_fits (an_or u) n count h = bracket_if 1 count n _ false (ap (λ l. nat_lt l 1) h.level) h.fits
  iff_fits (an_and u) n count h = bracket_if 1 count n _ false (ap (λ l. nat_lt l 1) h.level) h.fits
  iff_fits (a_unary u) n count h = bracket_if 1 count n _ false (ap (λ l. nat_lt l 1) h.level) h.fits

-- a formula over the features
record Nested (features : List (List ℕ)) (x : Formula) : Type 0 where
  nested : is_over (length features) x ≡ true → IsNested features (shape features x) (fold-Formula FormulaNesting formula_nesting_step x) (formula_node_count x)

nested_as : (features : List (List ℕ)) (s u : Shape) (n m : FormulaNesting) (k l : ℕ) → s ≡ u → n ≡ m → k ≡ l → IsNested features u m l → IsNested features s n k
nested_as features s u n m k l e d c h = subst (λ v. IsNested features v n k) (sym e) (subst (λ z. IsNested features u z k) (sym d) (subst (IsNested features u m) (sym c) h))

module _ (features : List (List ℕ)) (well : list_all is_short_identifier features ≡ true) where
  abbrev shaped : Formula-F Shape → Shape
  shaped = shape_step features

  abbrev step : Formula-F FormulaNesting → FormulaNesting
  step = formula_nesting_step

  abbrev over : Formula-F Bool → Bool
  over = is_over_step (length features)

  nested_cases : Cases (Nested features)
  nested_cases = record {
    true_case = record { nested = λ h. nested_as features _ _ _ _ _ _ (fold_true Shape shaped) (fold_true FormulaNesting step) (fold_true ℕ formula_node_count_step) (record { level = refl; fits = one_node features }) };
    false_case = record { nested = λ h. nested_as features _ _ _ _ _ _ (fold_false Shape shaped) (fold_false FormulaNesting step) (fold_false ℕ formula_node_count_step) (record { level = refl; fits = one_node features }) };
    feat_case = λ n. record {
      nested = λ h.
          let lt : n < length features = ltb-true n (length features) (sym (fold_feat Bool over n) ∙ h) in
          nested_as features _ _ _ _ _ _ (fold_feat Shape shaped n) (fold_feat FormulaNesting step n) (fold_feat ℕ formula_node_count_step n)
          (record { level = refl; fits = one_name features (get_or features n []) (named_well features n well lt) (has_named features n lt) });
    };
    not_case = λ x p. record {
      nested = λ h.
          let a = p.nested (sym (fold_not Bool over x) ∙ h) in
          nested_as features _ _ _ _ _ _ (fold_not Shape shaped x) (fold_not FormulaNesting step x) (fold_not ℕ formula_node_count_step x)
          (record { level = refl; fits = with_bang features _ _ _ (unary_fits features _ _ _ a) });
    };
    and_case = λ x p y q. record {
      nested = λ h.
          let b = and_parts (is_over (length features) x) (is_over (length features) y) (sym (fold_and Bool over x y) ∙ h) in
          nested_as features _ _ _ _ _ _ (fold_and Shape shaped x y) (fold_and FormulaNesting step x y) (fold_and ℕ formula_node_count_step x y)
          (record { level = refl; fits = with_node features _ _ _ _ _ _ (and_fits features _ _ _ (p.nested b.0)) (unary_fits features _ _ _ (q.nested b.1)) });
    };
    or_case = λ x p y q. record {
      nested = λ h.
          let b = and_parts (is_over (length features) x) (is_over (length features) y) (sym (fold_or Bool over x y) ∙ h) in
          nested_as features _ _ _ _ _ _ (fold_or Shape shaped x y) (fold_or FormulaNesting step x y) (fold_or ℕ formula_node_count_step x y)
          (record { level = refl; fits = with_node features _ _ _ _ _ _ (or_fits features _ _ _ (p.nested b.0)) (and_fits features _ _ _ (q.nested b.1)) });
    };
    implies_case = λ x p y q. record {
      nested = λ h.
          let b = and_parts (is_over (length features) x) (is_over (length features) y) (sym (fold_implies Bool over x y) ∙ h) in
          nested_as features _ _ _ _ _ _ (fold_implies Shape shaped x y) (fold_implies FormulaNesting step x y) (fold_implies ℕ formula_node_count_step x y)
          (record { level = refl; fits = with_arrow features _ _ _ _ _ _ (or_fits features _ _ _ (p.nested b.0)) (implies_fits features _ _ _ (q.nested b.1)) });
    };
    iff_case = λ x p y q. record {
      nested = λ h.
          let b = and_parts (is_over (length features) x) (is_over (length features) y) (sym (fold_iff Bool over x y) ∙ h) in
          nested_as features _ _ _ _ _ _ (fold_iff Shape shaped x y) (fold_iff FormulaNesting step x y) (fold_iff ℕ formula_node_count_step x y)
          (record { level = refl; fits = with_node features _ _ _ _ _ _ (iff_fits features _ _ _ (p.nested b.0)) (implies_fits features _ _ _ (q.nested b.1)) });
    };
  }

  -- a formula that nests within the limit is within the limits, where there is room for its nodes
  pub formula_within : (x : Formula) (t : Tally) (rest : List Role) → is_over (length features) x ≡ true → formula_nest x ≤ most_nest → IsReady features t → t.formula_nodes + formula_node_count x ≤ most_formula_nodes
      → AreWithin (counting t (formula_node_count x)) rest → AreWithin t (roles_iff 0 (tree_of_formula features x) rest)
  formula_within x t rest h deep r few w = let n = (by_cases (Nested features) nested_cases x).nested h in n.fits.on t 0 rest r (omega arith) few w
