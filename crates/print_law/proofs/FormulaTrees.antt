-- Each formula's tree with the fewest brackets: it stands for the formula, and the formula's text gives its tokens.
use Rattle.std.proofs.Common.{◌≡◌, ℕ, ◌<◌, Bool, true, false, ◌&&◌, nat_lt, nat_le, codes, if◌then◌else◌, List, [], ◌∷◌, ◌++◌, length, get_or, refl, sym, ap, subst, ◌∙◌, true≢false}
use Rattle.std.specs.List.{list_all}
use Rattle.std.proofs.lemmas.Bool.{and_parts, ltb-true}
use Rattle.std.proofs.lemmas.List.Folds.{list_all_at}
use Rattle.cfj_logic.specs.declared.formula.Formula.{Formula}
use Rattle.cfj_logic.specs.declared.formula.Formula.TheOpen.{Formula-F}
use Rattle.cfj_logic.specs.declared.formula.Formula.TheVariants as f
use Rattle.cfj_logic.specs.declared.formula.Formula.TheFolds.{fold-Formula}
use Rattle.cfj_words.specs.Names.{is_identifier, is_short_identifier, most_name_bytes}
use Rattle.cfj_logic.specs.Formulas.{is_over_step, is_over}
use Rattle.cfj_model.specs.FormulaGrammar.{IffTree, one_implies, iff, ImpliesTree, one_or, implies, OrTree, one_and, or, AndTree, one_unary, and, UnaryTree, negated, named, true_word, false_word, bracketed, spell_iff, spell_implies, spell_or, spell_and, spell_unary, feature_at, value_iff, value_implies, value_or, value_and, value_unary}
use Rattle.cfj_model.specs.Print.{ShownFormula, operand_text, shown_formula_step, formula_text}
use Rattle.cfj_model.specs.ProductLines.{are_distinct}
use Rattle.cfj_words.specs.Tokens.{Token}
use Rattle.cfj_logic.proofs.FormulaCases.{Cases, by_cases, fold_true, fold_false, fold_feat, fold_not, fold_and, fold_or, fold_implies, fold_iff}
use Rattle.print_law.proofs.Features.{named_again}
use Rattle.print_law.proofs.Lexing.{Reads, both, asks_less, wants_more, identifier, blank, open_paren, close_paren, bang, ampersand, bar, arrow, double_arrow, true_reads, false_reads}

-- a tree at the level of its connective
pub data Shape : Type 0 where
  an_iff : IffTree → Shape
  an_implies : ImpliesTree → Shape
  an_or : OrTree → Shape
  an_and : AndTree → Shape
  a_unary : UnaryTree → Shape

abbrev pub to_iff : Shape → IffTree
to_iff (an_iff x) = x
to_iff (an_implies x) = one_implies x
to_iff (an_or x) = one_implies (one_or x)
to_iff (an_and x) = one_implies (one_or (one_and x))
to_iff (a_unary x) = one_implies (one_or (one_and (one_unary x)))

-- as an operand of each level, in brackets where it holds less tightly
abbrev pub to_unary : Shape → UnaryTree
to_unary (a_unary x) = x
to_unary s = bracketed (to_iff s)

abbrev pub to_and : Shape → AndTree
to_and (an_and x) = x
to_and s = one_unary (to_unary s)

abbrev pub to_or : Shape → OrTree
to_or (an_or x) = x
to_or s = one_and (to_and s)

abbrev pub to_implies : Shape → ImpliesTree
to_implies (an_implies x) = x
to_implies s = one_or (to_or s)

abbrev pub level_of : Shape → ℕ
level_of (an_iff x) = 1
level_of (an_implies x) = 2
level_of (an_or x) = 3
level_of (an_and x) = 4
level_of (a_unary x) = 5

abbrev pub shape_step : List (List ℕ) → Formula-F Shape → Shape
shape_step features Formula-F.True = a_unary true_word
shape_step features Formula-F.False = a_unary false_word
shape_step features (Formula-F.Feat i) = a_unary (named (get_or features i []))
shape_step features (Formula-F.Not x) = a_unary (negated (to_unary x))
shape_step features (Formula-F.And x y) = an_and (and (to_and x) (to_unary y))
shape_step features (Formula-F.Or x y) = an_or (or (to_or x) (to_and y))
shape_step features (Formula-F.Implies x y) = an_implies (implies (to_or x) (to_implies y))
shape_step features (Formula-F.Iff x y) = an_iff (iff (to_iff x) (to_implies y))

abbrev pub shape : List (List ℕ) → Formula → Shape
shape features = fold-Formula Shape (shape_step features)

-- the tree of a formula
abbrev pub tree_of_formula : List (List ℕ) → Formula → IffTree
tree_of_formula features x = to_iff (shape features x)

-- ---- the value

module _ (features : List (List ℕ)) where
  unary_value : (s : Shape) → value_unary features (to_unary s) ≡ value_iff features (to_iff s)
  unary_value (an_iff x) = refl
  unary_value (an_implies x) = refl
  unary_value (an_or x) = refl
  unary_value (an_and x) = refl
  unary_value (a_unary x) = refl

  and_value : (s : Shape) → value_and features (to_and s) ≡ value_iff features (to_iff s)
  and_value (an_iff x) = refl
  and_value (an_implies x) = refl
  and_value (an_or x) = refl
  and_value (an_and x) = refl
  and_value (a_unary x) = refl

  or_value : (s : Shape) → value_or features (to_or s) ≡ value_iff features (to_iff s)
  or_value (an_iff x) = refl
  or_value (an_implies x) = refl
  or_value (an_or x) = refl
  or_value (an_and x) = refl
  or_value (a_unary x) = refl

  implies_value : (s : Shape) → value_implies features (to_implies s) ≡ value_iff features (to_iff s)
  implies_value (an_iff x) = refl
  implies_value (an_implies x) = refl
  implies_value (an_or x) = refl
  implies_value (an_and x) = refl
  implies_value (a_unary x) = refl

-- the tree of a formula over the features stands for it
record Again (features : List (List ℕ)) (x : Formula) : Type 0 where
  again : is_over (length features) x ≡ true → value_iff features (tree_of_formula features x) ≡ x

module _ (features : List (List ℕ)) (distinct : are_distinct features ≡ true) where
  over_step : Formula-F Bool → Bool
  over_step = is_over_step (length features)

  abbrev step : Formula-F Shape → Shape
  step = shape_step features

  abbrev value : Shape → Formula
  value s = value_iff features (to_iff s)

  two : (join : Formula → Formula → Formula) (x y : Formula) → Again features x → Again features y → (is_over (length features) x && is_over (length features) y) ≡ true → join (value (shape features x)) (value (shape features y)) ≡ join x y
  two join x y p q h =
      let b = and_parts (is_over (length features) x) (is_over (length features) y) h in
      ap (λ u. join u (value (shape features y))) (p.again b.0) ∙ ap (join x) (q.again b.1)

  again_cases : Cases (Again features)
  again_cases = record {
    true_case = record { again = λ h. ap value (fold_true Shape step) };
    false_case = record { again = λ h. ap value (fold_false Shape step) };
    feat_case = λ n. record { again = λ h. ap value (fold_feat Shape step n) ∙ ap feature_at (named_again features n distinct (ltb-true n (length features) (sym (fold_feat Bool (is_over_step (length features)) n) ∙ h))) };
    not_case = λ x p. record { again = λ h. ap value (fold_not Shape step x) ∙ ap f.Not (unary_value features (shape features x) ∙ p.again (sym (fold_not Bool (is_over_step (length features)) x) ∙ h)) };
    and_case = λ x p y q. record {
      again = λ h. ap value (fold_and Shape step x y)
          ∙ ap (λ u. f.And u (value_unary features (to_unary (shape features y)))) (and_value features (shape features x))
          ∙ ap (f.And (value (shape features x))) (unary_value features (shape features y))
          ∙ two f.And x y p q (sym (fold_and Bool (is_over_step (length features)) x y) ∙ h);
    };
    or_case = λ x p y q. record {
      again = λ h. ap value (fold_or Shape step x y)
          ∙ ap (λ u. f.Or u (value_and features (to_and (shape features y)))) (or_value features (shape features x))
          ∙ ap (f.Or (value (shape features x))) (and_value features (shape features y))
          ∙ two f.Or x y p q (sym (fold_or Bool (is_over_step (length features)) x y) ∙ h);
    };
    implies_case = λ x p y q. record {
      again = λ h. ap value (fold_implies Shape step x y)
          ∙ ap (λ u. f.Implies u (value_implies features (to_implies (shape features y)))) (or_value features (shape features x))
          ∙ ap (f.Implies (value (shape features x))) (implies_value features (shape features y))
          ∙ two f.Implies x y p q (sym (fold_implies Bool (is_over_step (length features)) x y) ∙ h);
    };
    iff_case = λ x p y q. record {
      again = λ h. ap value (fold_iff Shape step x y)
          ∙ ap (f.Iff (value (shape features x))) (implies_value features (shape features y))
          ∙ two f.Iff x y p q (sym (fold_iff Bool (is_over_step (length features)) x y) ∙ h);
    };
  }

  pub formula_again : (x : Formula) → is_over (length features) x ≡ true → value_iff features (tree_of_formula features x) ≡ x
  formula_again x = (by_cases (Again features) again_cases x).again

-- ---- the text

-- what is shown is the text of the tree, at its level
record IsShown (s : Shape) (x : ShownFormula) : Type 0 where
  level : x.level ≡ level_of s
  reads : Reads false true x.text (spell_iff (to_iff s))

in_brackets : (x : ShownFormula) (s : Shape) → Reads false true x.text (spell_iff (to_iff s)) → Reads false true (codes "(" ++ (x.text ++ codes ")")) (spell_unary (bracketed (to_iff s)))
in_brackets x s r = both open_paren (both r (wants_more close_paren))

bracket_if : (k : ℕ) (x : ShownFormula) (spell : List Token → List Token) (b : Bool) → nat_lt x.level k ≡ b → Reads false true (if b then codes "(" ++ (x.text ++ codes ")") else x.text) spell → Reads false true (operand_text k x) spell
bracket_if k x spell b e r = subst (λ c. Reads false true (if c then codes "(" ++ (x.text ++ codes ")") else x.text) spell) (sym e) r

unary_reads : (s : Shape) (x : ShownFormula) → IsShown s x → Reads false true (operand_text 5 x) (spell_unary (to_unary s))
unary_reads (an_iff u) x h = bracket_if 5 x _ true (ap (λ n. nat_lt n 5) h.level) (in_brackets x (an_iff u) h.reads)
unary_reads (an_implies u) x h = bracket_if 5 x _ true (ap (λ n. nat_lt n 5) h.level) (in_brackets x (an_implies u) h.reads)
unary_reads (an_or u) x h = bracket_if 5 x _ true (ap (λ n. nat_lt n 5) h.level) (in_brackets x (an_or u) h.reads)
unary_reads (an_and u) x h = bracket_if 5 x _ true (ap (λ n. nat_lt n 5) h.level) (in_brackets x (an_and u) h.reads)
unary_reads (a_unary u) x h = bracket_if 5 x _ false (ap (λ n. nat_lt n 5) h.level) h.reads

and_reads : (s : Shape) (x : ShownFormula) → IsShown s x → Reads false true (operand_text 4 x) (spell_and (to_and s))
and_reads (an_iff u) x h = bracket_if 4 x _ true (ap (λ n. nat_lt n 4) h.level) (in_brackets x (an_iff u) h.reads)
and_reads (an_implies u) x h = bracket_if 4 x _ true (ap (λ n. nat_lt n 4) h.level) (in_brackets x (an_implies u) h.reads)
and_reads (an_or u) x h = bracket_if 4 x _ true (ap (λ n. nat_lt n 4) h.level) (in_brackets x (an_or u) h.reads)
and_reads (an_and u) x h = bracket_if 4 x _ false (ap (λ n. nat_lt n 4) h.level) h.reads
and_reads (a_unary u) x h = bracket_if 4 x _ false (ap (λ n. nat_lt n 4) h.level) h.reads

or_reads : (s : Shape) (x : ShownFormula) → IsShown s x → Reads false true (operand_text 3 x) (spell_or (to_or s))
or_reads (an_iff u) x h = bracket_if 3 x _ true (ap (λ n. nat_lt n 3) h.level) (in_brackets x (an_iff u) h.reads)
or_reads (an_implies u) x h = bracket_if 3 x _ true (ap (λ n. nat_lt n 3) h.level) (in_brackets x (an_implies u) h.reads)
or_reads (an_or u) x h = bracket_if 3 x _ false (ap (λ n. nat_lt n 3) h.level) h.reads
or_reads (an_and u) x h = bracket_if 3 x _ false (ap (λ n. nat_lt n 3) h.level) h.reads
or_reads (a_unary u) x h = bracket_if 3 x _ false (ap (λ n. nat_lt n 3) h.level) h.reads

implies_reads : (s : Shape) (x : ShownFormula) → IsShown s x → Reads false true (operand_text 2 x) (spell_implies (to_implies s))
implies_reads (an_iff u) x h = bracket_if 2 x _ true (ap (λ n. nat_lt n 2) h.level) (in_brackets x (an_iff u) h.reads)
implies_reads (an_implies u) x h = bracket_if 2 x _ false (ap (λ n. nat_lt n 2) h.level) h.reads
implies_reads (an_or u) x h = bracket_if 2 x _ false (ap (λ n. nat_lt n 2) h.level) h.reads
implies_reads (an_and u) x h = bracket_if 2 x _ false (ap (λ n. nat_lt n 2) h.level) h.reads
implies_reads (a_unary u) x h = bracket_if 2 x _ false (ap (λ n. nat_lt n 2) h.level) h.reads

iff_reads : (s : Shape) (x : ShownFormula) → IsShown s x → Reads false true (operand_text 1 x) (spell_iff (to_iff s))
iff_reads (an_iff u) x h = bracket_if 1 x _ false (ap (λ n. nat_lt n 1) h.level) h.reads
iff_reads (an_implies u) x h = bracket_if 1 x _ false (ap (λ n. nat_lt n 1) h.level) h.reads
iff_reads (an_or u) x h = bracket_if 1 x _ false (ap (λ n. nat_lt n 1) h.level) h.reads
iff_reads (an_and u) x h = bracket_if 1 x _ false (ap (λ n. nat_lt n 1) h.level) h.reads
iff_reads (a_unary u) x h = bracket_if 1 x _ false (ap (λ n. nat_lt n 1) h.level) h.reads

-- a connective between blanks
between : {text : List ℕ} {t : Token} → Reads true false text (λ ts. t ∷ ts) → {x y : List ℕ} {s u : List Token → List Token} → Reads false true x s → Reads false true y u
    → Reads false true (x ++ ((codes " " ++ (text ++ codes " ")) ++ y)) (λ ts. s (t ∷ u ts))
between c r q = both r (both (both blank (both (asks_less c) blank)) q)

-- a formula over the features is shown as its tree
record Printed (features : List (List ℕ)) (x : Formula) : Type 0 where
  printed : is_over (length features) x ≡ true → IsShown (shape features x) (fold-Formula ShownFormula (shown_formula_step features) x)

shown_as : (s u : Shape) (x y : ShownFormula) → s ≡ u → x ≡ y → IsShown u y → IsShown s x
shown_as s u x y e d h = subst (λ v. IsShown v x) (sym e) (subst (λ z. IsShown u z) (sym d) h)

-- each of the features is an identifier
pub named_well : (features : List (List ℕ)) (i : ℕ) → list_all is_short_identifier features ≡ true → i < length features → is_short_identifier (get_or features i []) ≡ true
named_well features i h lt = go (is_short_identifier (get_or features i [])) refl
  where
    go : (b : Bool) → is_short_identifier (get_or features i []) ≡ b → is_short_identifier (get_or features i []) ≡ true
    go true e = e
    go false e = absurd (true≢false (sym h ∙ list_all_at is_short_identifier features i [] lt e))

pub as_identifier : (w : List ℕ) → is_short_identifier w ≡ true → is_identifier w ≡ true
as_identifier w h = (and_parts (is_identifier w) (nat_le (length w) most_name_bytes) h).0

module _ (features : List (List ℕ)) (well : list_all is_short_identifier features ≡ true) where
  abbrev shaped : Formula-F Shape → Shape
  shaped = shape_step features

  abbrev shown : Formula-F ShownFormula → ShownFormula
  shown = shown_formula_step features

  printed_cases : Cases (Printed features)
  printed_cases = record {
    true_case = record { printed = λ h. shown_as _ _ _ _ (fold_true Shape shaped) (fold_true ShownFormula shown) (record { level = refl; reads = true_reads }) };
    false_case = record { printed = λ h. shown_as _ _ _ _ (fold_false Shape shaped) (fold_false ShownFormula shown) (record { level = refl; reads = false_reads }) };
    feat_case = λ n. record {
      printed = λ h.
          shown_as _ _ _ _ (fold_feat Shape shaped n) (fold_feat ShownFormula shown n)
          (record { level = refl; reads = identifier (get_or features n []) (as_identifier _ (named_well features n well (ltb-true n (length features) (sym (fold_feat Bool (is_over_step (length features)) n) ∙ h)))) });
    };
    not_case = λ x p. record {
      printed = λ h.
          shown_as _ _ _ _ (fold_not Shape shaped x) (fold_not ShownFormula shown x)
          (record { level = refl; reads = both bang (unary_reads _ _ (p.printed (sym (fold_not Bool (is_over_step (length features)) x) ∙ h))) });
    };
    and_case = λ x p y q. record {
      printed = λ h.
          let b = and_parts (is_over (length features) x) (is_over (length features) y) (sym (fold_and Bool (is_over_step (length features)) x y) ∙ h) in
          shown_as _ _ _ _ (fold_and Shape shaped x y) (fold_and ShownFormula shown x y)
          (record { level = refl; reads = between ampersand (and_reads _ _ (p.printed b.0)) (unary_reads _ _ (q.printed b.1)) });
    };
    or_case = λ x p y q. record {
      printed = λ h.
          let b = and_parts (is_over (length features) x) (is_over (length features) y) (sym (fold_or Bool (is_over_step (length features)) x y) ∙ h) in
          shown_as _ _ _ _ (fold_or Shape shaped x y) (fold_or ShownFormula shown x y)
          (record { level = refl; reads = between bar (or_reads _ _ (p.printed b.0)) (and_reads _ _ (q.printed b.1)) });
    };
    implies_case = λ x p y q. record {
      printed = λ h.
          let b = and_parts (is_over (length features) x) (is_over (length features) y) (sym (fold_implies Bool (is_over_step (length features)) x y) ∙ h) in
          shown_as _ _ _ _ (fold_implies Shape shaped x y) (fold_implies ShownFormula shown x y)
          (record { level = refl; reads = between arrow (or_reads _ _ (p.printed b.0)) (implies_reads _ _ (q.printed b.1)) });
    };
    iff_case = λ x p y q. record {
      printed = λ h.
          let b = and_parts (is_over (length features) x) (is_over (length features) y) (sym (fold_iff Bool (is_over_step (length features)) x y) ∙ h) in
          shown_as _ _ _ _ (fold_iff Shape shaped x y) (fold_iff ShownFormula shown x y)
          (record { level = refl; reads = between double_arrow (iff_reads _ _ (p.printed b.0)) (implies_reads _ _ (q.printed b.1)) });
    };
  }

  -- the text of a formula gives the tokens of its tree
  pub formula_reads : (x : Formula) → is_over (length features) x ≡ true → Reads false true (formula_text features x) (spell_iff (tree_of_formula features x))
  formula_reads x h = let s = (by_cases (Printed features) printed_cases x).printed h in s.reads
