-- The text of a formula, variant by variant.
use Rattle.std.proofs.Common.{◌≡◌, ap, sym, ◌∙◌, ℕ, ◌<◌, ◌≤◌, List, ◌++◌, codes, if◌then◌else◌, arith}
use Rattle.std.proofs.lemmas.Bool.{lt-ltb, le-ltb}
use Rattle.cfj_logic.specs.declared.formula.Formula.{Formula}
use Rattle.cfj_logic.specs.declared.formula.Formula.TheVariants as f
use Rattle.cfj_logic.proofs.FormulaCases.{fold_not, fold_and, fold_or, fold_implies, fold_iff}
use Rattle.cfj_model.specs.Print.{ShownFormula, shown_formula_step, formula_text, operand_text}
use Rattle.fj_printer.specs.Parts.{shown_formula}

abbrev text_of : ShownFormula → List ℕ
text_of x = x.text

-- an operand with brackets, and without
pub bracketed : (least level : ℕ) (x : ShownFormula) → level ≡ x.level → level < least → operand_text least x ≡ codes "(" ++ (x.text ++ codes ")")
bracketed least level x e lt = ap (λ b. if b then codes "(" ++ (x.text ++ codes ")") else x.text) (lt-ltb x.level least (omega arith))

pub unbracketed : (least level : ℕ) (x : ShownFormula) → level ≡ x.level → least ≤ level → operand_text least x ≡ x.text
unbracketed least level x e le = ap (λ b. if b then codes "(" ++ (x.text ++ codes ")") else x.text) (le-ltb x.level least (omega arith))

-- of each variant, by what stands for its parts
module _ (features : List (List ℕ)) where
  abbrev operand : ℕ → Formula → List ℕ
  operand least x = operand_text least (shown_formula features x)

  pub not_text : (whole x y : Formula) → whole ≡ f.Not x → y ≡ x → formula_text features whole ≡ codes "!" ++ operand 5 y
  not_text whole x y e same =
      ap (formula_text features) e
      ∙ ap text_of (fold_not ShownFormula (shown_formula_step features) x)
      ∙ ap (λ z. codes "!" ++ operand 5 z) (sym same)

  pub and_text : (whole x y u v : Formula) → whole ≡ f.And x y → u ≡ x → v ≡ y → formula_text features whole ≡ operand 4 u ++ (codes " & " ++ operand 5 v)
  and_text whole x y u v e left right =
      ap (formula_text features) e
      ∙ ap text_of (fold_and ShownFormula (shown_formula_step features) x y)
      ∙ ap (λ w. operand 4 w ++ (codes " & " ++ operand 5 y)) (sym left)
      ∙ ap (λ w. operand 4 u ++ (codes " & " ++ operand 5 w)) (sym right)

  pub or_text : (whole x y u v : Formula) → whole ≡ f.Or x y → u ≡ x → v ≡ y → formula_text features whole ≡ operand 3 u ++ (codes " | " ++ operand 4 v)
  or_text whole x y u v e left right =
      ap (formula_text features) e
      ∙ ap text_of (fold_or ShownFormula (shown_formula_step features) x y)
      ∙ ap (λ w. operand 3 w ++ (codes " | " ++ operand 4 y)) (sym left)
      ∙ ap (λ w. operand 3 u ++ (codes " | " ++ operand 4 w)) (sym right)

  pub implies_text : (whole x y u v : Formula) → whole ≡ f.Implies x y → u ≡ x → v ≡ y → formula_text features whole ≡ operand 3 u ++ (codes " -> " ++ operand 2 v)
  implies_text whole x y u v e left right =
      ap (formula_text features) e
      ∙ ap text_of (fold_implies ShownFormula (shown_formula_step features) x y)
      ∙ ap (λ w. operand 3 w ++ (codes " -> " ++ operand 2 y)) (sym left)
      ∙ ap (λ w. operand 3 u ++ (codes " -> " ++ operand 2 w)) (sym right)

  pub iff_text : (whole x y u v : Formula) → whole ≡ f.Iff x y → u ≡ x → v ≡ y → formula_text features whole ≡ operand 1 u ++ (codes " <-> " ++ operand 2 v)
  iff_text whole x y u v e left right =
      ap (formula_text features) e
      ∙ ap text_of (fold_iff ShownFormula (shown_formula_step features) x y)
      ∙ ap (λ w. operand 1 w ++ (codes " <-> " ++ operand 2 y)) (sym left)
      ∙ ap (λ w. operand 1 u ++ (codes " <-> " ++ operand 2 w)) (sym right)
