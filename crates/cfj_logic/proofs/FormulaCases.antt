-- Folds and induction over formulas, a case for each variant.
use Rattle.std.proofs.Common.{◌≡◌, ℕ, ap, sym, ◌∙◌, subst}
use Rattle.cfj_logic.specs.declared.formula.Formula.{Formula}
use Rattle.cfj_logic.specs.declared.formula.Formula.TheOpen.{Formula-F}
use Rattle.cfj_logic.specs.declared.formula.Formula.TheVariants as f
use Rattle.cfj_logic.specs.declared.formula.Formula.TheViews.{roll-Formula}
use Rattle.cfj_logic.specs.declared.formula.Formula.TheFolds.{fold-Formula, fold-roll-Formula, ind-Formula, map-Formula}

-- a fold at each variant
module _ (A : Type 0) (step : Formula-F A → A) where
  pub fold_true : fold-Formula A step f.True ≡ step Formula-F.True
  fold_true = ap (fold-Formula A step) (sym f.rolls-True) ∙ fold-roll-Formula A step Formula-F.True

  pub fold_false : fold-Formula A step f.False ≡ step Formula-F.False
  fold_false = ap (fold-Formula A step) (sym f.rolls-False) ∙ fold-roll-Formula A step Formula-F.False

  pub fold_feat : (n : ℕ) → fold-Formula A step (f.Feat n) ≡ step (Formula-F.Feat n)
  fold_feat n = ap (fold-Formula A step) (sym (f.rolls-Feat n)) ∙ fold-roll-Formula A step (Formula-F.Feat n)

  pub fold_not : (x : Formula) → fold-Formula A step (f.Not x) ≡ step (Formula-F.Not (fold-Formula A step x))
  fold_not x = ap (fold-Formula A step) (sym (f.rolls-Not x)) ∙ fold-roll-Formula A step (Formula-F.Not x)

  pub fold_and : (x y : Formula) → fold-Formula A step (f.And x y) ≡ step (Formula-F.And (fold-Formula A step x) (fold-Formula A step y))
  fold_and x y = ap (fold-Formula A step) (sym (f.rolls-And x y)) ∙ fold-roll-Formula A step (Formula-F.And x y)

  pub fold_or : (x y : Formula) → fold-Formula A step (f.Or x y) ≡ step (Formula-F.Or (fold-Formula A step x) (fold-Formula A step y))
  fold_or x y = ap (fold-Formula A step) (sym (f.rolls-Or x y)) ∙ fold-roll-Formula A step (Formula-F.Or x y)

  pub fold_implies : (x y : Formula) → fold-Formula A step (f.Implies x y) ≡ step (Formula-F.Implies (fold-Formula A step x) (fold-Formula A step y))
  fold_implies x y = ap (fold-Formula A step) (sym (f.rolls-Implies x y)) ∙ fold-roll-Formula A step (Formula-F.Implies x y)

  pub fold_iff : (x y : Formula) → fold-Formula A step (f.Iff x y) ≡ step (Formula-F.Iff (fold-Formula A step x) (fold-Formula A step y))
  fold_iff x y = ap (fold-Formula A step) (sym (f.rolls-Iff x y)) ∙ fold-roll-Formula A step (Formula-F.Iff x y)

-- what an induction shows at each variant, from its parts
pub record Cases (P : Formula → Type 0) : Type 0 where
  pub true_case : P f.True
  pub false_case : P f.False
  pub feat_case : (n : ℕ) → P (f.Feat n)
  pub not_case : (x : Formula) → P x → P (f.Not x)
  pub and_case : (x : Formula) → P x → (y : Formula) → P y → P (f.And x y)
  pub or_case : (x : Formula) → P x → (y : Formula) → P y → P (f.Or x y)
  pub implies_case : (x : Formula) → P x → (y : Formula) → P y → P (f.Implies x y)
  pub iff_case : (x : Formula) → P x → (y : Formula) → P y → P (f.Iff x y)

at_layer : (P : Formula → Type 0) → Cases P → (y : Formula-F ((x : Formula) × P x)) → P (roll-Formula (map-Formula ((x : Formula) × P x) Formula (λ y. y.0) y))
at_layer P c Formula-F.True = subst P (sym f.rolls-True) c.true_case
at_layer P c Formula-F.False = subst P (sym f.rolls-False) c.false_case
at_layer P c (Formula-F.Feat n) = subst P (sym (f.rolls-Feat n)) (c.feat_case n)
at_layer P c (Formula-F.Not p) = subst P (sym (f.rolls-Not p.0)) (c.not_case p.0 p.1)
at_layer P c (Formula-F.And p q) = subst P (sym (f.rolls-And p.0 q.0)) (c.and_case p.0 p.1 q.0 q.1)
at_layer P c (Formula-F.Or p q) = subst P (sym (f.rolls-Or p.0 q.0)) (c.or_case p.0 p.1 q.0 q.1)
at_layer P c (Formula-F.Implies p q) = subst P (sym (f.rolls-Implies p.0 q.0)) (c.implies_case p.0 p.1 q.0 q.1)
at_layer P c (Formula-F.Iff p q) = subst P (sym (f.rolls-Iff p.0 q.0)) (c.iff_case p.0 p.1 q.0 q.1)

-- what holds at each variant holds of every formula
pub by_cases : (P : Formula → Type 0) → Cases P → (x : Formula) → P x
by_cases P c = ind-Formula P (λ x y is. subst (λ z. P (roll-Formula z)) is (at_layer P c y))
