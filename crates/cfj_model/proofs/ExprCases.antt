-- Folds and induction over expressions and their arguments, a case for each variant.
use Rattle.std.proofs.Common.{◌≡◌, refl, ℕ, List, [], ◌∷◌, map, ap, sym, ◌∙◌, subst}
use Rattle.cfj_model.specs.declared.expr.Arg.{Arg, Arg-F, fold-Arg}
use Rattle.cfj_model.specs.declared.expr.Expr.{Expr}
use Rattle.cfj_model.specs.declared.expr.Expr.TheOpen.{Expr-F}
use Rattle.cfj_model.specs.declared.expr.Expr.TheVariants as e
use Rattle.cfj_model.specs.declared.expr.Expr.TheViews.{roll-Expr}
use Rattle.cfj_model.specs.declared.expr.Expr.TheFolds.{fold-Expr, fold-roll-Expr, fold-roll-Arg, ind-Expr, map-Expr}

-- a fold at each variant; an argument gives what its colours and its expression give
module _ (A B : Type 0) (step : Expr-F A B → A) (arg_step : Arg-F A B → B) where
  abbrev pub of_expr : Expr → A
  of_expr = fold-Expr A B step arg_step

  abbrev pub of_arg : Arg → B
  of_arg a = arg_step (record { colors = a.colors; expr = of_expr a.expr })

  args_are : (args : List Arg) → map (fold-Arg A B step arg_step) args ≡ map of_arg args
  args_are [] = refl
  args_are (a ∷ args) =
      ap (λ b. b ∷ map (fold-Arg A B step arg_step) args) (fold-roll-Arg A B step arg_step (record { colors = a.colors; expr = a.expr }))
      ∙ ap (λ bs. of_arg a ∷ bs) (args_are args)

  pub fold_var : (slot : ℕ) (name : List ℕ) → of_expr (e.Var slot name) ≡ step (Expr-F.Var slot name)
  fold_var slot name = ap of_expr (sym (e.rolls-Var slot name)) ∙ fold-roll-Expr A B step arg_step (Expr-F.Var slot name)

  pub fold_get : (slot : ℕ) (on : Expr) (field : List ℕ) → of_expr (e.Get slot on field) ≡ step (Expr-F.Get slot (of_expr on) field)
  fold_get slot on field = ap of_expr (sym (e.rolls-Get slot on field)) ∙ fold-roll-Expr A B step arg_step (Expr-F.Get slot on field)

  pub fold_call : (slot : ℕ) (on : Expr) (method : List ℕ) (args : List Arg) → of_expr (e.Call slot on method args) ≡ step (Expr-F.Call slot (of_expr on) method (map of_arg args))
  fold_call slot on method args =
      ap of_expr (sym (e.rolls-Call slot on method args))
      ∙ fold-roll-Expr A B step arg_step (Expr-F.Call slot on method args)
      ∙ ap (λ bs. step (Expr-F.Call slot (of_expr on) method bs)) (args_are args)

  pub fold_new : (slot : ℕ) (class : List ℕ) (args : List Arg) → of_expr (e.New slot class args) ≡ step (Expr-F.New slot class (map of_arg args))
  fold_new slot class args =
      ap of_expr (sym (e.rolls-New slot class args))
      ∙ fold-roll-Expr A B step arg_step (Expr-F.New slot class args)
      ∙ ap (λ bs. step (Expr-F.New slot class bs)) (args_are args)

  pub fold_cast : (slot : ℕ) (class : List ℕ) (on : Expr) → of_expr (e.Cast slot class on) ≡ step (Expr-F.Cast slot class (of_expr on))
  fold_cast slot class on = ap of_expr (sym (e.rolls-Cast slot class on)) ∙ fold-roll-Expr A B step arg_step (Expr-F.Cast slot class on)

-- an argument of whose expression something is shown
abbrev pub Proved : (Expr → Type 0) → Type 0
Proved P = (a : Arg) × P a.expr

abbrev pub args_of : (P : Expr → Type 0) → List (Proved P) → List Arg
args_of P ys = map (λ y. y.0) ys

-- what an induction shows at each variant, from its parts
pub record Cases (P : Expr → Type 0) : Type 0 where
  pub var_case : (slot : ℕ) (name : List ℕ) → P (e.Var slot name)
  pub get_case : (slot : ℕ) (on : Expr) → P on → (field : List ℕ) → P (e.Get slot on field)
  pub call_case : (slot : ℕ) (on : Expr) → P on → (method : List ℕ) (args : List (Proved P)) → P (e.Call slot on method (args_of P args))
  pub new_case : (slot : ℕ) (class : List ℕ) (args : List (Proved P)) → P (e.New slot class (args_of P args))
  pub cast_case : (slot : ℕ) (class : List ℕ) (on : Expr) → P on → P (e.Cast slot class on)

abbrev Known : (Expr → Type 0) → Type 0
Known P = (x : Expr) × P x

at_layer : (P : Expr → Type 0) → Cases P → (y : Expr-F (Known P) (Proved P)) → P (roll-Expr (map-Expr (Known P) (Proved P) Expr Arg (λ p. p.0) (λ p. p.0) y))
at_layer P c (Expr-F.Var slot name) = subst P (sym (e.rolls-Var slot name)) (c.var_case slot name)
at_layer P c (Expr-F.Get slot on field) = subst P (sym (e.rolls-Get slot on.0 field)) (c.get_case slot on.0 on.1 field)
at_layer P c (Expr-F.Call slot on method args) = subst P (sym (e.rolls-Call slot on.0 method (args_of P args))) (c.call_case slot on.0 on.1 method args)
at_layer P c (Expr-F.New slot class args) = subst P (sym (e.rolls-New slot class (args_of P args))) (c.new_case slot class args)
at_layer P c (Expr-F.Cast slot class on) = subst P (sym (e.rolls-Cast slot class on.0)) (c.cast_case slot class on.0 on.1)

-- what holds at each variant holds of every expression
pub by_cases : (P : Expr → Type 0) → Cases P → (x : Expr) → P x
by_cases P c = ind-Expr P (λ a. P a.expr) (λ x y is. subst (λ z. P (roll-Expr z)) is (at_layer P c y)) (λ x y is. subst P (ap (λ a. a.expr) is) y.expr.1)
