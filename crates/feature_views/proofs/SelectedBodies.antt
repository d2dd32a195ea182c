-- What is kept of an expression, variant by variant: by the own colours of its arguments, and by those round them too.
use Rattle.std.proofs.Common.{◌≡◌, refl, ap, ◌∙◌, ℕ, Bool, true, false, if◌then◌else◌, List, [], ◌∷◌, ◌++◌, map}
use Rattle.std.specs.List.{filter, flat_map}
use Rattle.std.proofs.lemmas.List.Folds.{flat_map-map}
use Rattle.cfj_model.specs.declared.expr.Arg.{Arg}
use Rattle.cfj_model.specs.declared.expr.Expr.{Expr}
use Rattle.cfj_model.specs.declared.expr.Expr.TheVariants as e
use Rattle.cfj_model.proofs.ExprCases.{fold_var, fold_get, fold_call, fold_new, fold_cast, of_arg}
use Rattle.cfj_model.specs.Coloring.{no_colors}
use Rattle.cfj_model.specs.Projection.{presence_of, is_present, projected_step, projected_arg_step, projected_expr}
use Rattle.cfj_logic.specs.Selections.{Chosen}
use Rattle.cfj_logic.specs.Sides.{Sides}
use Rattle.feature_views.specs.Selected.{selected_step, selected_arg_step, selected_expr, selected_arg, selected_args}

-- Where each item gives one or none, a list gives what is made of those that are kept.
made_of_kept : {A B : Type 0} (made : A → B) (keeps : A → Bool) (xs : List A)
    → flat_map (λ x. if keeps x then made x ∷ [] else []) xs ≡ map made (filter keeps xs)
made_of_kept made keeps [] = refl
made_of_kept {A} {B} made keeps (x ∷ xs) = go (keeps x) (made_of_kept made keeps xs)
  where
    rest : List B
    rest = flat_map (λ y. if keeps y then made y ∷ [] else []) xs

    go : (b : Bool) → rest ≡ map made (filter keeps xs)
        → (if b then made x ∷ [] else []) ++ rest ≡ map made (if b then x ∷ filter keeps xs else filter keeps xs)
    go true e = ap (λ w. made x ∷ w) e
    go false e = e

module _ (s : Chosen) where
  abbrev selected_of : Arg → List Arg
  selected_of = of_arg Expr (List Arg) selected_step (selected_arg_step s)

  selected_args_are : (args : List Arg) → flat_map (λ a. a) (map selected_of args) ≡ selected_args s args
  selected_args_are args = flat_map-map (λ a. a) selected_of args ∙ made_of_kept (selected_arg s) (λ (a : Arg). is_present s a.colors) args

  pub selected_var : (slot : ℕ) (name : List ℕ) → selected_expr s (e.Var slot name) ≡ e.Var slot name
  selected_var = fold_var Expr (List Arg) selected_step (selected_arg_step s)

  pub selected_get : (slot : ℕ) (on : Expr) (field : List ℕ) → selected_expr s (e.Get slot on field) ≡ e.Get slot (selected_expr s on) field
  selected_get = fold_get Expr (List Arg) selected_step (selected_arg_step s)

  pub selected_call : (slot : ℕ) (on : Expr) (method : List ℕ) (args : List Arg)
      → selected_expr s (e.Call slot on method args) ≡ e.Call slot (selected_expr s on) method (selected_args s args)
  selected_call slot on method args = fold_call Expr (List Arg) selected_step (selected_arg_step s) slot on method args ∙ ap (e.Call slot (selected_expr s on) method) (selected_args_are args)

  pub selected_new : (slot : ℕ) (class : List ℕ) (args : List Arg) → selected_expr s (e.New slot class args) ≡ e.New slot class (selected_args s args)
  selected_new slot class args = fold_new Expr (List Arg) selected_step (selected_arg_step s) slot class args ∙ ap (e.New slot class) (selected_args_are args)

  pub selected_cast : (slot : ℕ) (class : List ℕ) (on : Expr) → selected_expr s (e.Cast slot class on) ≡ e.Cast slot class (selected_expr s on)
  selected_cast = fold_cast Expr (List Arg) selected_step (selected_arg_step s)

  module _ (around : Sides) where
    -- whether an argument is present within these colours, and what is kept of it
    abbrev pub arg_present : Arg → Bool
    arg_present a = is_present s (presence_of around a.colors)

    abbrev pub projected_arg : Arg → Arg
    projected_arg a = record { colors = no_colors; expr = projected_expr s (presence_of around a.colors) a.expr }

    abbrev pub projected_args : List Arg → List Arg
    projected_args args = map projected_arg (filter arg_present args)

    abbrev projected_of : Arg → Sides → List Arg
    projected_of = of_arg (Sides → Expr) (Sides → List Arg) (projected_step s) (projected_arg_step s)

    projected_args_are : (args : List Arg) → flat_map (λ a. a around) (map projected_of args) ≡ projected_args args
    projected_args_are args = flat_map-map (λ a. a around) projected_of args ∙ made_of_kept projected_arg arg_present args

    pub projected_var : (slot : ℕ) (name : List ℕ) → projected_expr s around (e.Var slot name) ≡ e.Var slot name
    projected_var slot name = ap (λ f. f around) (fold_var (Sides → Expr) (Sides → List Arg) (projected_step s) (projected_arg_step s) slot name)

    pub projected_get : (slot : ℕ) (on : Expr) (field : List ℕ) → projected_expr s around (e.Get slot on field) ≡ e.Get slot (projected_expr s around on) field
    projected_get slot on field = ap (λ f. f around) (fold_get (Sides → Expr) (Sides → List Arg) (projected_step s) (projected_arg_step s) slot on field)

    pub projected_call : (slot : ℕ) (on : Expr) (method : List ℕ) (args : List Arg)
        → projected_expr s around (e.Call slot on method args) ≡ e.Call slot (projected_expr s around on) method (projected_args args)
    projected_call slot on method args =
        ap (λ f. f around) (fold_call (Sides → Expr) (Sides → List Arg) (projected_step s) (projected_arg_step s) slot on method args)
        ∙ ap (e.Call slot (projected_expr s around on) method) (projected_args_are args)

    pub projected_new : (slot : ℕ) (class : List ℕ) (args : List Arg) → projected_expr s around (e.New slot class args) ≡ e.New slot class (projected_args args)
    projected_new slot class args =
        ap (λ f. f around) (fold_new (Sides → Expr) (Sides → List Arg) (projected_step s) (projected_arg_step s) slot class args)
        ∙ ap (e.New slot class) (projected_args_are args)

    pub projected_cast : (slot : ℕ) (class : List ℕ) (on : Expr)
        → projected_expr s around (e.Cast slot class on) ≡ e.Cast slot class (projected_expr s around on)
    projected_cast slot class on = ap (λ f. f around) (fold_cast (Sides → Expr) (Sides → List Arg) (projected_step s) (projected_arg_step s) slot class on)
