-- Whether a slot is among those of a body, node by node.
use Rattle.std.proofs.Common.{◌≡◌, ℕ, Bool, true, false, ◌||◌, List, [], ◌∷◌, map, refl, ◌∙◌, ap}
use Rattle.std.specs.List.{list_any, flat_map}
use Rattle.std.proofs.lemmas.List.Folds.{list_any-append}
use Rattle.cfj_model.specs.Expressions.{slots, slots_step, of_arg}
use Rattle.cfj_model.specs.declared.expr.Arg.{Arg}
use Rattle.cfj_model.specs.declared.expr.Expr.{Expr}
use Rattle.cfj_model.specs.declared.expr.Expr.TheVariants as e
use Rattle.cfj_model.proofs.ExprCases as cases

or_false : (b : Bool) → (b || false) ≡ b
or_false true = refl
or_false false = refl

-- among the slots of arguments
in_args : (test : ℕ → Bool) (args : List Arg) → list_any test (flat_map (λ s. s) (map (λ a. slots a.expr) args)) ≡ list_any (λ a. list_any test (slots a.expr)) args
in_args test [] = refl
in_args test (a ∷ args) =
    list_any-append test (slots a.expr) (flat_map (λ s. s) (map (λ a. slots a.expr) args)) ∙ ap (λ b. list_any test (slots a.expr) || b) (in_args test args)

pub in_get : (test : ℕ → Bool) (slot : ℕ) (on : Expr) (field : List ℕ) → list_any test (slots (e.Get slot on field)) ≡ (list_any test (slots on) || test slot)
in_get test slot on field =
    ap (list_any test) (cases.fold_get (List ℕ) (List ℕ) slots_step of_arg slot on field)
    ∙ list_any-append test (slots on) (slot ∷ []) ∙ ap (λ b. list_any test (slots on) || b) (or_false (test slot))

pub in_cast : (test : ℕ → Bool) (slot : ℕ) (class : List ℕ) (on : Expr) → list_any test (slots (e.Cast slot class on)) ≡ (test slot || list_any test (slots on))
in_cast test slot class on = ap (list_any test) (cases.fold_cast (List ℕ) (List ℕ) slots_step of_arg slot class on)

pub in_var : (test : ℕ → Bool) (slot : ℕ) (name : List ℕ) → list_any test (slots (e.Var slot name)) ≡ test slot
in_var test slot name = ap (list_any test) (cases.fold_var (List ℕ) (List ℕ) slots_step of_arg slot name) ∙ or_false (test slot)

pub in_call : (test : ℕ → Bool) (slot : ℕ) (on : Expr) (method : List ℕ) (args : List Arg)
    → list_any test (slots (e.Call slot on method args)) ≡ (list_any test (slots on) || (test slot || list_any (λ a. list_any test (slots a.expr)) args))
in_call test slot on method args =
    let all = flat_map (λ s. s) (map (λ (a : Arg). slots a.expr) args) in
    ap (list_any test) (cases.fold_call (List ℕ) (List ℕ) slots_step of_arg slot on method args)
    ∙ list_any-append test (slots on) (slot ∷ all)
    ∙ ap (λ b. list_any test (slots on) || (test slot || b)) (in_args test args)

pub in_new : (test : ℕ → Bool) (slot : ℕ) (class : List ℕ) (args : List Arg)
    → list_any test (slots (e.New slot class args)) ≡ (test slot || list_any (λ a. list_any test (slots a.expr)) args)
in_new test slot class args =
    ap (list_any test) (cases.fold_new (List ℕ) (List ℕ) slots_step of_arg slot class args)
    ∙ ap (λ b. test slot || b) (in_args test args)
