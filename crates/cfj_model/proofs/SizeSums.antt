-- Sizes as sums over parts.
use Rattle.std.proofs.Common.{◌≡◌, ℕ, ◌+◌, ◌<◌, List, [], ◌∷◌, ◌++◌, length, map, take, drop, sum_by, Some, slice_get, slice_set, refl, ◌∙◌, ap, arith, add-one}
use Rattle.std.proofs.lemmas.List.Sums.{sum_by-cons, sum_by-remove, sum_by-set}
use Rattle.std.proofs.lemmas.Option.{get_or_from_slice_get, slice_get_within}
use Rattle.cfj_model.specs.Expressions.{node_count, node_count_step, of_arg}
use Rattle.cfj_model.specs.ProductLines.{class_size, size}
use Rattle.cfj_model.specs.declared.class.Class.{Class}
use Rattle.cfj_model.specs.declared.expr.Arg.{Arg}
use Rattle.cfj_model.specs.declared.expr.Expr.{Expr}
use Rattle.cfj_model.specs.declared.expr.Expr.TheVariants as e
use Rattle.cfj_model.proofs.ExprCases as cases

abbrev pub arg_nodes : Arg → ℕ
arg_nodes a = node_count a.expr

args_count : (args : List Arg) → sum_by (λ n. n) (map arg_nodes args) ≡ sum_by arg_nodes args
args_count [] = refl
args_count (a ∷ args) =
    let mapped = sum_by-cons (λ n. n) (arg_nodes a) (map arg_nodes args) in
    let own = sum_by-cons arg_nodes a args in
    omega (arith, mapped, own, args_count args)

pub count_call : (slot : ℕ) (on : Expr) (method : List ℕ) (args : List Arg) → node_count (e.Call slot on method args) ≡ node_count on + (1 + sum_by arg_nodes args)
count_call slot on method args = cases.fold_call ℕ ℕ node_count_step of_arg slot on method args ∙ ap (λ n. node_count on + (1 + n)) (args_count args)

pub count_new : (slot : ℕ) (class : List ℕ) (args : List Arg) → node_count (e.New slot class args) ≡ 1 + sum_by arg_nodes args
count_new slot class args = cases.fold_new ℕ ℕ node_count_step of_arg slot class args ∙ ap (λ n. 1 + n) (args_count args)

-- without one class
pub size_without : (ks : List Class) (place : ℕ) (k : Class) → slice_get ks place ≡ Some k → size (take place ks ++ drop (place + 1) ks) + class_size k ≡ size ks
size_without ks place k at =
    let sum = sum_by-remove class_size ks place k (slice_get_within ks place k at) in
    let own = ap class_size (get_or_from_slice_get ks place k k at) in
    let behind = ap (λ n. size (take place ks ++ drop n ks)) (add-one place) in
    omega (arith, sum, own, behind)

-- with another class at a place
pub size_with : (ks : List Class) (place : ℕ) (k : Class) → place < length ks → size (slice_set ks place k) ≡ size (take place ks ++ drop (place + 1) ks) + class_size k
size_with ks place k within =
    let set = sum_by-set class_size ks place k k within in
    let removed = sum_by-remove class_size ks place k within in
    let behind = ap (λ n. size (take place ks ++ drop n ks)) (add-one place) in
    omega (arith, set, removed, behind)
