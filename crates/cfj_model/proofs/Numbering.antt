-- What a tree stands for is numbered.
use Rattle.std.proofs.Common.{◌≡◌, ℕ, ◌+◌, ◌==◌, true, codes, List, [], ◌∷◌, ◌++◌, length, map, flat_map, refl, sym, ap, subst, ◌∙◌, length-append, arith}
use Rattle.std.specs.List.{list_all}
use Rattle.std.proofs.lemmas.Bool.{and_from, and_parts, eq-eqb}
use Rattle.std.proofs.lemmas.Grind.{flat_map-append}
use Rattle.std.proofs.lemmas.List.{append-nil, map-append}
use Rattle.cfj_model.specs.declared.expr.Arg.{Arg}
use Rattle.cfj_model.specs.declared.expr.Expr.{Expr}
use Rattle.cfj_model.specs.declared.expr.Expr.TheVariants as e
use Rattle.cfj_model.specs.ExpressionGrammar.{ExprTree, cast, chain, StartTree, variable, this_word, made, bracket, StepsTree, stop, get, call, ArgsTree, no_args, first_arg, MoreArgsTree, no_more, next_arg, value_expr, value_start, value_steps, value_args, value_more_args}
use Rattle.cfj_model.specs.Expressions.{of_arg, slots_step, slots}
use Rattle.cfj_model.specs.Grammar.{Declared, Named, MethodTree, ClassTree, Tree, numbered, value_field, value_param, value_sent, value_ctor, value_method, value_class, value}
use Rattle.cfj_model.specs.Languages.{IsTextOf, projects, single_classes}
use Rattle.cfj_model.specs.Marks.{colors_of}
use Rattle.cfj_model.specs.ProductLines.{ProductLine}
use Rattle.cfj_model.specs.declared.class.Class.{Class}
use Rattle.cfj_model.specs.declared.feature_model.Format.{Format}
use Rattle.cfj_model.specs.Numbered.{run_from, is_numbered_ctor, is_numbered_method, is_numbered_class, IsNumbered}
use Rattle.cfj_model.proofs.ExprCases.{fold_var, fold_get, fold_call, fold_new, fold_cast}
use Rattle.cfj_model.proofs.Members.{fields_are_numbered, methods_are_numbered, numbered_methods-all}

-- the slots of arguments
abbrev pub arg_slots : List Arg → List ℕ
arg_slots args = flat_map (λ s. s) (map (λ (a : Arg). slots a.expr) args)

-- these slots run from one number up to another
record RunsTo (first next : ℕ) (ss : List ℕ) : Type 0 where
  run : run_from first ss ≡ true
  size : next ≡ first + length ss

run_both : (n : ℕ) (xs ys : List ℕ) → run_from n xs ≡ true → run_from (n + length xs) ys ≡ true → run_from n (xs ++ ys) ≡ true
run_both n [] ys h k = subst (λ m. run_from m ys ≡ true) (omega arith) k
run_both n (x ∷ xs) ys h k =
    let p = and_parts (x == n) (run_from (n + 1) xs) h in
    and_from _ _ p.0 (run_both (n + 1) xs ys p.1 (subst (λ m. run_from m ys ≡ true) (omega arith) k))

both_run : (a b c : ℕ) (xs ys : List ℕ) → RunsTo a b xs → RunsTo b c ys → RunsTo a c (xs ++ ys)
both_run a b c xs ys p q = record {
  run = run_both a xs ys p.run (subst (λ m. run_from m ys ≡ true) p.size q.run);
  size = let l = length-append xs ys in let s = p.size in let t = q.size in omega (arith, l, s, t);
}

none_runs : (n : ℕ) → RunsTo n n []
none_runs n = record { run = refl; size = omega arith }

one_runs : (n c : ℕ) (ss : List ℕ) → RunsTo (n + 1) c ss → RunsTo n c (n ∷ ss)
one_runs n c ss p = record { run = and_from _ _ (eq-eqb n n refl) p.run; size = let s = p.size in omega (arith, s) }

as_slots : (a b : ℕ) (xs ys : List ℕ) → xs ≡ ys → RunsTo a b ys → RunsTo a b xs
as_slots a b xs ys e p = subst (RunsTo a b) (sym e) p

module _ (features : List (List ℕ)) where
  more_slots : (done : List Arg) (a : Arg) → arg_slots (done ++ a ∷ []) ≡ arg_slots done ++ slots a.expr
  more_slots done a =
      ap (flat_map (λ s. s)) (map-append (λ (a : Arg). slots a.expr) done (a ∷ []))
      ∙ flat_map-append (λ s. s) (map (λ (a : Arg). slots a.expr) done) (slots a.expr ∷ [])
      ∙ ap (λ w. arg_slots done ++ w) (append-nil (slots a.expr))

  mutual
    expr_runs : (n : ℕ) (t : ExprTree) → RunsTo n (value_expr features n t).1 (slots (value_expr features n t).0)
    expr_runs n (cast c t) = as_slots _ _ _ _ (fold_cast (List ℕ) (List ℕ) slots_step of_arg n c (value_expr features (n + 1) t).0) (one_runs n _ _ (expr_runs (n + 1) t))
    expr_runs n (chain s ss) = steps_run n (value_start features n s).1 (value_start features n s).0 ss (start_runs n s)

    start_runs : (n : ℕ) (s : StartTree) → RunsTo n (value_start features n s).1 (slots (value_start features n s).0)
    start_runs n (variable w) = as_slots _ _ _ _ (fold_var (List ℕ) (List ℕ) slots_step of_arg n w) (one_runs n (n + 1) [] (none_runs (n + 1)))
    start_runs n this_word = as_slots _ _ _ _ (fold_var (List ℕ) (List ℕ) slots_step of_arg n (codes "this")) (one_runs n (n + 1) [] (none_runs (n + 1)))
    start_runs n (made c xs) = as_slots _ _ _ _ (fold_new (List ℕ) (List ℕ) slots_step of_arg n c (value_args features (n + 1) xs).0) (one_runs n _ _ (args_run (n + 1) xs))
    start_runs n (bracket t) = expr_runs n t

    steps_run : (m n : ℕ) (on : Expr) (ss : StepsTree) → RunsTo m n (slots on) → RunsTo m (value_steps features n on ss).1 (slots (value_steps features n on ss).0)
    steps_run m n on stop h = h
    steps_run m n on (get f ss) h =
        steps_run m (n + 1) (e.Get n on f) ss
        (as_slots _ _ _ _ (fold_get (List ℕ) (List ℕ) slots_step of_arg n on f) (both_run m n (n + 1) (slots on) (n ∷ []) h (one_runs n (n + 1) [] (none_runs (n + 1)))))
    steps_run m n on (call f xs ss) h =
        let v = value_args features (n + 1) xs in
        steps_run m v.1 (e.Call n on f v.0) ss
        (as_slots _ _ _ _ (fold_call (List ℕ) (List ℕ) slots_step of_arg n on f v.0) (both_run m n v.1 (slots on) (n ∷ arg_slots v.0) h (one_runs n v.1 (arg_slots v.0) (args_run (n + 1) xs))))

    args_run : (n : ℕ) (xs : ArgsTree) → RunsTo n (value_args features n xs).1 (arg_slots (value_args features n xs).0)
    args_run n no_args = none_runs n
    args_run n (first_arg ms t ts) =
        let v = value_expr features n t in
        more_run n v.1 (record { colors = colors_of features ms; expr = v.0 } ∷ []) ts (as_slots n v.1 (slots v.0 ++ []) (slots v.0) (append-nil (slots v.0)) (expr_runs n t))

    more_run : (m n : ℕ) (done : List Arg) (ts : MoreArgsTree) → RunsTo m n (arg_slots done) → RunsTo m (value_more_args features n done ts).1 (arg_slots (value_more_args features n done ts).0)
    more_run m n done no_more h = h
    more_run m n done (next_arg ms t ts) h =
        let v = value_expr features n t in
        let a : Arg = record { colors = colors_of features ms; expr = v.0 } in
        more_run m v.1 (done ++ a ∷ []) ts (as_slots m v.1 _ _ (more_slots done a) (both_run m n v.1 (arg_slots done) (slots v.0) h (expr_runs n t)))

  -- ---- declarations

  params_run : (n : ℕ) (ds : List Declared) → run_from n (map (λ p. p.slot) (numbered (value_param features) n ds)) ≡ true
  params_run n [] = refl
  params_run n (d ∷ ds) = and_from _ _ (eq-eqb n n refl) (params_run (n + 1) ds)

  sents_run : (n : ℕ) (ds : List Named) → run_from n (map (λ s. s.slot) (numbered (value_sent features) n ds)) ≡ true
  sents_run n [] = refl
  sents_run n (d ∷ ds) = and_from _ _ (eq-eqb n n refl) (sents_run (n + 1) ds)

  pub ctor_numbered : (k : ClassTree) → is_numbered_ctor (value_ctor features k) ≡ true
  ctor_numbered k = and_from _ _ (and_from _ _ (params_run 0 k.params) (sents_run 0 k.sends)) (sents_run 0 k.assigns)

  pub body_numbered : (t : ExprTree) → run_from 0 (slots (value_expr features 0 t).0) ≡ true
  body_numbered t = (expr_runs 0 t).run

  pub method_numbered : (m : MethodTree) → is_numbered_method (value_method features m) ≡ true
  method_numbered m = and_from _ _ (params_run 0 m.params) (body_numbered m.body)

  methods_numbered : (ms : List MethodTree) → list_all is_numbered_method (map (value_method features) ms) ≡ true
  methods_numbered [] = refl
  methods_numbered (m ∷ ms) = and_from _ _ (method_numbered m) (methods_numbered ms)

  pub class_numbered : (k : ClassTree) → is_numbered_class (value_class features k) ≡ true
  class_numbered k =
      let methods = map (value_method features) k.methods in
      and_from _ _
      (and_from _ _
      (and_from _ _ (fields_are_numbered (map (value_field features) k.fields)) (ctor_numbered k))
      (methods_are_numbered methods))
      (numbered_methods-all is_numbered_method (λ m n. refl) methods ∙ methods_numbered k.methods)

  classes_numbered : (ks : List ClassTree) → list_all is_numbered_class (map (value_class features) ks) ≡ true
  classes_numbered [] = refl
  classes_numbered (k ∷ ks) = and_from _ _ (class_numbered k) (classes_numbered ks)

-- the product line that a tree stands for is numbered
pub value_numbered : (t : Tree) → IsNumbered (value t)
value_numbered t = classes_numbered t.features t.classes

-- what a text stands for is numbered
pub read_numbered : (text : List ℕ) (p : ProductLine) → IsTextOf projects text p → IsNumbered p
read_numbered text p is = subst IsNumbered (sym is.valued) (value_numbered is.tree)

pub class_read_numbered : (format : Format) (features : List (List ℕ)) (text : List ℕ) (k : Class) → IsTextOf (single_classes format features) text k → is_numbered_class k ≡ true
class_read_numbered format features text k is = ap is_numbered_class is.valued ∙ class_numbered features is.tree
