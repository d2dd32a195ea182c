-- Each expression's tree with the fewest brackets: where the expression is numbered, the tree stands for it.
use Rattle.std.proofs.Common.{◌≡◌, ℕ, ◌+◌, Bool, true, false, ◌&&◌, ◌==◌, codes, if◌then◌else◌, List, [], ◌∷◌, ◌++◌, length, map, refl, sym, ap, subst, ◌∙◌, append_assoc, length-append, arith}
use Rattle.std.specs.List.{list_all}
use Rattle.std.specs.Str.{bytes_eq}
use Rattle.std.proofs.lemmas.Bool.{and_parts, eqb-true}
use Rattle.std.proofs.lemmas.List.{append-nil}
use Rattle.std.proofs.lemmas.List.Concat.{flat_map-cons}
use Rattle.std.proofs.lemmas.List.Folds.{list_all-map}
use Rattle.std.proofs.lemmas.Slice.Eq.{bytes_eq-Decides}
use Rattle.cfj_model.specs.declared.expr.Arg.{Arg, Arg-F}
use Rattle.cfj_model.specs.declared.expr.Expr.{Expr}
use Rattle.cfj_model.specs.declared.expr.Expr.TheOpen.{Expr-F}
use Rattle.cfj_model.specs.declared.expr.Expr.TheVariants as e
use Rattle.cfj_model.specs.declared.expr.Expr.TheFolds.{fold-Expr}
use Rattle.cfj_model.specs.ExpressionGrammar.{ExprTree, cast, chain, variable, this_word, made, bracket, StepsTree, stop, get, call, ArgsTree, no_args, first_arg, MoreArgsTree, no_more, next_arg, Numbered, value_expr, value_steps, value_args, value_more_args}
use Rattle.cfj_model.specs.Coloring.{Palette, are_known}
use Rattle.cfj_model.specs.declared.signed.Signed.{Signed}
use Rattle.cfj_model.specs.Expressions.{of_arg, slots_step, slots, is_named_step, is_named_arg, is_named}
use Rattle.cfj_model.specs.Marks.{colors_of}
use Rattle.cfj_words.specs.Names.{is_short_identifier}
use Rattle.cfj_model.specs.Numbered.{run_from}
use Rattle.cfj_model.specs.ProductLines.{are_distinct}
use Rattle.cfj_model.proofs.Numbering.{arg_slots}
use Rattle.cfj_model.proofs.ExprCases.{Proved, args_of, Cases, by_cases, fold_var, fold_get, fold_call, fold_new, fold_cast}
use Rattle.print_law.proofs.Features.{marks_of, colors_again}

-- an argument's marks and its tree
pub record ArgTree : Type 0 where
  pub marks : List Signed
  pub tree : ExprTree

abbrev pub more_of : List ArgTree → MoreArgsTree
more_of [] = no_more
more_of (a ∷ args) = next_arg a.marks a.tree (more_of args)

abbrev pub args_tree : List ArgTree → ArgsTree
args_tree [] = no_args
args_tree (a ∷ args) = first_arg a.marks a.tree (more_of args)

-- more steps behind those of a tree
abbrev pub with_steps : StepsTree → StepsTree → StepsTree
with_steps stop more = more
with_steps (get f ss) more = get f (with_steps ss more)
with_steps (call m args ss) more = call m args (with_steps ss more)

-- steps behind a receiver; a cast stands in brackets there
abbrev pub received : ExprTree → StepsTree → ExprTree
received (cast c t) more = chain (bracket (cast c t)) more
received (chain s ss) more = chain s (with_steps ss more)

abbrev pub tree_step : Expr-F ExprTree ArgTree → ExprTree
tree_step (Expr-F.Var slot name) = chain (if bytes_eq name (codes "this") then this_word else variable name) stop
tree_step (Expr-F.Get slot on field) = received on (get field stop)
tree_step (Expr-F.Call slot on method args) = received on (call method (args_tree args) stop)
tree_step (Expr-F.New slot class args) = chain (made class (args_tree args)) stop
tree_step (Expr-F.Cast slot class on) = cast class on

abbrev pub arg_tree_step : List (List ℕ) → Arg-F ExprTree ArgTree → ArgTree
arg_tree_step features a = record { marks = marks_of features a.colors; tree = a.expr }

-- the tree of an expression
abbrev pub tree_of_expr : List (List ℕ) → Expr → ExprTree
tree_of_expr features = fold-Expr ExprTree ArgTree tree_step (arg_tree_step features)

-- and that of an argument, with its marks
abbrev pub tree_of_arg : List (List ℕ) → Arg → ArgTree
tree_of_arg features a = record { marks = marks_of features a.colors; tree = tree_of_expr features a.expr }

-- ---- slots that run

pub run_append : (n : ℕ) (xs ys : List ℕ) → run_from n (xs ++ ys) ≡ true → (run_from n xs ≡ true) × (run_from (n + length xs) ys ≡ true)
run_append n [] ys h = (refl, subst (λ m. run_from m ys ≡ true) (omega arith) h)
run_append n (x ∷ xs) ys h =
    let p = and_parts (x == n) (run_from (n + 1) (xs ++ ys)) h in
    let q = run_append (n + 1) xs ys p.1 in
    (subst (λ b. (b && run_from (n + 1) xs) ≡ true) (sym p.0) q.0, subst (λ m. run_from m ys ≡ true) (omega arith) q.1)

-- the first of them is the least
pub run_first : (n s : ℕ) (ss : List ℕ) → run_from n (s ∷ ss) ≡ true → (s ≡ n) × (run_from (n + 1) ss ≡ true)
run_first n s ss h = let p = and_parts (s == n) (run_from (n + 1) ss) h in (eqb-true s n p.0, p.1)

-- ---- the value

module _ (palette : Palette) (features : List (List ℕ)) where
  abbrev tree : Expr → ExprTree
  tree = tree_of_expr features

  abbrev arg_tree : Arg → ArgTree
  arg_tree = tree_of_arg features

  abbrev value : ℕ → ExprTree → Numbered Expr
  value = value_expr features

  steps_value : (ss more : StepsTree) (n : ℕ) (x : Expr) → value_steps features n x (with_steps ss more) ≡ value_steps features (value_steps features n x ss).1 (value_steps features n x ss).0 more
  steps_value stop more n x = refl
  steps_value (get f ss) more n x = steps_value ss more _ _
  steps_value (call m args ss) more n x = steps_value ss more _ _

  received_value : (t : ExprTree) (more : StepsTree) (n : ℕ) → value n (received t more) ≡ value_steps features (value n t).1 (value n t).0 more
  received_value (cast c t) more n = refl
  received_value (chain s ss) more n = steps_value ss more _ _

  -- the tree of a numbered expression stands for it
  pub record Again (x : Expr) : Type 0 where
    pub again : (n : ℕ) → run_from n (slots x) ≡ true → is_named palette x ≡ true → value n (tree x) ≡ (x, n + length (slots x))

  abbrev arg_named : Arg → Bool
  arg_named a = are_known palette a.colors && is_named palette a.expr

  module _ (distinct : are_distinct features ≡ true) (sized : palette.features ≡ length features) where
    -- an argument before others
    next_again : (a : Arg) (ts : MoreArgsTree) (done : List Arg) (n : ℕ) → Again a.expr → run_from n (slots a.expr) ≡ true → arg_named a ≡ true
        → value_more_args features n done (next_arg (arg_tree a).marks (arg_tree a).tree ts) ≡ value_more_args features (n + length (slots a.expr)) (done ++ a ∷ []) ts
    next_again a ts done n ih h k =
        let p = and_parts (are_known palette a.colors) (is_named palette a.expr) k in
        let colors : colors_of features (marks_of features a.colors) ≡ a.colors = colors_again features palette a.colors distinct sized p.0 in
        ap (λ (v : Numbered Expr). value_more_args features v.1 (done ++ record { colors = colors_of features (marks_of features a.colors); expr = v.0 } ∷ []) ts) (ih.again n h p.1)
        ∙ ap (λ c. value_more_args features (n + length (slots a.expr)) (done ++ record { colors = c; expr = a.expr } ∷ []) ts) colors

    more_again : (ys : List (Proved Again)) (done : List Arg) (n : ℕ) → run_from n (arg_slots (args_of Again ys)) ≡ true → list_all arg_named (args_of Again ys) ≡ true
        → value_more_args features n done (more_of (map arg_tree (args_of Again ys))) ≡ (done ++ args_of Again ys, n + length (arg_slots (args_of Again ys)))
    more_again [] done n h k = ap (λ w. (w, n)) (sym (append-nil done)) ∙ ap (λ m. (done ++ [], m)) (let e : n ≡ n + 0 = omega arith in e)
    more_again (y ∷ ys) done n h k =
        let a = y.0 in
        let args = args_of Again ys in
        let s : arg_slots (a ∷ args) ≡ slots a.expr ++ arg_slots args = flat_map-cons (λ s. s) (slots a.expr) (map (λ (a : Arg). slots a.expr) args) in
        let r = run_append n (slots a.expr) (arg_slots args) (subst (λ w. run_from n w ≡ true) s h) in
        let p = and_parts (arg_named a) (list_all arg_named args) k in
        let size : n + length (slots a.expr) + length (arg_slots args) ≡ n + length (arg_slots (a ∷ args)) = omega (arith, ap length s, length-append (slots a.expr) (arg_slots args)) in
        next_again a (more_of (map arg_tree args)) done n y.1 r.0 p.0
        ∙ more_again ys (done ++ a ∷ []) (n + length (slots a.expr)) r.1 p.1
        ∙ ap (λ w. (w, n + length (slots a.expr) + length (arg_slots args))) (append_assoc done (a ∷ []) args)
        ∙ ap (λ m. (done ++ a ∷ args, m)) size

    args_again : (ys : List (Proved Again)) (n : ℕ) → run_from n (arg_slots (args_of Again ys)) ≡ true → list_all arg_named (args_of Again ys) ≡ true
        → value_args features n (args_tree (map arg_tree (args_of Again ys))) ≡ (args_of Again ys, n + length (arg_slots (args_of Again ys)))
    args_again [] n h k = more_again [] [] n h k
    args_again (y ∷ ys) n h k = more_again (y ∷ ys) [] n h k

    var_value : (n : ℕ) (name : List ℕ) (b : Bool) → bytes_eq name (codes "this") ≡ b → value n (chain (if bytes_eq name (codes "this") then this_word else variable name) stop) ≡ (e.Var n name, n + 1)
    var_value n name true h = rw h (ap (λ w. (e.Var n w, n + 1)) (sym ((bytes_eq-Decides name (codes "this")).0 h)))
    var_value n name false h = rw h refl

    abbrev step : Expr-F (List ℕ) (List ℕ) → List ℕ
    step = slots_step

    abbrev named : Expr-F Bool Bool → Bool
    named = is_named_step

    abbrev named_arg : Arg-F Bool Bool → Bool
    named_arg = is_named_arg palette

    abbrev with_number : Expr → ℕ → Numbered Expr
    with_number x n = (x, n)

    numbers : {A : Type 0} (x y : A) (m n : ℕ) → x ≡ y → m ≡ n → ◌≡◌ {A = A × ℕ} (x, m) (y, n)
    numbers x y m n p q = ap (λ w. (w, m)) p ∙ ap (λ k. (y, k)) q

    again_cases : Cases Again
    again_cases = record {
      var_case = λ slot name. record {
        again = λ n h k.
            let s = fold_var (List ℕ) (List ℕ) step of_arg slot name in
            let r = run_first n slot [] (subst (λ w. run_from n w ≡ true) s h) in
            ap (value n) (fold_var ExprTree ArgTree tree_step (arg_tree_step features) slot name)
            ∙ var_value n name (bytes_eq name (codes "this")) refl
            ∙ numbers _ _ _ _ (ap (λ i. e.Var i name) (sym r.0)) (omega (arith, ap length s));
      };
      get_case = λ slot on ih field. record {
        again = λ n h k.
            let s = fold_get (List ℕ) (List ℕ) step of_arg slot on field in
            let r = run_append n (slots on) (slot ∷ []) (subst (λ w. run_from n w ≡ true) s h) in
            let i = run_first (n + length (slots on)) slot [] r.1 in
            let p = and_parts (is_named palette on) (is_short_identifier field) (sym (fold_get Bool Bool named named_arg slot on field) ∙ k) in
            ap (value n) (fold_get ExprTree ArgTree tree_step (arg_tree_step features) slot on field)
            ∙ received_value (tree on) (get field stop) n
            ∙ ap (λ (v : Numbered Expr). value_steps features v.1 v.0 (get field stop)) (ih.again n r.0 p.0)
            ∙ numbers _ _ _ _ (ap (λ j. e.Get j on field) (sym i.0)) (omega (arith, ap length s, length-append (slots on) (slot ∷ [])));
      };
      call_case = λ slot on ih method ys. record {
        again = λ n h k.
            let args = args_of Again ys in
            let s = fold_call (List ℕ) (List ℕ) step of_arg slot on method args in
            let r = run_append n (slots on) (slot ∷ arg_slots args) (subst (λ w. run_from n w ≡ true) s h) in
            let i = run_first (n + length (slots on)) slot (arg_slots args) r.1 in
            let p = and_parts (is_named palette on && is_short_identifier method) (list_all (λ b. b) (map arg_named args)) (sym (fold_call Bool Bool named named_arg slot on method args) ∙ k) in
            let q = and_parts (is_named palette on) (is_short_identifier method) p.0 in
            ap (value n) (fold_call ExprTree ArgTree tree_step (arg_tree_step features) slot on method args)
            ∙ received_value (tree on) (call method (args_tree (map arg_tree args)) stop) n
            ∙ ap (λ (v : Numbered Expr). value_steps features v.1 v.0 (call method (args_tree (map arg_tree args)) stop)) (ih.again n r.0 q.0)
            ∙ ap (λ (v : Numbered (List Arg)). with_number (e.Call (n + length (slots on)) on method v.0) v.1) (args_again ys (n + length (slots on) + 1) i.1 (sym (list_all-map (λ b. b) arg_named args) ∙ p.1))
            ∙ numbers _ _ _ _ (ap (λ j. e.Call j on method args) (sym i.0)) (omega (arith, ap length s, length-append (slots on) (slot ∷ arg_slots args)));
      };
      new_case = λ slot class ys. record {
        again = λ n h k.
            let args = args_of Again ys in
            let s = fold_new (List ℕ) (List ℕ) step of_arg slot class args in
            let i = run_first n slot (arg_slots args) (subst (λ w. run_from n w ≡ true) s h) in
            let p = and_parts (is_short_identifier class) (list_all (λ b. b) (map arg_named args)) (sym (fold_new Bool Bool named named_arg slot class args) ∙ k) in
            ap (value n) (fold_new ExprTree ArgTree tree_step (arg_tree_step features) slot class args)
            ∙ ap (λ (v : Numbered (List Arg)). with_number (e.New n class v.0) v.1) (args_again ys (n + 1) i.1 (sym (list_all-map (λ b. b) arg_named args) ∙ p.1))
            ∙ numbers _ _ _ _ (ap (λ j. e.New j class args) (sym i.0)) (omega (arith, ap length s));
      };
      cast_case = λ slot class on ih. record {
        again = λ n h k.
            let s = fold_cast (List ℕ) (List ℕ) step of_arg slot class on in
            let i = run_first n slot (slots on) (subst (λ w. run_from n w ≡ true) s h) in
            let p = and_parts (is_short_identifier class) (is_named palette on) (sym (fold_cast Bool Bool named named_arg slot class on) ∙ k) in
            ap (value n) (fold_cast ExprTree ArgTree tree_step (arg_tree_step features) slot class on)
            ∙ ap (λ (v : Numbered Expr). with_number (e.Cast n class v.0) v.1) (ih.again (n + 1) i.1 p.1)
            ∙ numbers _ _ _ _ (ap (λ j. e.Cast j class on) (sym i.0)) (omega (arith, ap length s));
      };
    }

    pub expr_again : (x : Expr) → Again x
    expr_again = by_cases Again again_cases
