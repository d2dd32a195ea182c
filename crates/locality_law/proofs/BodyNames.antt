-- What a body of a variant names and calls, the line's body does.
use Rattle.std.proofs.Common.{ℕ, Bool, true, false, cond, List, [], ◌∷◌, ◌++◌, map, sym, ◌∙◌, ap, subst}
use Rattle.std.specs.List.{filter}
use Rattle.cfj_logic.specs.Selections.{Chosen}
use Rattle.cfj_logic.specs.Sides.{Sides}
use Rattle.cfj_model.proofs.ExprCases.{Proved, args_of, by_cases}
use Rattle.cfj_model.specs.Projection.{presence_of, projected_expr}
use Rattle.cfj_model.specs.Typing.{classes_named_by}
use Rattle.cfj_model.specs.declared.expr.Arg.{Arg}
use Rattle.cfj_model.specs.declared.expr.Expr.{Expr}
use Rattle.feature_views.proofs.SelectedBodies.{arg_present, projected_arg, projected_args, projected_var, projected_get, projected_call, projected_new, projected_cast}
use Rattle.unit_facts.specs.Reach.{methods_called_by}
use Rattle.locality_law.proofs.Bodies.{calls_call, calls_cast, calls_get, calls_new, calls_of_args, names_call, names_cast, names_get, names_new, names_of_args}
use Rattle.locality_law.proofs.Items.{Each, each_both, each_left, each_right}

module _ (N : List ℕ → Type 0) (s : Chosen) where
  abbrev KeepsNames : Expr → Type 0
  KeepsNames x = (around : Sides) → Each N (classes_named_by x) → Each N (classes_named_by (projected_expr s around x))

  names_kept : (around : Sides) (ys : List (Proved KeepsNames)) → Each N (names_of_args (args_of KeepsNames ys)) → Each N (names_of_args (projected_args s around (args_of KeepsNames ys)))
  names_kept around [] h = h
  names_kept around (y ∷ ys) h = go (arg_present s around y.0) (names_kept around ys (each_right N (classes_named_by y.0.expr) (names_of_args (args_of KeepsNames ys)) h))
    where
      rest : List Arg
      rest = filter (arg_present s around) (args_of KeepsNames ys)

      here : Each N (classes_named_by (projected_arg s around y.0).expr)
      here = y.1 (presence_of around y.0.colors) (each_left N (classes_named_by y.0.expr) (names_of_args (args_of KeepsNames ys)) h)

      go : (b : Bool) → Each N (names_of_args (map (projected_arg s around) rest)) → Each N (names_of_args (map (projected_arg s around) (cond b (y.0 ∷ rest) rest)))
      go true ih = each_both N (classes_named_by (projected_arg s around y.0).expr) (names_of_args (map (projected_arg s around) rest)) here ih
      go false ih = ih

  pub keeps_names : (x : Expr) (around : Sides) → Each N (classes_named_by x) → Each N (classes_named_by (projected_expr s around x))
  keeps_names = by_cases KeepsNames (record {
    var_case = λ slot name around h. subst (λ x. Each N (classes_named_by x)) (sym (projected_var s around slot name)) h;
    get_case = λ slot on part f around h.
        subst (Each N) (sym (ap classes_named_by (projected_get s around slot on f) ∙ names_get slot (projected_expr s around on) f))
        (part around (subst (Each N) (names_get slot on f) h));
    call_case = λ slot on part m ys around h.
        let args = args_of KeepsNames ys in
        let parts : Each N (classes_named_by on ++ names_of_args args) = subst (Each N) (names_call slot on m args) h in
        subst (Each N) (sym (ap classes_named_by (projected_call s around slot on m args) ∙ names_call slot (projected_expr s around on) m (projected_args s around args)))
        (each_both N (classes_named_by (projected_expr s around on)) (names_of_args (projected_args s around args))
        (part around (each_left N (classes_named_by on) (names_of_args args) parts))
        (names_kept around ys (each_right N (classes_named_by on) (names_of_args args) parts)));
    new_case = λ slot c ys around h.
        let args = args_of KeepsNames ys in
        let parts : Each N (c ∷ names_of_args args) = subst (Each N) (names_new slot c args) h in
        subst (Each N) (sym (ap classes_named_by (projected_new s around slot c args) ∙ names_new slot c (projected_args s around args))) (parts.0, names_kept around ys parts.1);
    cast_case = λ slot c on part around h.
        let parts : Each N (c ∷ classes_named_by on) = subst (Each N) (names_cast slot c on) h in
        subst (Each N) (sym (ap classes_named_by (projected_cast s around slot c on) ∙ names_cast slot c (projected_expr s around on))) (parts.0, part around parts.1);
  })

module _ (K : List ℕ → Type 0) (s : Chosen) where
  abbrev KeepsCalls : Expr → Type 0
  KeepsCalls x = (around : Sides) → Each K (methods_called_by x) → Each K (methods_called_by (projected_expr s around x))

  calls_kept : (around : Sides) (ys : List (Proved KeepsCalls)) → Each K (calls_of_args (args_of KeepsCalls ys)) → Each K (calls_of_args (projected_args s around (args_of KeepsCalls ys)))
  calls_kept around [] h = h
  calls_kept around (y ∷ ys) h = go (arg_present s around y.0) (calls_kept around ys (each_right K (methods_called_by y.0.expr) (calls_of_args (args_of KeepsCalls ys)) h))
    where
      rest : List Arg
      rest = filter (arg_present s around) (args_of KeepsCalls ys)

      here : Each K (methods_called_by (projected_arg s around y.0).expr)
      here = y.1 (presence_of around y.0.colors) (each_left K (methods_called_by y.0.expr) (calls_of_args (args_of KeepsCalls ys)) h)

      go : (b : Bool) → Each K (calls_of_args (map (projected_arg s around) rest)) → Each K (calls_of_args (map (projected_arg s around) (cond b (y.0 ∷ rest) rest)))
      go true ih = each_both K (methods_called_by (projected_arg s around y.0).expr) (calls_of_args (map (projected_arg s around) rest)) here ih
      go false ih = ih

  pub keeps_calls : (x : Expr) (around : Sides) → Each K (methods_called_by x) → Each K (methods_called_by (projected_expr s around x))
  keeps_calls = by_cases KeepsCalls (record {
    var_case = λ slot name around h. subst (λ x. Each K (methods_called_by x)) (sym (projected_var s around slot name)) h;
    get_case = λ slot on part f around h.
        subst (Each K) (sym (ap methods_called_by (projected_get s around slot on f) ∙ calls_get slot (projected_expr s around on) f))
        (part around (subst (Each K) (calls_get slot on f) h));
    call_case = λ slot on part m ys around h.
        let args = args_of KeepsCalls ys in
        let parts : Each K (m ∷ (methods_called_by on ++ calls_of_args args)) = subst (Each K) (calls_call slot on m args) h in
        subst (Each K) (sym (ap methods_called_by (projected_call s around slot on m args) ∙ calls_call slot (projected_expr s around on) m (projected_args s around args))) (
          parts.0,
          each_both K (methods_called_by (projected_expr s around on)) (calls_of_args (projected_args s around args))
              (part around (each_left K (methods_called_by on) (calls_of_args args) parts.1))
              (calls_kept around ys (each_right K (methods_called_by on) (calls_of_args args) parts.1)),
        );
    new_case = λ slot c ys around h.
        let args = args_of KeepsCalls ys in
        subst (Each K) (sym (ap methods_called_by (projected_new s around slot c args) ∙ calls_new slot c (projected_args s around args)))
        (calls_kept around ys (subst (Each K) (calls_new slot c args) h));
    cast_case = λ slot c on part around h.
        subst (Each K) (sym (ap methods_called_by (projected_cast s around slot c on) ∙ calls_cast slot c (projected_expr s around on)))
        (part around (subst (Each K) (calls_cast slot c on) h));
  })
