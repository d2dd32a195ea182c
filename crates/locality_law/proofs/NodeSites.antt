-- The nodes of a judged body stand at its slots, and the rules of each in their order.
use Rattle.std.proofs.Common.{◌≡◌, ℕ, Bool, true, false, not, ◌&&◌, List, [], ◌∷◌, ◌++◌, map, Option, is_some, option_map, refl, sym, ◌∙◌, ap, ap₂, subst}
use Rattle.std.specs.List.{flat_map}
use Rattle.std.proofs.lemmas.List.{map-append}
use Rattle.cfj_model.proofs.ExprCases.{Proved, args_of, by_cases, fold_var, fold_get, fold_call, fold_new, fold_cast, of_arg}
use Rattle.cfj_model.specs.Expressions as expressions
use Rattle.cfj_model.specs.Expressions.{slots, slots_step}
use Rattle.cfj_model.specs.Judging.{Fit, JudgedExpr, Ruling, accessed, argument_rules, called, field_types, fit_of, is_unrelated, judged_arg, judged_expr, judged_step, rank, types_of, variable_type, with_ruling}
use Rattle.cfj_model.specs.LookUps.{Table, is_known}
use Rattle.cfj_model.specs.ProductLines.{rise_from}
use Rattle.cfj_model.specs.Typing.{Environment, param_types}
use Rattle.cfj_model.specs.declared.class.Method.{Method}
use Rattle.cfj_model.specs.declared.expr.Arg.{Arg}
use Rattle.cfj_model.specs.declared.expr.Expr.{Expr}
use Rattle.cfj_model.specs.declared.site.Rule.{Rule}
use Rattle.cfj_model.specs.declared.site.Rule.TheVariants.{K1, E1, E2, E3, E4, E5, E6, E7, E8}
use Rattle.locality_law.proofs.Items.{Each, each_both}

-- what the node round it may judge at a root
pub data IsMore : List Ruling → Type 0 where
  no_more : IsMore []
  of_call : (b : Bool) → IsMore ((E5, b) ∷ [])
  of_new : (b : Bool) → IsMore ((E7, b) ∷ [])

-- the rules rise in their order
abbrev pub AreRanked : ℕ × List Ruling → Type 0
AreRanked n = rise_from 0 (map (λ (v : Ruling). rank v.0) n.1) ≡ true

-- ---- the rules at a node

abbrev ranks : List Ruling → List ℕ
ranks vs = map (λ (v : Ruling). rank v.0) vs

var_ranked : (more : List Ruling) → IsMore more → (b : Bool) → rise_from 0 (ranks ((E1, b) ∷ more)) ≡ true
var_ranked _ IsMore.no_more b = refl
var_ranked _ (IsMore.of_call c) b = refl
var_ranked _ (IsMore.of_new c) b = refl

get_ranked : (more : List Ruling) → IsMore more → (b : Bool) → rise_from 0 (ranks ((E2, b) ∷ more)) ≡ true
get_ranked _ IsMore.no_more b = refl
get_ranked _ (IsMore.of_call c) b = refl
get_ranked _ (IsMore.of_new c) b = refl

call_ranked : (more : List Ruling) → IsMore more → (b d : Bool) → rise_from 0 (ranks ((E3, b) ∷ ((E4, d) ∷ more))) ≡ true
call_ranked _ IsMore.no_more b d = refl
call_ranked _ (IsMore.of_call c) b d = refl
call_ranked _ (IsMore.of_new c) b d = refl

new_ranked : (more : List Ruling) → IsMore more → (b d : Bool) → rise_from 0 (ranks ((K1, b) ∷ with_ruling (E6, d) more)) ≡ true
new_ranked _ IsMore.no_more b d = refl
new_ranked _ (IsMore.of_call c) b d = refl
new_ranked _ (IsMore.of_new c) b d = refl

cast_ranked : (more : List Ruling) → IsMore more → (b d : Bool) → rise_from 0 (ranks ((K1, b) ∷ with_ruling (E8, d) more)) ≡ true
cast_ranked _ IsMore.no_more b d = refl
cast_ranked _ (IsMore.of_call c) b d = refl
cast_ranked _ (IsMore.of_new c) b d = refl

module _ (p : Table) (g : Environment) where
  -- the nodes' slots, and the ranks of their rules
  abbrev pub StandsAt : Expr → List Ruling → Type 0
  StandsAt x more = (map (λ (n : ℕ × List Ruling). n.0) ((judged_expr p g x).rules more) ≡ slots x) × Each AreRanked ((judged_expr p g x).rules more)

  abbrev Stands : Expr → Type 0
  Stands x = (more : List Ruling) → IsMore more → StandsAt x more

  abbrev judged_of : Arg → JudgedExpr
  judged_of = of_arg JudgedExpr JudgedExpr (judged_step p g) judged_arg

  abbrev slots_of : Arg → List ℕ
  slots_of = of_arg (List ℕ) (List ℕ) slots_step expressions.of_arg

  abbrev AreAt : List (ℕ × List Ruling) → List ℕ → Type 0
  AreAt ns ss = (map (λ (n : ℕ × List Ruling). n.0) ns ≡ ss) × Each AreRanked ns

  both_at : (ns ms : List (ℕ × List Ruling)) (ss ts : List ℕ) → AreAt ns ss → AreAt ms ts → AreAt (ns ++ ms) (ss ++ ts)
  both_at ns ms ss ts a b = (map-append (λ (n : ℕ × List Ruling). n.0) ns ms ∙ ap₂ (λ x y. x ++ y) a.0 b.0, each_both AreRanked ns ms a.1 b.1)

  one_at : (slot : ℕ) (vs : List Ruling) (ms : List (ℕ × List Ruling)) (ts : List ℕ) → AreRanked (slot, vs) → AreAt ms ts → AreAt ((slot, vs) ∷ ms) (slot ∷ ts)
  one_at slot vs ms ts h b = (ap (λ w. slot ∷ w) b.0, (h, b.1))

  as_at : (ns ms : List (ℕ × List Ruling)) (ss ts : List ℕ) → ns ≡ ms → ss ≡ ts → AreAt ms ts → AreAt ns ss
  as_at ns ms ss ts e f h = subst (λ w. AreAt w ss) (sym e) (subst (AreAt ms) (sym f) h)

  args_at : (rule : Rule) → ((b : Bool) → IsMore ((rule, b) ∷ [])) → (ys : List (Proved Stands)) (bs : List Bool)
      → AreAt (argument_rules rule (map judged_of (args_of Stands ys)) bs) (flat_map (λ s. s) (map slots_of (args_of Stands ys)))
  args_at rule is [] bs = (refl, tt)
  args_at rule is (y ∷ ys) [] =
      both_at ((judged_of y.0).rules ((rule, false) ∷ [])) (argument_rules rule (map judged_of (args_of Stands ys)) []) (slots y.0.expr) (flat_map (λ s. s) (map slots_of (args_of Stands ys)))
      (y.1 ((rule, false) ∷ []) (is false)) (args_at rule is ys [])
  args_at rule is (y ∷ ys) (b ∷ bs) =
      both_at ((judged_of y.0).rules ((rule, b) ∷ [])) (argument_rules rule (map judged_of (args_of Stands ys)) bs) (slots y.0.expr) (flat_map (λ s. s) (map slots_of (args_of Stands ys)))
      (y.1 ((rule, b) ∷ []) (is b)) (args_at rule is ys bs)

  pub stands : (x : Expr) (more : List Ruling) → IsMore more → StandsAt x more
  stands = by_cases Stands (record {
    var_case = λ slot name more is.
        let absent : Bool = not (is_some (variable_type g name)) in
        as_at _ ((slot, (E1, absent) ∷ more) ∷ []) _ (slot ∷ []) (ap (λ (j : JudgedExpr). j.rules more) (fold_var JudgedExpr JudgedExpr (judged_step p g) judged_arg slot name))
        (fold_var (List ℕ) (List ℕ) slots_step expressions.of_arg slot name)
        (one_at slot ((E1, absent) ∷ more) [] [] (var_ranked more is absent) (refl, tt));
    get_case = λ slot on part field more is.
        let j : JudgedExpr = judged_expr p g on in
        let absent : Bool = is_some j.type && not (is_some (accessed p j.type field)) in
        as_at _ (j.rules [] ++ (slot, (E2, absent) ∷ more) ∷ []) _ (slots on ++ slot ∷ []) (ap (λ (j : JudgedExpr). j.rules more) (fold_get JudgedExpr JudgedExpr (judged_step p g) judged_arg slot on field))
        (fold_get (List ℕ) (List ℕ) slots_step expressions.of_arg slot on field)
        (both_at (j.rules []) ((slot, (E2, absent) ∷ more) ∷ []) (slots on) (slot ∷ []) (part [] no_more) (one_at slot ((E2, absent) ∷ more) [] [] (get_ranked more is absent) (refl, tt)));
    call_case = λ slot on part m ys more is.
        let j : JudgedExpr = judged_expr p g on in
        let args : List JudgedExpr = map judged_of (args_of Stands ys) in
        let ss : List ℕ = flat_map (λ s. s) (map slots_of (args_of Stands ys)) in
        let ts : Option (List (List ℕ)) = types_of (map (λ a. a.type) args) in
        let d : Option Method = called p j.type ts m in
        let f : Fit = fit_of p args ts (option_map (λ (d : Method). param_types d.params) d) in
        let absent : Bool = is_some j.type && is_some ts && not (is_some d) in
        let behind : List (ℕ × List Ruling) = argument_rules E5 args f.misfits in
        as_at _ (j.rules [] ++ (slot, (E3, absent) ∷ ((E4, f.differs) ∷ more)) ∷ behind) _ (slots on ++ slot ∷ ss)
        (ap (λ (j : JudgedExpr). j.rules more) (fold_call JudgedExpr JudgedExpr (judged_step p g) judged_arg slot on m (args_of Stands ys)))
        (fold_call (List ℕ) (List ℕ) slots_step expressions.of_arg slot on m (args_of Stands ys))
        (both_at (j.rules []) ((slot, (E3, absent) ∷ ((E4, f.differs) ∷ more)) ∷ behind) (slots on) (slot ∷ ss) (part [] no_more)
        (one_at slot ((E3, absent) ∷ ((E4, f.differs) ∷ more)) behind ss (call_ranked more is absent f.differs) (args_at E5 of_call ys f.misfits)));
    new_case = λ slot c ys more is.
        let args : List JudgedExpr = map judged_of (args_of Stands ys) in
        let ss : List ℕ = flat_map (λ s. s) (map slots_of (args_of Stands ys)) in
        let f : Fit = fit_of p args (types_of (map (λ a. a.type) args)) (field_types p c) in
        let behind : List (ℕ × List Ruling) = argument_rules E7 args f.misfits in
        let here : List Ruling = (K1, not (is_known p c)) ∷ with_ruling (E6, f.differs) more in
        as_at _ ((slot, here) ∷ behind) _ (slot ∷ ss)
        (ap (λ (j : JudgedExpr). j.rules more) (fold_new JudgedExpr JudgedExpr (judged_step p g) judged_arg slot c (args_of Stands ys)))
        (fold_new (List ℕ) (List ℕ) slots_step expressions.of_arg slot c (args_of Stands ys))
        (one_at slot here behind ss (new_ranked more is (not (is_known p c)) f.differs) (args_at E7 of_new ys f.misfits));
    cast_case = λ slot c on part more is.
        let j : JudgedExpr = judged_expr p g on in
        let unrelated : Bool = is_unrelated p j.type c in
        let here : List Ruling = (K1, not (is_known p c)) ∷ with_ruling (E8, unrelated) more in
        as_at _ ((slot, here) ∷ j.rules []) _ (slot ∷ slots on) (ap (λ (j : JudgedExpr). j.rules more) (fold_cast JudgedExpr JudgedExpr (judged_step p g) judged_arg slot c on))
        (fold_cast (List ℕ) (List ℕ) slots_step expressions.of_arg slot c on)
        (one_at slot here (j.rules []) (slots on) (cast_ranked more is (not (is_known p c)) unrelated) (part [] no_more));
  })
