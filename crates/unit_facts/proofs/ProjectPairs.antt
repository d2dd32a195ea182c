-- The pairs that are listed node by node are those that the rules are judged at.
use Rattle.std.proofs.Common.{◌≡◌, ℕ, nat_lt, Bool, true, false, not, ◌&&◌, cond, List, [], ◌∷◌, ◌++◌, map, append-nil, Option, is_some, option_map, refl, sym, ◌∙◌, ap}
use Rattle.std.specs.List.{flat_map}
use Rattle.std.proofs.lemmas.Grind.{flat_map-append}
use Rattle.std.proofs.lemmas.List.{map-append}
use Rattle.std.proofs.lemmas.List.Folds.{flat_map-map}
use Rattle.cfj_model.proofs.ExprCases.{Proved, args_of, by_cases, fold_var, fold_get, fold_call, fold_new, fold_cast, of_arg}
use Rattle.cfj_model.specs.Judging.{RuleAt, JudgedExpr, Pair, Ruling, argument_rules, environment_of, judged, judged_arg, judged_at, judged_class, judged_ctor, judged_expr, judged_field, judged_method, judged_step, pair_of, pairs_of, Fit, accessed, called, field_types, fit_of, types_of, insert_ranked, is_unrelated, rank, with_ruling}
use Rattle.cfj_model.specs.LookUps.{Table, is_known}
use Rattle.cfj_model.specs.Members.{Placed, placed, placed_behind}
use Rattle.cfj_model.specs.Typing.{Environment, param_types}
use Rattle.cfj_model.specs.declared.class.Class.{Class}
use Rattle.cfj_model.specs.declared.class.Method.{Method}
use Rattle.cfj_model.specs.declared.class.Param.{Param}
use Rattle.cfj_model.specs.declared.expr.Arg.{Arg}
use Rattle.cfj_model.specs.declared.expr.Expr.{Expr}
use Rattle.cfj_model.specs.declared.expr.Expr.TheVariants as e
use Rattle.cfj_model.specs.declared.site.Rule.{Rule}
use Rattle.cfj_model.specs.declared.site.Rule.TheVariants.{K1, K2, K4, K5, K6, K7, K8, K9, E1, E2, E3, E4, E5, E6, E7, E8}
use Rattle.cfj_model.specs.declared.site.Site.{Site}
use Rattle.cfj_model.specs.declared.site.Site.TheVariants as site
use Rattle.unit_facts.specs.Pairs.{arg_pairs, class_pairs, ctor_pairs, ctor_param_pairs, field_pairs, method_pairs, node_pairs, node_pairs_step, pairs_at, param_pairs, project_pairs}

-- ---- nodes, variant by variant

module _ (at : ℕ → Site) where
  abbrev node_of : Arg → List Rule → List Pair
  node_of = of_arg (List Rule → List Pair) (List Rule → List Pair) (node_pairs_step at) (λ a. a.expr)

  args_are : (rule : Rule) (args : List Arg) → flat_map (λ a. a (rule ∷ [])) (map node_of args) ≡ arg_pairs at rule args
  args_are rule args = flat_map-map (λ a. a (rule ∷ [])) node_of args

  pub node_var : (slot : ℕ) (name : List ℕ) (more : List Rule) → node_pairs at (e.Var slot name) more ≡ pairs_at (at slot) (E1 ∷ more)
  node_var slot name more = ap (λ f. f more) (fold_var (List Rule → List Pair) (List Rule → List Pair) (node_pairs_step at) (λ a. a.expr) slot name)

  pub node_get : (slot : ℕ) (on : Expr) (field : List ℕ) (more : List Rule) → node_pairs at (e.Get slot on field) more ≡ node_pairs at on [] ++ pairs_at (at slot) (E2 ∷ more)
  node_get slot on field more = ap (λ f. f more) (fold_get (List Rule → List Pair) (List Rule → List Pair) (node_pairs_step at) (λ a. a.expr) slot on field)

  pub node_call : (slot : ℕ) (on : Expr) (method : List ℕ) (args : List Arg) (more : List Rule) →
      node_pairs at (e.Call slot on method args) more ≡ node_pairs at on [] ++ (pairs_at (at slot) (E3 ∷ (E4 ∷ more)) ++ arg_pairs at E5 args)
  node_call slot on method args more =
      ap (λ f. f more) (fold_call (List Rule → List Pair) (List Rule → List Pair) (node_pairs_step at) (λ a. a.expr) slot on method args)
      ∙ ap (λ ps. node_pairs at on [] ++ (pairs_at (at slot) (E3 ∷ (E4 ∷ more)) ++ ps)) (args_are E5 args)

  pub node_new : (slot : ℕ) (class : List ℕ) (args : List Arg) (more : List Rule) → node_pairs at (e.New slot class args) more ≡ pairs_at (at slot) (K1 ∷ insert_ranked rank E6 more) ++ arg_pairs at E7 args
  node_new slot class args more =
      ap (λ f. f more) (fold_new (List Rule → List Pair) (List Rule → List Pair) (node_pairs_step at) (λ a. a.expr) slot class args)
      ∙ ap (λ ps. pairs_at (at slot) (K1 ∷ insert_ranked rank E6 more) ++ ps) (args_are E7 args)

  pub node_cast : (slot : ℕ) (class : List ℕ) (on : Expr) (more : List Rule) → node_pairs at (e.Cast slot class on) more ≡ pairs_at (at slot) (K1 ∷ insert_ranked rank E8 more) ++ node_pairs at on []
  node_cast slot class on more = ap (λ f. f more) (fold_cast (List Rule → List Pair) (List Rule → List Pair) (node_pairs_step at) (λ a. a.expr) slot class on)

-- ---- what is judged at a site, at items and at nodes

-- the rules with one more ruling
rules_with : (v : Ruling) (vs : List Ruling) → map (λ v. v.0) (with_ruling v vs) ≡ insert_ranked rank v.0 (map (λ v. v.0) vs)
rules_with v [] = refl
rules_with v (w ∷ ws) = go (nat_lt (rank w.0) (rank v.0)) (rules_with v ws)
  where
    go : (b : Bool) → map (λ v. v.0) (with_ruling v ws) ≡ insert_ranked rank v.0 (map (λ v. v.0) ws)
        → map (λ v. v.0) (cond b (w ∷ with_ruling v ws) (v ∷ (w ∷ ws))) ≡ cond b (w.0 ∷ insert_ranked rank v.0 (map (λ v. v.0) ws)) (v.0 ∷ (w.0 ∷ map (λ v. v.0) ws))
    go true ih = ap (λ rs. w.0 ∷ rs) ih
    go false ih = refl

pub judged_pairs : (s : Site) (vs : List Ruling) → map pair_of (judged_at s vs) ≡ pairs_at s (map (λ v. v.0) vs)
judged_pairs s [] = refl
judged_pairs s (v ∷ vs) = ap (λ ps. (s, v.0) ∷ ps) (judged_pairs s vs)

pub pairs_append : (js ks : List RuleAt) (ps qs : List Pair) → map pair_of js ≡ ps → map pair_of ks ≡ qs → map pair_of (js ++ ks) ≡ ps ++ qs
pairs_append js ks ps qs first then = map-append pair_of js ks ∙ ap (λ z. z ++ map pair_of ks) first ∙ ap (λ z. ps ++ z) then

pub item_pairs : {A : Type 0} (of : A → List RuleAt) (pairs : A → List Pair) → ((x : A) → map pair_of (of x) ≡ pairs x) → (xs : List A) → map pair_of (flat_map of xs) ≡ flat_map pairs xs
item_pairs of pairs each [] = refl
item_pairs of pairs each (x ∷ xs) = pairs_append (of x) (flat_map of xs) (pairs x) (flat_map pairs xs) (each x) (item_pairs of pairs each xs)

module _ (at : ℕ → Site) (p : Table) (g : Environment) where
  -- the pairs of what is judged at nodes, by slot
  abbrev slot_pairs : List (ℕ × List Ruling) → List Pair
  slot_pairs ns = map pair_of (flat_map (λ n. judged_at (at n.0) n.1) ns)

  slots_then : (ns ms : List (ℕ × List Ruling)) (ps qs : List Pair) → slot_pairs ns ≡ ps → slot_pairs ms ≡ qs → slot_pairs (ns ++ ms) ≡ ps ++ qs
  slots_then ns ms ps qs first then =
      ap (map pair_of) (flat_map-append (λ n. judged_at (at n.0) n.1) ns ms)
      ∙ pairs_append (flat_map (λ n. judged_at (at n.0) n.1) ns) (flat_map (λ n. judged_at (at n.0) n.1) ms) ps qs first then

  slot_then : (slot : ℕ) (vs : List Ruling) (ms : List (ℕ × List Ruling)) (qs : List Pair) → slot_pairs ms ≡ qs → slot_pairs ((slot, vs) ∷ ms) ≡ pairs_at (at slot) (map (λ v. v.0) vs) ++ qs
  slot_then slot vs ms qs then =
      pairs_append (judged_at (at slot) vs) (flat_map (λ n. judged_at (at n.0) n.1) ms) (pairs_at (at slot) (map (λ v. v.0) vs)) qs (judged_pairs (at slot) vs) then

  slot_alone : (slot : ℕ) (vs : List Ruling) → slot_pairs ((slot, vs) ∷ []) ≡ pairs_at (at slot) (map (λ v. v.0) vs)
  slot_alone slot vs = slot_then slot vs [] [] refl ∙ append-nil (pairs_at (at slot) (map (λ v. v.0) vs))

  -- the pairs of what is judged in an expression are listed, whatever is judged there
  abbrev IsListed : Expr → Type 0
  IsListed x = (more : List Ruling) → slot_pairs ((judged_expr p g x).rules more) ≡ node_pairs at x (map (λ v. v.0) more)

  abbrev judged_of : Arg → JudgedExpr
  judged_of = of_arg JudgedExpr JudgedExpr (judged_step p g) judged_arg

  args_listed : (rule : Rule) (ys : List (Proved IsListed)) (bs : List Bool) → slot_pairs (argument_rules rule (map judged_of (args_of IsListed ys)) bs) ≡ arg_pairs at rule (args_of IsListed ys)
  args_listed rule [] bs = refl
  args_listed rule (y ∷ ys) [] =
      slots_then ((judged_of y.0).rules ((rule, false) ∷ [])) (argument_rules rule (map judged_of (args_of IsListed ys)) []) (node_pairs at y.0.expr (rule ∷ [])) (arg_pairs at rule (args_of IsListed ys))
      (y.1 ((rule, false) ∷ [])) (args_listed rule ys [])
  args_listed rule (y ∷ ys) (b ∷ bs) =
      slots_then ((judged_of y.0).rules ((rule, b) ∷ [])) (argument_rules rule (map judged_of (args_of IsListed ys)) bs) (node_pairs at y.0.expr (rule ∷ [])) (arg_pairs at rule (args_of IsListed ys))
      (y.1 ((rule, b) ∷ [])) (args_listed rule ys bs)

  var_listed : (slot : ℕ) (name : List ℕ) → IsListed (e.Var slot name)
  var_listed slot name more =
      ap (λ j. slot_pairs (j.rules more)) (fold_var JudgedExpr JudgedExpr (judged_step p g) judged_arg slot name)
      ∙ ap (λ z. (at slot, E1) ∷ z) (slot_alone slot more)
      ∙ sym (node_var at slot name (map (λ v. v.0) more))

  get_listed : (slot : ℕ) (on : Expr) → IsListed on → (field : List ℕ) → IsListed (e.Get slot on field)
  get_listed slot on listed field more =
      let j : JudgedExpr = judged_expr p g on in
      let absent : Bool = is_some j.type && not (is_some (accessed p j.type field)) in
      ap (λ j. slot_pairs (j.rules more)) (fold_get JudgedExpr JudgedExpr (judged_step p g) judged_arg slot on field)
      ∙ slots_then (j.rules []) ((slot, (E2, absent) ∷ more) ∷ []) (node_pairs at on []) (pairs_at (at slot) (E2 ∷ map (λ v. v.0) more)) (listed [])
      (ap (λ z. (at slot, E2) ∷ z) (slot_alone slot more))
      ∙ sym (node_get at slot on field (map (λ v. v.0) more))

  call_listed : (slot : ℕ) (on : Expr) → IsListed on → (method : List ℕ) (ys : List (Proved IsListed)) → IsListed (e.Call slot on method (args_of IsListed ys))
  call_listed slot on listed method ys more =
      let j : JudgedExpr = judged_expr p g on in
      let args : List JudgedExpr = map judged_of (args_of IsListed ys) in
      let ts : Option (List (List ℕ)) = types_of (map (λ a. a.type) args) in
      let d : Option Method = called p j.type ts method in
      let f : Fit = fit_of p args ts (option_map (λ (d : Method). param_types d.params) d) in
      let ms : List (ℕ × List Ruling) = argument_rules E5 args f.misfits in
      ap (λ j. slot_pairs (j.rules more)) (fold_call JudgedExpr JudgedExpr (judged_step p g) judged_arg slot on method (args_of IsListed ys))
      ∙ slots_then (j.rules []) ((slot, (E3, is_some j.type && is_some ts && not (is_some d)) ∷ ((E4, f.differs) ∷ more)) ∷ ms) (node_pairs at on [])
      (pairs_at (at slot) (E3 ∷ (E4 ∷ map (λ v. v.0) more)) ++ arg_pairs at E5 (args_of IsListed ys)) (listed [])
      (ap (λ z. (at slot, E3) ∷ ((at slot, E4) ∷ z)) (slot_then slot more ms (arg_pairs at E5 (args_of IsListed ys)) (args_listed E5 ys f.misfits)))
      ∙ sym (node_call at slot on method (args_of IsListed ys) (map (λ v. v.0) more))

  new_listed : (slot : ℕ) (class : List ℕ) (ys : List (Proved IsListed)) → IsListed (e.New slot class (args_of IsListed ys))
  new_listed slot class ys more =
      let args : List JudgedExpr = map judged_of (args_of IsListed ys) in
      let f : Fit = fit_of p args (types_of (map (λ a. a.type) args)) (field_types p class) in
      ap (λ j. slot_pairs (j.rules more)) (fold_new JudgedExpr JudgedExpr (judged_step p g) judged_arg slot class (args_of IsListed ys))
      ∙ slot_then slot ((K1, not (is_known p class)) ∷ with_ruling (E6, f.differs) more) (argument_rules E7 args f.misfits) (arg_pairs at E7 (args_of IsListed ys)) (args_listed E7 ys f.misfits)
      ∙ ap (λ rs. pairs_at (at slot) (K1 ∷ rs) ++ arg_pairs at E7 (args_of IsListed ys)) (rules_with (E6, f.differs) more)
      ∙ sym (node_new at slot class (args_of IsListed ys) (map (λ v. v.0) more))

  cast_listed : (slot : ℕ) (class : List ℕ) (on : Expr) → IsListed on → IsListed (e.Cast slot class on)
  cast_listed slot class on listed more =
      ap (λ j. slot_pairs (j.rules more)) (fold_cast JudgedExpr JudgedExpr (judged_step p g) judged_arg slot class on)
      ∙ slot_then slot ((K1, not (is_known p class)) ∷ with_ruling (E8, is_unrelated p (judged_expr p g on).type class) more) ((judged_expr p g on).rules []) (node_pairs at on []) (listed [])
      ∙ ap (λ rs. pairs_at (at slot) (K1 ∷ rs) ++ node_pairs at on []) (rules_with (E8, is_unrelated p (judged_expr p g on).type class) more)
      ∙ sym (node_cast at slot class on (map (λ v. v.0) more))

  nodes_listed : (x : Expr) → IsListed x
  nodes_listed = by_cases IsListed (record { var_case = var_listed; get_case = get_listed; call_case = call_listed; new_case = new_listed; cast_case = cast_listed })

-- ---- declarations

-- of items that are judged with those before them, where the pairs are those of the items alone
pub placed_pairs : {A : Type 0} (of : Placed A → List RuleAt) (pairs : A → List Pair) → ((q : Placed A) → map pair_of (of q) ≡ pairs q.item)
    → (before xs : List A) → map pair_of (flat_map of (placed_behind before xs)) ≡ flat_map pairs xs
placed_pairs of pairs each before [] = refl
placed_pairs {A = A} of pairs each before (x ∷ xs) =
    let here : Placed A = record { before = before; item = x } in
    pairs_append (of here) (flat_map of (placed_behind (before ++ x ∷ []) xs)) (pairs x) (flat_map pairs xs) (each here)
    (placed_pairs of pairs each (before ++ x ∷ []) xs)

module _ (p : Table) (k : Class) where
  pub ctor_listed : map pair_of (judged_ctor p k) ≡ ctor_pairs k
  ctor_listed =
      let s = site.Ctor k.name in
      ap (λ z. (s, K4) ∷ ((s, K5) ∷ ((s, K6) ∷ z)))
      (item_pairs (λ (q : Param). judged_at (site.CtorParam k.name q.slot) ((K1, not (is_known p q.of)) ∷ [])) (ctor_param_pairs k) (λ q. refl) k.ctor.params)

  pub method_listed : (q : Placed Method) → map pair_of (judged_method p k q) ≡ method_pairs k q.item
  method_listed q =
      let m : Method = q.item in
      let s = site.Method k.name m.name m.alt in
      let at = λ (slot : ℕ). site.Node k.name m.name m.alt slot in
      let param = λ (q : Param). judged_at (site.Param k.name m.name m.alt q.slot) ((K1, not (is_known p q.of)) ∷ []) in
      let nodes = (judged_expr p (environment_of k m) m.body).rules [] in
      ap (λ z. (s, K1) ∷ ((s, K7) ∷ ((s, K8) ∷ ((s, K9) ∷ z))))
      (pairs_append (flat_map param m.params) (flat_map (λ n. judged_at (at n.0) n.1) nodes) (flat_map (param_pairs k m) m.params) (node_pairs at m.body [])
      (item_pairs param (param_pairs k m) (λ q. refl) m.params)
      (nodes_listed at p (environment_of k m) m.body []))

  class_listed : map pair_of (judged_class p k) ≡ class_pairs k
  class_listed =
      let s = site.Class k.name in
      let methods = flat_map (judged_method p k) (placed k.methods) in
      ap (λ z. (s, K1) ∷ ((s, K2) ∷ z))
      (pairs_append (flat_map (judged_field p k) (placed k.fields)) (judged_ctor p k ++ methods) (flat_map (field_pairs k) k.fields) (ctor_pairs k ++ flat_map (method_pairs k) k.methods)
      (placed_pairs (judged_field p k) (field_pairs k) (λ f. refl) [] k.fields)
      (pairs_append (judged_ctor p k) methods (ctor_pairs k) (flat_map (method_pairs k) k.methods) ctor_listed
      (placed_pairs (judged_method p k) (method_pairs k) method_listed [] k.methods)))

-- all pairs of a project
pub project_listed : (p : Table) → pairs_of p ≡ project_pairs p
unfolding judged
project_listed p = item_pairs (judged_class p) class_pairs (class_listed p) p
