-- The aligned reading of a unit has the unit's pairs, in their order.
use Rattle.std.proofs.Common.{◌≡◌, ℕ, nat_lt, Bool, true, false, not, ◌&&◌, cond, List, [], ◌∷◌, ◌++◌, map, append-nil, Option, None, Some, is_some, option_map, refl, sym, ◌∙◌, ap}
use Rattle.std.specs.List.{flat_map}
use Rattle.std.specs.Option.{option_and_then}
use Rattle.std.proofs.lemmas.Grind.{flat_map-append}
use Rattle.cfj_logic.specs.Selections.{Chosen}
use Rattle.cfj_logic.specs.Sides.{Sides}
use Rattle.cfj_model.proofs.ExprCases.{Proved, args_of, by_cases, fold_var, fold_get, fold_call, fold_new, fold_cast, of_arg}
use Rattle.cfj_model.specs.Judging.{JudgedExpr, Pair, RuleAt, Ruling, accessed, environment_of, insert_ranked, is_unrelated, judged_at, pair_of, rank, variable_type, with_ruling}
use Rattle.cfj_model.specs.LookUps.{Table, declared, is_known}
use Rattle.cfj_model.specs.Members.{Placed, placed}
use Rattle.cfj_model.specs.ProductLines.{ProductLine}
use Rattle.cfj_model.specs.Projection.{is_present, presence_of, projected, projected_class, projected_method}
use Rattle.cfj_model.specs.Typing.{Environment}
use Rattle.cfj_model.specs.declared.class.Class.{Class}
use Rattle.cfj_model.specs.declared.class.Method.{Method}
use Rattle.cfj_model.specs.declared.expr.Arg.{Arg}
use Rattle.cfj_model.specs.declared.expr.Expr.{Expr}
use Rattle.cfj_model.specs.declared.expr.Expr.TheVariants as e
use Rattle.cfj_model.specs.declared.site.Rule.{Rule}
use Rattle.cfj_model.specs.declared.site.Rule.TheVariants.{K1, K2, K4, K5, K6, K7, K8, K9, E1, E2, E3, E4, E5, E6, E7, E8}
use Rattle.cfj_model.specs.declared.site.Site.{Site}
use Rattle.cfj_model.specs.declared.site.Site.TheVariants as site
use Rattle.class_table.proofs.Without.{declared_name}
use Rattle.locality_law.specs.Seen.{Found, SeenArg, found_call, found_new, handed_out, present_nodes, present_types, seen_arg_step, seen_ctor, seen_ctor_param, seen_expr, seen_field, seen_method, seen_own, seen_param, seen_rules, seen_step, seen_unit, silent, silent_rulings, where_present}
use Rattle.unit_facts.proofs.ProjectPairs.{item_pairs, judged_pairs, node_get, node_call, node_new, node_cast, node_var, pairs_append, placed_pairs}
use Rattle.unit_facts.specs.Pairs.{arg_pairs, ctor_pairs, ctor_param_pairs, field_pairs, method_pairs, node_pairs, pairs_at, param_pairs}
use Rattle.unit_facts.specs.Facts.{own_of}
use Rattle.unit_facts.specs.Units.{placed_method, of_some, unit_pairs}
use Rattle.unit_facts.specs.declared.unit.Unit.{Unit}
use Rattle.unit_facts.specs.declared.unit.Unit.TheVariants as unit
use Rattle.locality_law.proofs.UnitPairs.{class_called, class_pairs_known, method_pairs_known, own_pairs}

-- ---- what isn't there has its pairs

silent_pairs : (js : List RuleAt) → map pair_of (silent js) ≡ map pair_of js
silent_pairs [] = refl
silent_pairs (j ∷ js) = ap (λ w. pair_of j ∷ w) (silent_pairs js)

where_pairs : (here : Bool) (js : List RuleAt) → map pair_of (where_present here js) ≡ map pair_of js
where_pairs true js = refl
where_pairs false js = silent_pairs js

module _ (at : ℕ → Site) where
  -- the pairs of nodes, by slot
  abbrev slot_pairs : List (ℕ × List Ruling) → List Pair
  slot_pairs ns = map pair_of (flat_map (λ (n : ℕ × List Ruling). judged_at (at n.0) n.1) ns)

  silent_rules : (vs : List Ruling) → map (λ (v : Ruling). v.0) (silent_rulings vs) ≡ map (λ (v : Ruling). v.0) vs
  silent_rules [] = refl
  silent_rules (v ∷ vs) = ap (λ w. v.0 ∷ w) (silent_rules vs)

  slots_then : (ns ms : List (ℕ × List Ruling)) (ps qs : List Pair) → slot_pairs ns ≡ ps → slot_pairs ms ≡ qs → slot_pairs (ns ++ ms) ≡ ps ++ qs
  slots_then ns ms ps qs first behind =
      ap (map pair_of) (flat_map-append (λ (n : ℕ × List Ruling). judged_at (at n.0) n.1) ns ms)
      ∙ pairs_append (flat_map (λ (n : ℕ × List Ruling). judged_at (at n.0) n.1) ns) (flat_map (λ (n : ℕ × List Ruling). judged_at (at n.0) n.1) ms) ps qs first behind

  slot_then : (slot : ℕ) (vs : List Ruling) (ms : List (ℕ × List Ruling)) (qs : List Pair) → slot_pairs ms ≡ qs → slot_pairs ((slot, vs) ∷ ms) ≡ pairs_at (at slot) (map (λ (v : Ruling). v.0) vs) ++ qs
  slot_then slot vs ms qs behind =
      pairs_append (judged_at (at slot) vs) (flat_map (λ (n : ℕ × List Ruling). judged_at (at n.0) n.1) ms) (pairs_at (at slot) (map (λ (v : Ruling). v.0) vs)) qs (judged_pairs (at slot) vs) behind

  slot_alone : (slot : ℕ) (vs : List Ruling) → slot_pairs ((slot, vs) ∷ []) ≡ pairs_at (at slot) (map (λ (v : Ruling). v.0) vs)
  slot_alone slot vs = slot_then slot vs [] [] refl ∙ append-nil (pairs_at (at slot) (map (λ (v : Ruling). v.0) vs))

  silent_slots : (ns : List (ℕ × List Ruling)) → slot_pairs (map (λ (n : ℕ × List Ruling). (n.0, silent_rulings n.1)) ns) ≡ slot_pairs ns
  silent_slots [] = refl
  silent_slots (n ∷ ns) =
      let rest : List (ℕ × List Ruling) = map (λ (m : ℕ × List Ruling). (m.0, silent_rulings m.1)) ns in
      slot_then n.0 (silent_rulings n.1) rest (slot_pairs ns) (silent_slots ns)
      ∙ ap (λ rs. pairs_at (at n.0) rs ++ slot_pairs ns) (silent_rules n.1)
      ∙ sym (slot_then n.0 n.1 ns (slot_pairs ns) refl)

  present_slots : (here : Bool) (ns : List (ℕ × List Ruling)) → slot_pairs (present_nodes here ns) ≡ slot_pairs ns
  present_slots true ns = refl
  present_slots false ns = silent_slots ns

  -- the rules with one more
  rules_with : (v : Ruling) (vs : List Ruling) → map (λ (v : Ruling). v.0) (with_ruling v vs) ≡ insert_ranked rank v.0 (map (λ (v : Ruling). v.0) vs)
  rules_with v [] = refl
  rules_with v (w ∷ ws) = go (nat_lt (rank w.0) (rank v.0)) (rules_with v ws)
    where
      go : (b : Bool) → map (λ (v : Ruling). v.0) (with_ruling v ws) ≡ insert_ranked rank v.0 (map (λ (v : Ruling). v.0) ws)
          → map (λ (v : Ruling). v.0) (cond b (w ∷ with_ruling v ws) (v ∷ (w ∷ ws))) ≡ cond b (w.0 ∷ insert_ranked rank v.0 (map (λ (v : Ruling). v.0) ws)) (v.0 ∷ (w.0 ∷ map (λ (v : Ruling). v.0) ws))
      go true ih = ap (λ rs. w.0 ∷ rs) ih
      go false ih = refl

  -- whether a `new` has another number of arguments
  abbrev first_differs : List Ruling → Bool
  first_differs [] = false
  first_differs (v ∷ vs) = v.1

  module _ (s : Chosen) (p : Table) (g : Environment) where
    abbrev IsListed : Expr → Type 0
    IsListed x = (around : Sides) (more : List Ruling) → slot_pairs ((seen_expr s p g around x).rules more) ≡ node_pairs at x (map (λ (v : Ruling). v.0) more)

    abbrev seen_of : Arg → Sides → SeenArg
    seen_of = of_arg (Sides → JudgedExpr) (Sides → SeenArg) (seen_step p g) (seen_arg_step s)

    abbrev seen_args : Sides → List Arg → List SeenArg
    seen_args around args = map (λ a. a around) (map seen_of args)

    args_listed : (around : Sides) (rule : Rule) (ys : List (Proved IsListed)) (bs : List Bool) → slot_pairs (seen_rules rule (seen_args around (args_of IsListed ys)) bs) ≡ arg_pairs at rule (args_of IsListed ys)
    args_listed around rule [] bs = refl
    args_listed around rule (y ∷ ys) [] =
        let a : SeenArg = seen_of y.0 around in
        slots_then (present_nodes a.here (a.expr.rules ((rule, false) ∷ []))) (seen_rules rule (seen_args around (args_of IsListed ys)) []) (node_pairs at y.0.expr (rule ∷ [])) (arg_pairs at rule (args_of IsListed ys))
        (present_slots a.here (a.expr.rules ((rule, false) ∷ [])) ∙ y.1 (presence_of around y.0.colors) ((rule, false) ∷ [])) (args_listed around rule ys [])
    args_listed around rule (y ∷ ys) (b ∷ bs) =
        let a : SeenArg = seen_of y.0 around in
        slots_then (present_nodes a.here (a.expr.rules ((rule, b) ∷ []))) (seen_rules rule (seen_args around (args_of IsListed ys)) bs) (node_pairs at y.0.expr (rule ∷ [])) (arg_pairs at rule (args_of IsListed ys))
        (present_slots a.here (a.expr.rules ((rule, b) ∷ [])) ∙ y.1 (presence_of around y.0.colors) ((rule, b) ∷ [])) (args_listed around rule ys bs)

    abbrev folded : Expr → Sides → JudgedExpr
    folded = λ x around. seen_expr s p g around x

    var_listed : (slot : ℕ) (name : List ℕ) → IsListed (e.Var slot name)
    var_listed slot name around more =
        ap (λ (f : Sides → JudgedExpr). slot_pairs ((f around).rules more)) (fold_var (Sides → JudgedExpr) (Sides → SeenArg) (seen_step p g) (seen_arg_step s) slot name)
        ∙ slot_alone slot ((E1, not (is_some (variable_type g name))) ∷ more)
        ∙ sym (node_var at slot name (map (λ (v : Ruling). v.0) more))

    get_listed : (slot : ℕ) (on : Expr) → IsListed on → (field : List ℕ) → IsListed (e.Get slot on field)
    get_listed slot on listed field around more =
        let j : JudgedExpr = seen_expr s p g around on in
        let absent : Bool = is_some j.type && not (is_some (accessed p j.type field)) in
        ap (λ (f : Sides → JudgedExpr). slot_pairs ((f around).rules more)) (fold_get (Sides → JudgedExpr) (Sides → SeenArg) (seen_step p g) (seen_arg_step s) slot on field)
        ∙ slots_then (j.rules []) ((slot, (E2, absent) ∷ more) ∷ []) (node_pairs at on []) (pairs_at (at slot) (E2 ∷ map (λ (v : Ruling). v.0) more)) (listed around []) (slot_alone slot ((E2, absent) ∷ more))
        ∙ sym (node_get at slot on field (map (λ (v : Ruling). v.0) more))

    call_listed : (slot : ℕ) (on : Expr) → IsListed on → (method : List ℕ) (ys : List (Proved IsListed)) → IsListed (e.Call slot on method (args_of IsListed ys))
    call_listed slot on listed method ys around more =
        let j : JudgedExpr = seen_expr s p g around on in
        let args : List SeenArg = seen_args around (args_of IsListed ys) in
        let f : Found = found_call p j method (present_types args) in
        let ms : List (ℕ × List Ruling) = seen_rules E5 args (handed_out args f.misfits) in
        ap (λ (f : Sides → JudgedExpr). slot_pairs ((f around).rules more)) (fold_call (Sides → JudgedExpr) (Sides → SeenArg) (seen_step p g) (seen_arg_step s) slot on method (args_of IsListed ys))
        ∙ slots_then (j.rules []) ((slot, f.own ++ more) ∷ ms) (node_pairs at on []) (pairs_at (at slot) (E3 ∷ (E4 ∷ map (λ (v : Ruling). v.0) more)) ++ arg_pairs at E5 (args_of IsListed ys)) (listed around [])
        (slot_then slot (f.own ++ more) ms (arg_pairs at E5 (args_of IsListed ys)) (args_listed around E5 ys (handed_out args f.misfits)))
        ∙ sym (node_call at slot on method (args_of IsListed ys) (map (λ (v : Ruling). v.0) more))

    new_listed : (slot : ℕ) (class : List ℕ) (ys : List (Proved IsListed)) → IsListed (e.New slot class (args_of IsListed ys))
    new_listed slot class ys around more =
        let args : List SeenArg = seen_args around (args_of IsListed ys) in
        let f : Found = found_new p class (present_types args) in
        let d : Bool = first_differs f.own in
        ap (λ (f : Sides → JudgedExpr). slot_pairs ((f around).rules more)) (fold_new (Sides → JudgedExpr) (Sides → SeenArg) (seen_step p g) (seen_arg_step s) slot class (args_of IsListed ys))
        ∙ slot_then slot ((K1, not (is_known p class)) ∷ with_ruling (E6, d) more) (seen_rules E7 args (handed_out args f.misfits)) (arg_pairs at E7 (args_of IsListed ys)) (args_listed around E7 ys (handed_out args f.misfits))
        ∙ ap (λ rs. pairs_at (at slot) (K1 ∷ rs) ++ arg_pairs at E7 (args_of IsListed ys)) (rules_with (E6, d) more)
        ∙ sym (node_new at slot class (args_of IsListed ys) (map (λ (v : Ruling). v.0) more))

    cast_listed : (slot : ℕ) (class : List ℕ) (on : Expr) → IsListed on → IsListed (e.Cast slot class on)
    cast_listed slot class on listed around more =
        let j : JudgedExpr = seen_expr s p g around on in
        let unrelated : Bool = is_unrelated p j.type class in
        ap (λ (f : Sides → JudgedExpr). slot_pairs ((f around).rules more)) (fold_cast (Sides → JudgedExpr) (Sides → SeenArg) (seen_step p g) (seen_arg_step s) slot class on)
        ∙ slot_then slot ((K1, not (is_known p class)) ∷ with_ruling (E8, unrelated) more) (j.rules []) (node_pairs at on []) (listed around [])
        ∙ ap (λ rs. pairs_at (at slot) (K1 ∷ rs) ++ node_pairs at on []) (rules_with (E8, unrelated) more)
        ∙ sym (node_cast at slot class on (map (λ (v : Ruling). v.0) more))

    pub seen_listed : (x : Expr) → IsListed x
    seen_listed = by_cases IsListed (record { var_case = var_listed; get_case = get_listed; call_case = call_listed; new_case = new_listed; cast_case = cast_listed })

-- ---- declarations

module _ (s : Chosen) (p : Table) (k : Class) where
  own_seen : map pair_of (seen_own s p k) ≡ own_pairs k
  own_seen =
      where_pairs (is_present s k.colors) _
      ∙ ap (λ z. (site.Class k.name, K1) ∷ ((site.Class k.name, K2) ∷ z))
      (pairs_append (flat_map (seen_field s p k) (placed k.fields)) (seen_ctor p (projected_class s k) ++ flat_map (seen_ctor_param s p k) k.ctor.params) (flat_map (field_pairs k) k.fields) (ctor_pairs k)
      (placed_pairs (seen_field s p k) (field_pairs k) (λ f. where_pairs (is_present s (presence_of k.colors f.item.colors)) _) [] k.fields)
      (ap (λ z. (site.Ctor k.name, K4) ∷ ((site.Ctor k.name, K5) ∷ ((site.Ctor k.name, K6) ∷ z)))
      (item_pairs (seen_ctor_param s p k) (ctor_param_pairs k) (λ c. where_pairs (is_present s (presence_of k.colors c.colors)) _) k.ctor.params)))

  method_seen : (q : Placed Method) → map pair_of (seen_method s p k q) ≡ method_pairs k q.item
  method_seen q =
      let m : Method = q.item in
      let around : Sides = presence_of k.colors m.colors in
      let at : ℕ → Site = λ slot. site.Node k.name m.name m.alt slot in
      let here : Site = site.Method k.name m.name m.alt in
      let nodes : List (ℕ × List Ruling) = (seen_expr s p (environment_of k (projected_method s k.colors m)) around m.body).rules [] in
      where_pairs (is_present s around) _
      ∙ ap (λ z. (here, K1) ∷ ((here, K7) ∷ ((here, K8) ∷ ((here, K9) ∷ z))))
      (pairs_append (flat_map (seen_param s p k m around) m.params) (flat_map (λ (n : ℕ × List Ruling). judged_at (at n.0) n.1) nodes) (flat_map (param_pairs k m) m.params) (node_pairs at m.body [])
      (item_pairs (seen_param s p k m around) (param_pairs k m) (λ a. where_pairs (is_present s (presence_of around a.colors)) _) m.params)
      (seen_listed at s p (environment_of k (projected_method s k.colors m)) m.body around []))

pub seen_pairs : (s : Chosen) (line : ProductLine) (u : Unit) → map pair_of (seen_unit s line u) ≡ unit_pairs line.classes u
seen_pairs s line unit.Model = refl
seen_pairs s line (unit.Class c) = go (declared line.classes c) ∙ sym (class_pairs_known line.classes c)
  where
    go : (o : Option Class) → map pair_of (of_some (seen_own s (projected s line).classes) o) ≡ of_some own_pairs (option_map own_of o)
    go None = refl
    go (Some k) = own_seen s (projected s line).classes k
seen_pairs s line (unit.Method c m alt) = go (declared line.classes c) refl ∙ sym (method_pairs_known line.classes c m alt)
  where
    t : Table
    t = (projected s line).classes

    inner : (k : Class) → k.name ≡ c → (o : Option (Placed Method)) → map pair_of (of_some (seen_method s t k) o) ≡ of_some (method_pairs (class_called c)) (option_map (λ (q : Placed Method). q.item) o)
    inner k named None = refl
    inner k named (Some q) = method_seen s t k q ∙ ap (λ n. method_pairs (class_called n) q.item) named

    go : (o : Option Class) → declared line.classes c ≡ o → map pair_of (of_some (λ k. of_some (seen_method s t k) (placed_method m alt k)) o)
        ≡ of_some (method_pairs (class_called c)) (option_and_then (λ k. option_map (λ (q : Placed Method). q.item) (placed_method m alt k)) o)
    go None e = refl
    go (Some k) e = inner k (declared_name line.classes c k e) (placed_method m alt k)
