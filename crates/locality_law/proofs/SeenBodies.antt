-- What is seen of a body breaks where the variant's body breaks, and has its type.
use Rattle.std.proofs.Common.{◌≡◌, ℕ, Bool, true, false, not, ◌&&◌, cond, List, [], ◌∷◌, ◌++◌, map, Option, None, Some, is_some, option_map, refl, sym, ◌∙◌, ap, ap₂, subst}
use Rattle.std.specs.List.{filter, flat_map}
use Rattle.std.proofs.lemmas.Grind.{flat_map-append}
use Rattle.std.proofs.lemmas.List.Elements.{filter-append}
use Rattle.std.proofs.lemmas.Simd.{map-map}
use Rattle.cfj_logic.specs.Selections.{Chosen}
use Rattle.cfj_logic.specs.Sides.{Sides}
use Rattle.cfj_model.proofs.ExprCases.{Proved, args_of, by_cases, fold_var, fold_get, fold_call, fold_new, fold_cast, of_arg}
use Rattle.cfj_model.specs.Judging.{Fit, JudgedExpr, RuleAt, Ruling, accessed, argument_rules, called, field_types, fit_of, fits, is_unrelated, judged_access, judged_arg, judged_at, judged_call, judged_cast, judged_expr, judged_new, judged_step, judged_variable, result_type, type_if, types_of, variable_type, with_ruling}
use Rattle.cfj_model.specs.LookUps.{Table, is_known}
use Rattle.cfj_model.specs.Projection.{presence_of, projected_expr}
use Rattle.cfj_model.specs.Typing.{Environment, param_types}
use Rattle.cfj_model.specs.declared.class.Method.{Method}
use Rattle.cfj_model.specs.declared.expr.Arg.{Arg}
use Rattle.cfj_model.specs.declared.expr.Expr.{Expr}
use Rattle.cfj_model.specs.declared.expr.Expr.TheVariants as e
use Rattle.cfj_model.specs.declared.site.Rule.{Rule}
use Rattle.cfj_model.specs.declared.site.Rule.TheVariants.{K1, E2, E3, E4, E5, E6, E7, E8}
use Rattle.cfj_model.specs.declared.site.Site.{Site}
use Rattle.feature_views.proofs.SelectedBodies.{arg_present, projected_arg, projected_args, projected_var, projected_get, projected_call, projected_new, projected_cast}
use Rattle.locality_law.specs.Seen.{Found, SeenArg, broken, first_of, found_call, found_new, handed_out, present_nodes, present_types, rest_of, seen_arg_step, seen_call, seen_expr, seen_new, seen_rules, seen_step, silent_rulings, with_rulings}

-- ---- what breaks

pub broken_both : (xs xs' ys ys' : List RuleAt) → broken xs ≡ broken xs' → broken ys ≡ broken ys' → broken (xs ++ ys) ≡ broken (xs' ++ ys')
broken_both xs xs' ys ys' first behind =
    filter-append (λ (j : RuleAt). j.breaks) xs ys ∙ ap₂ (λ v w. v ++ w) first behind ∙ sym (filter-append (λ (j : RuleAt). j.breaks) xs' ys')

-- of the fits of a call it matters how many arguments there are, not what is known of them
fit_same : {A : Type 0} (f : A → Option (List ℕ)) (p : Table) (xs : List A) (ts wanted : Option (List (List ℕ))) → fit_of p xs ts wanted ≡ fit_of p (map f xs) ts wanted
fit_same f p xs None wanted = ap (λ (bs : List Bool). let g : Fit = record { differs = false; misfits = bs } in g) (sym (map-map (λ x. false) f xs))
fit_same f p xs (Some ts) None = ap (λ (bs : List Bool). let g : Fit = record { differs = false; misfits = bs } in g) (sym (map-map (λ x. false) f xs))
fit_same f p xs (Some ts) (Some wanted) = refl

module _ (at : ℕ → Site) where
  -- what breaks at nodes
  abbrev pub told : List (ℕ × List Ruling) → List RuleAt
  told ns = broken (flat_map (λ (n : ℕ × List Ruling). judged_at (at n.0) n.1) ns)

  told_append : (ns ms : List (ℕ × List Ruling)) → told (ns ++ ms) ≡ told ns ++ told ms
  told_append ns ms =
      ap broken (flat_map-append (λ (n : ℕ × List Ruling). judged_at (at n.0) n.1) ns ms)
      ∙ filter-append (λ (j : RuleAt). j.breaks) (flat_map (λ (n : ℕ × List Ruling). judged_at (at n.0) n.1) ns) (flat_map (λ (n : ℕ × List Ruling). judged_at (at n.0) n.1) ms)

  told_both : (ns ns' ms ms' : List (ℕ × List Ruling)) → told ns ≡ told ns' → told ms ≡ told ms' → told (ns ++ ms) ≡ told (ns' ++ ms')
  told_both ns ns' ms ms' first behind = told_append ns ms ∙ ap₂ (λ v w. v ++ w) first behind ∙ sym (told_append ns' ms')

  silent_told : (ns : List (ℕ × List Ruling)) → told (map (λ (n : ℕ × List Ruling). (n.0, silent_rulings n.1)) ns) ≡ []
  silent_told [] = refl
  silent_told (n ∷ ns) =
      let rest : List (ℕ × List Ruling) = map (λ (m : ℕ × List Ruling). (m.0, silent_rulings m.1)) ns in
      filter-append (λ (j : RuleAt). j.breaks) (judged_at (at n.0) (silent_rulings n.1)) (flat_map (λ (m : ℕ × List Ruling). judged_at (at m.0) m.1) rest)
      ∙ ap₂ (λ v w. v ++ w) (quiet n.1) (silent_told ns)
    where
      quiet : (vs : List Ruling) → broken (judged_at (at n.0) (silent_rulings vs)) ≡ []
      quiet [] = refl
      quiet (v ∷ vs) = quiet vs

  -- two expressions have the same type, and the same breaks at their nodes, whatever the node round them judges at their roots
  abbrev AreAlike : JudgedExpr → JudgedExpr → Type 0
  AreAlike a b = (a.type ≡ b.type) × ((more : List Ruling) → told (a.rules more) ≡ told (b.rules more))

  alike_as : (a a' b b' : JudgedExpr) → a ≡ a' → b ≡ b' → AreAlike a' b' → AreAlike a b
  alike_as a a' b b' first second h = subst (λ x. AreAlike x b) (sym first) (subst (λ y. AreAlike a' y) (sym second) h)

  access_alike : (p : Table) (slot : ℕ) (field : List ℕ) (a b : JudgedExpr) → AreAlike a b → AreAlike (judged_access p slot a field) (judged_access p slot b field)
  access_alike p slot field a b h = (
    ap (λ t. accessed p t field) h.0,
    λ more. told_both (a.rules []) (b.rules []) ((slot, (E2, is_some a.type && not (is_some (accessed p a.type field))) ∷ more) ∷ [])
        ((slot, (E2, is_some b.type && not (is_some (accessed p b.type field))) ∷ more) ∷ [])
        (h.1 []) (ap (λ t. told ((slot, (E2, is_some t && not (is_some (accessed p t field))) ∷ more) ∷ [])) h.0),
  )

  cast_alike : (p : Table) (slot : ℕ) (class : List ℕ) (a b : JudgedExpr) → AreAlike a b → AreAlike (judged_cast p slot class a) (judged_cast p slot class b)
  cast_alike p slot class a b h = (
    ap (λ t. type_if (is_some t && is_known p class && not (is_unrelated p t class)) class) h.0,
    λ more. told_both ((slot, (K1, not (is_known p class)) ∷ with_ruling (E8, is_unrelated p a.type class) more) ∷ [])
        ((slot, (K1, not (is_known p class)) ∷ with_ruling (E8, is_unrelated p b.type class) more) ∷ []) (a.rules []) (b.rules [])
        (ap (λ t. told ((slot, (K1, not (is_known p class)) ∷ with_ruling (E8, is_unrelated p t class) more) ∷ [])) h.0) (h.1 []),
  )

  -- a call and a `new`, from what is found by the types of their arguments
  abbrev call_from : ℕ → JudgedExpr → List JudgedExpr → Found → JudgedExpr
  call_from slot on args f = record { type = f.type; rules = λ more. on.rules [] ++ (slot, f.own ++ more) ∷ argument_rules E5 args f.misfits }

  call_found : (p : Table) (slot : ℕ) (on : JudgedExpr) (method : List ℕ) (args : List JudgedExpr)
      → judged_call p slot on method args ≡ call_from slot on args (found_call p on method (map (λ (a : JudgedExpr). a.type) args))
  call_found p slot on method args =
      let ts : Option (List (List ℕ)) = types_of (map (λ (a : JudgedExpr). a.type) args) in
      let d : Option Method = called p on.type ts method in
      ap (λ (f : Fit). let j : JudgedExpr = record {
        type = result_type (fits f) d;
        rules = λ more. on.rules [] ++ (slot, (E3, is_some on.type && is_some ts && not (is_some d)) ∷ (E4, f.differs) ∷ more) ∷ argument_rules E5 args f.misfits;
      } in j) (fit_same (λ (a : JudgedExpr). a.type) p args ts (option_map (λ (d : Method). param_types d.params) d))

  abbrev new_from : Table → ℕ → List ℕ → List JudgedExpr → Found → JudgedExpr
  new_from p slot class args f = record { type = f.type; rules = λ more. (slot, (K1, not (is_known p class)) ∷ with_rulings f.own more) ∷ argument_rules E7 args f.misfits }

  new_found : (p : Table) (slot : ℕ) (class : List ℕ) (args : List JudgedExpr)
      → judged_new p slot class args ≡ new_from p slot class args (found_new p class (map (λ (a : JudgedExpr). a.type) args))
  new_found p slot class args =
      let ts : Option (List (List ℕ)) = types_of (map (λ (a : JudgedExpr). a.type) args) in
      ap (λ (f : Fit). let j : JudgedExpr = record {
        type = type_if (is_some ts && is_known p class && fits f) class;
        rules = λ more. (slot, (K1, not (is_known p class)) ∷ with_ruling (E6, f.differs) more) ∷ argument_rules E7 args f.misfits;
      } in j) (fit_same (λ (a : JudgedExpr). a.type) p args ts (field_types p class))

  -- the rules of arguments, one argument further
  rules_then : (rule : Rule) (a : JudgedExpr) (args : List JudgedExpr) (bs : List Bool)
      → argument_rules rule (a ∷ args) bs ≡ a.rules ((rule, first_of bs) ∷ []) ++ argument_rules rule args (rest_of bs)
  rules_then rule a args [] = refl
  rules_then rule a args (b ∷ bs) = refl

  -- Arguments of the line are like those of the variant: those that are there have the same types, and the same breaks, whichever misfit.
  pub record AreArgsAlike (xs : List SeenArg) (js : List JudgedExpr) : Type 0 where
    pub types : present_types xs ≡ map (λ (j : JudgedExpr). j.type) js
    pub rules : (rule : Rule) (bs : List Bool) → told (seen_rules rule xs (handed_out xs bs)) ≡ told (argument_rules rule js bs)

  abbrev seen_call_from : ℕ → JudgedExpr → List SeenArg → Found → JudgedExpr
  seen_call_from slot on args f = record { type = f.type; rules = λ more. on.rules [] ++ (slot, f.own ++ more) ∷ seen_rules E5 args (handed_out args f.misfits) }

  call_alike : (p : Table) (slot : ℕ) (method : List ℕ) (a b : JudgedExpr) (xs : List SeenArg) (js : List JudgedExpr) → AreAlike a b → AreArgsAlike xs js
      → AreAlike (seen_call p slot a method xs) (judged_call p slot b method js)
  call_alike p slot method a b xs js h args =
      subst (λ j. AreAlike (seen_call p slot a method xs) j) (sym (call_found p slot b method js))
      (subst (λ f. AreAlike (seen_call_from slot a xs f) (call_from slot b js (found_call p b method (map (λ (j : JudgedExpr). j.type) js)))) (sym found) same)
    where
      f : Found
      f = found_call p b method (map (λ (j : JudgedExpr). j.type) js)

      of_type : Option (List ℕ) → JudgedExpr
      of_type t = record { type = t; rules = λ more. [] }

      found : found_call p a method (present_types xs) ≡ f
      found = ap₂ (λ t ts. found_call p (of_type t) method ts) h.0 args.types

      same : AreAlike (seen_call_from slot a xs f) (call_from slot b js f)
      same = (
        refl,
        λ more. told_both (a.rules []) (b.rules []) ((slot, f.own ++ more) ∷ seen_rules E5 xs (handed_out xs f.misfits)) ((slot, f.own ++ more) ∷ argument_rules E5 js f.misfits) (h.1 [])
            (told_both ((slot, f.own ++ more) ∷ []) ((slot, f.own ++ more) ∷ []) (seen_rules E5 xs (handed_out xs f.misfits)) (argument_rules E5 js f.misfits) refl (args.rules E5 f.misfits)),
      )

  abbrev seen_new_from : Table → ℕ → List ℕ → List SeenArg → Found → JudgedExpr
  seen_new_from p slot class args f = record { type = f.type; rules = λ more. (slot, (K1, not (is_known p class)) ∷ with_rulings f.own more) ∷ seen_rules E7 args (handed_out args f.misfits) }

  new_alike : (p : Table) (slot : ℕ) (class : List ℕ) (xs : List SeenArg) (js : List JudgedExpr) → AreArgsAlike xs js
      → AreAlike (seen_new p slot class xs) (judged_new p slot class js)
  new_alike p slot class xs js args =
      subst (λ j. AreAlike (seen_new p slot class xs) j) (sym (new_found p slot class js))
      (subst (λ f. AreAlike (seen_new_from p slot class xs f) (new_from p slot class js (found_new p class (map (λ (j : JudgedExpr). j.type) js)))) (sym (ap (found_new p class) args.types)) same)
    where
      f : Found
      f = found_new p class (map (λ (j : JudgedExpr). j.type) js)

      same : AreAlike (seen_new_from p slot class xs f) (new_from p slot class js f)
      same = (
        refl,
        λ more. told_both ((slot, (K1, not (is_known p class)) ∷ with_rulings f.own more) ∷ []) ((slot, (K1, not (is_known p class)) ∷ with_rulings f.own more) ∷ [])
            (seen_rules E7 xs (handed_out xs f.misfits)) (argument_rules E7 js f.misfits) refl (args.rules E7 f.misfits),
      )

  module _ (s : Chosen) (p : Table) (g : Environment) where
    abbrev left : Sides → Expr → JudgedExpr
    left around x = judged_expr p g (projected_expr s around x)

    abbrev IsSeen : Expr → Type 0
    IsSeen x = (around : Sides) → AreAlike (seen_expr s p g around x) (left around x)

    abbrev seen_of : Arg → Sides → SeenArg
    seen_of = of_arg (Sides → JudgedExpr) (Sides → SeenArg) (seen_step p g) (seen_arg_step s)

    abbrev seen_args : Sides → List Arg → List SeenArg
    seen_args around args = map (λ a. a around) (map seen_of args)

    abbrev judged_of : Arg → JudgedExpr
    judged_of = of_arg JudgedExpr JudgedExpr (judged_step p g) judged_arg

    abbrev left_args : Sides → List Arg → List JudgedExpr
    left_args around args = map judged_of (projected_args s around args)

    types_alike : (around : Sides) (ys : List (Proved IsSeen))
        → present_types (seen_args around (args_of IsSeen ys)) ≡ map (λ (j : JudgedExpr). j.type) (left_args around (args_of IsSeen ys))
    types_alike around [] = refl
    types_alike around (y ∷ ys) = go (arg_present s around y.0) (types_alike around ys)
      where
        within : Sides
        within = presence_of around y.0.colors

        others : List Arg
        others = filter (arg_present s around) (args_of IsSeen ys)

        go : (b : Bool) → present_types (seen_args around (args_of IsSeen ys)) ≡ map (λ (j : JudgedExpr). j.type) (map judged_of (map (projected_arg s around) others))
            → cond b ((seen_expr s p g within y.0.expr).type ∷ present_types (seen_args around (args_of IsSeen ys))) (present_types (seen_args around (args_of IsSeen ys)))
            ≡ map (λ (j : JudgedExpr). j.type) (map judged_of (map (projected_arg s around) (cond b (y.0 ∷ others) others)))
        go true ih = ap₂ (λ t ts. t ∷ ts) (y.1 within).0 ih
        go false ih = ih

    rules_alike : (around : Sides) (rule : Rule) (ys : List (Proved IsSeen)) (bs : List Bool)
        → told (seen_rules rule (seen_args around (args_of IsSeen ys)) (handed_out (seen_args around (args_of IsSeen ys)) bs)) ≡ told (argument_rules rule (left_args around (args_of IsSeen ys)) bs)
    rules_alike around rule [] bs = refl
    rules_alike around rule (y ∷ ys) bs = go (arg_present s around y.0) (rules_alike around rule ys)
      where
        within : Sides
        within = presence_of around y.0.colors

        here : JudgedExpr
        here = seen_expr s p g within y.0.expr

        xs : List SeenArg
        xs = seen_args around (args_of IsSeen ys)

        others : List Arg
        others = filter (arg_present s around) (args_of IsSeen ys)

        js : List JudgedExpr
        js = map judged_of (map (projected_arg s around) others)

        given : Bool → List Bool
        given b = cond b (first_of bs ∷ handed_out xs (rest_of bs)) (false ∷ handed_out xs bs)

        go : (b : Bool) → ((cs : List Bool) → told (seen_rules rule xs (handed_out xs cs)) ≡ told (argument_rules rule js cs))
            → told (present_nodes b (here.rules ((rule, first_of (given b)) ∷ [])) ++ seen_rules rule xs (rest_of (given b)))
            ≡ told (argument_rules rule (map judged_of (map (projected_arg s around) (cond b (y.0 ∷ others) others))) bs)
        go true ih =
            told_both (here.rules ((rule, first_of bs) ∷ [])) ((left within y.0.expr).rules ((rule, first_of bs) ∷ [])) (seen_rules rule xs (handed_out xs (rest_of bs))) (argument_rules rule js (rest_of bs))
            ((y.1 within).1 ((rule, first_of bs) ∷ [])) (ih (rest_of bs))
            ∙ ap told (sym (rules_then rule (left within y.0.expr) js bs))
        go false ih =
            told_append (map (λ (n : ℕ × List Ruling). (n.0, silent_rulings n.1)) (here.rules ((rule, false) ∷ []))) (seen_rules rule xs (handed_out xs bs))
            ∙ ap (λ w. w ++ told (seen_rules rule xs (handed_out xs bs))) (silent_told (here.rules ((rule, false) ∷ [])))
            ∙ ih bs

    args_alike : (around : Sides) (ys : List (Proved IsSeen)) → AreArgsAlike (seen_args around (args_of IsSeen ys)) (left_args around (args_of IsSeen ys))
    args_alike around ys = record { types = types_alike around ys; rules = λ rule bs. rules_alike around rule ys bs }

    var_seen : (slot : ℕ) (name : List ℕ) → IsSeen (e.Var slot name)
    var_seen slot name around =
        let j : JudgedExpr = judged_variable (variable_type g) slot name in
        alike_as (seen_expr s p g around (e.Var slot name)) j (left around (e.Var slot name)) j
        (ap (λ (f : Sides → JudgedExpr). f around) (fold_var (Sides → JudgedExpr) (Sides → SeenArg) (seen_step p g) (seen_arg_step s) slot name))
        (ap (judged_expr p g) (projected_var s around slot name) ∙ fold_var JudgedExpr JudgedExpr (judged_step p g) judged_arg slot name)
        (refl, λ more. refl)

    get_seen : (slot : ℕ) (on : Expr) → IsSeen on → (field : List ℕ) → IsSeen (e.Get slot on field)
    get_seen slot on part field around =
        alike_as (seen_expr s p g around (e.Get slot on field)) (judged_access p slot (seen_expr s p g around on) field) (left around (e.Get slot on field)) (judged_access p slot (left around on) field)
        (ap (λ (f : Sides → JudgedExpr). f around) (fold_get (Sides → JudgedExpr) (Sides → SeenArg) (seen_step p g) (seen_arg_step s) slot on field))
        (ap (judged_expr p g) (projected_get s around slot on field) ∙ fold_get JudgedExpr JudgedExpr (judged_step p g) judged_arg slot (projected_expr s around on) field)
        (access_alike p slot field (seen_expr s p g around on) (left around on) (part around))

    call_seen : (slot : ℕ) (on : Expr) → IsSeen on → (method : List ℕ) (ys : List (Proved IsSeen)) → IsSeen (e.Call slot on method (args_of IsSeen ys))
    call_seen slot on part method ys around =
        let args : List Arg = args_of IsSeen ys in
        alike_as (seen_expr s p g around (e.Call slot on method args)) (seen_call p slot (seen_expr s p g around on) method (seen_args around args))
        (left around (e.Call slot on method args)) (judged_call p slot (left around on) method (left_args around args))
        (ap (λ (f : Sides → JudgedExpr). f around) (fold_call (Sides → JudgedExpr) (Sides → SeenArg) (seen_step p g) (seen_arg_step s) slot on method args))
        (ap (judged_expr p g) (projected_call s around slot on method args) ∙ fold_call JudgedExpr JudgedExpr (judged_step p g) judged_arg slot (projected_expr s around on) method (projected_args s around args))
        (call_alike p slot method (seen_expr s p g around on) (left around on) (seen_args around args) (left_args around args) (part around) (args_alike around ys))

    new_seen : (slot : ℕ) (class : List ℕ) (ys : List (Proved IsSeen)) → IsSeen (e.New slot class (args_of IsSeen ys))
    new_seen slot class ys around =
        let args : List Arg = args_of IsSeen ys in
        alike_as (seen_expr s p g around (e.New slot class args)) (seen_new p slot class (seen_args around args))
        (left around (e.New slot class args)) (judged_new p slot class (left_args around args))
        (ap (λ (f : Sides → JudgedExpr). f around) (fold_new (Sides → JudgedExpr) (Sides → SeenArg) (seen_step p g) (seen_arg_step s) slot class args))
        (ap (judged_expr p g) (projected_new s around slot class args) ∙ fold_new JudgedExpr JudgedExpr (judged_step p g) judged_arg slot class (projected_args s around args))
        (new_alike p slot class (seen_args around args) (left_args around args) (args_alike around ys))

    cast_seen : (slot : ℕ) (class : List ℕ) (on : Expr) → IsSeen on → IsSeen (e.Cast slot class on)
    cast_seen slot class on part around =
        alike_as (seen_expr s p g around (e.Cast slot class on)) (judged_cast p slot class (seen_expr s p g around on)) (left around (e.Cast slot class on)) (judged_cast p slot class (left around on))
        (ap (λ (f : Sides → JudgedExpr). f around) (fold_cast (Sides → JudgedExpr) (Sides → SeenArg) (seen_step p g) (seen_arg_step s) slot class on))
        (ap (judged_expr p g) (projected_cast s around slot class on) ∙ fold_cast JudgedExpr JudgedExpr (judged_step p g) judged_arg slot class (projected_expr s around on))
        (cast_alike p slot class (seen_expr s p g around on) (left around on) (part around))

    -- the type and the breaks of a body within these colours are those of what the variant has of it
    pub body_seen : (x : Expr) → IsSeen x
    body_seen = by_cases IsSeen (record { var_case = var_seen; get_case = get_seen; call_case = call_seen; new_case = new_seen; cast_case = cast_seen })
