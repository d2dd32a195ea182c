-- What a projected expression has of the expression that it came from.
use Rattle.std.proofs.Common.{◌≡◌, refl, sym, ap, ◌∙◌, subst, ℕ, ◌+◌, ◌≤◌, Bool, true, false, ◌&&◌, if◌then◌else◌, List, [], ◌∷◌, map, arith}
use Rattle.std.specs.List.{filter, flat_map, list_all, sum_by}
use Rattle.std.proofs.lemmas.Bool.{and_parts, and_from}
use Rattle.std.proofs.lemmas.List.Folds.{list_all-map, flat_map-map}
use Rattle.std.proofs.lemmas.List.Sums.{sum_by-cons}
use Rattle.cfj_model.specs.Coloring.{Palette}
use Rattle.cfj_model.specs.Expressions.{of_arg, node_count_step, node_count, slots_step, slots, Nesting, receiver_depth, greatest, nesting_step, nesting_of_arg, nest, is_named_step, is_named_arg, is_named, is_bare_step, is_bare_arg, is_bare}
use Rattle.cfj_words.specs.Names.{is_short_identifier}
use Rattle.cfj_model.specs.Projection.{presence_of, projected_expr}
use Rattle.cfj_logic.specs.Selections.{Chosen}
use Rattle.cfj_logic.specs.Sides.{Sides}
use Rattle.cfj_model.specs.declared.feature_model.Format.TheVariants.{One}
use Rattle.cfj_model.specs.declared.expr.Arg.{Arg}
use Rattle.cfj_model.specs.declared.expr.Expr.{Expr}
use Rattle.cfj_model.specs.declared.expr.Expr.TheFolds.{fold-Expr}
use Rattle.cfj_model.specs.declared.expr.Expr.TheVariants as e
use Rattle.cfj_model.proofs.ExprCases.{Proved, args_of, by_cases, fold_var, fold_get, fold_call, fold_new, fold_cast}
use Rattle.feature_views.proofs.Kept.{kept, kept_of_map, all_kept, all_made, sum_kept}
use Rattle.feature_views.proofs.SelectedBodies.{arg_present, projected_arg, projected_args, projected_var, projected_get, projected_call, projected_new, projected_cast}
use Rattle.feature_views.proofs.Sublists.{IsSublist, end, both, sublist_append, sublist_none}

-- what marks may be in a variant, which has no features: there are none
abbrev pub no_features : Palette
no_features = record { features = 0; format = One }

-- the slots, counts and depths of what is kept of a list
module _ {A B : Type 0} (made : A → B) (keeps : A → Bool) where
  greatest_kept : (f : A → ℕ) (g : B → ℕ) → ((x : A) → g (made x) ≤ f x) → (xs : List A) → greatest (map g (kept made keeps xs)) ≤ greatest (map f xs)
  greatest_kept f g h [] = omega arith
  greatest_kept f g h (x ∷ xs) =
      let less = greatest_kept f g h xs in
      let here = h x in
      elim (keeps x) as (λ b. greatest (map g (map made (if b then x ∷ filter keeps xs else filter keeps xs))) ≤ greatest (map f (x ∷ xs))) [ true ↦ omega arith | false ↦ omega arith ]

  slots_kept : (f : A → List ℕ) (g : B → List ℕ) → ((x : A) → IsSublist (g (made x)) (f x)) → (xs : List A)
      → IsSublist (flat_map g (kept made keeps xs)) (flat_map f xs)
  slots_kept f g h [] = end
  slots_kept f g h (x ∷ xs) =
      let less = slots_kept f g h xs in
      elim (keeps x) as (λ b. IsSublist (flat_map g (map made (if b then x ∷ filter keeps xs else filter keeps xs))) (flat_map f (x ∷ xs))) [
        | true ↦ sublist_append (g (made x)) (f x) (flat_map g (kept made keeps xs)) (flat_map f xs) (h x) less
        | false ↦ sublist_append [] (f x) (flat_map g (kept made keeps xs)) (flat_map f xs) (sublist_none (f x)) less
      ]

sum_by-map : {A B : Type 0} (f : B → ℕ) (h : A → B) (xs : List A) → sum_by f (map h xs) ≡ sum_by (λ x. f (h x)) xs
sum_by-map f h [] = refl
sum_by-map f h (x ∷ xs) = sum_by-cons f (h x) (map h xs) ∙ ap (λ n. f (h x) + n) (sum_by-map f h xs) ∙ sym (sum_by-cons (λ y. f (h y)) x xs)

map-map : {A B C : Type 0} (f : B → C) (h : A → B) (xs : List A) → map f (map h xs) ≡ map (λ x. f (h x)) xs
map-map f h [] = refl
map-map f h (x ∷ xs) = ap (λ ys. f (h x) ∷ ys) (map-map f h xs)

-- the arguments that are kept, by what is shown of each
module _ (s : Chosen) (around : Sides) (P : Expr → Type 0) where
  abbrev kept_arg : Proved P → Arg
  kept_arg y = projected_arg s around y.0

  abbrev keeps_arg : Proved P → Bool
  keeps_arg y = arg_present s around y.0

  args_kept : (ys : List (Proved P)) → projected_args s around (args_of P ys) ≡ kept kept_arg keeps_arg ys
  args_kept ys = kept_of_map (projected_arg s around) (arg_present s around) (λ (y : Proved P). y.0) ys

-- names, and known marks
module _ (palette : Palette) where
  abbrev arg_named : Arg → Bool
  arg_named a = is_named_arg palette (record { colors = a.colors; expr = is_named palette a.expr })

  named_call : (slot : ℕ) (on : Expr) (method : List ℕ) (args : List Arg)
      → is_named palette (e.Call slot on method args) ≡ (is_named palette on && is_short_identifier method && list_all arg_named args)
  named_call slot on method args =
      fold_call Bool Bool is_named_step (is_named_arg palette) slot on method args
      ∙ ap (λ b. is_named palette on && is_short_identifier method && b) (list_all-map (λ b. b) arg_named args)

  named_new : (slot : ℕ) (class : List ℕ) (args : List Arg) → is_named palette (e.New slot class args) ≡ (is_short_identifier class && list_all arg_named args)
  named_new slot class args =
      fold_new Bool Bool is_named_step (is_named_arg palette) slot class args
      ∙ ap (λ b. is_short_identifier class && b) (list_all-map (λ b. b) arg_named args)

module _ (s : Chosen) (palette : Palette) where
  abbrev StaysNamed : Expr → Type 0
  StaysNamed x = (around : Sides) → is_named palette x ≡ true → is_named no_features (projected_expr s around x) ≡ true

  args_named : (around : Sides) (ys : List (Proved StaysNamed)) → list_all (arg_named palette) (args_of StaysNamed ys) ≡ true
      → list_all (arg_named no_features) (projected_args s around (args_of StaysNamed ys)) ≡ true
  args_named around ys all =
      ap (list_all (arg_named no_features)) (args_kept s around StaysNamed ys)
      ∙ all_kept (kept_arg s around StaysNamed) (keeps_arg s around StaysNamed) (λ (y : Proved StaysNamed). arg_named palette y.0) (arg_named no_features)
      (λ y here. y.1 (presence_of around y.0.colors) (and_parts _ _ here).1)
      ys
      (sym (list_all-map (arg_named palette) (λ (y : Proved StaysNamed). y.0) ys) ∙ all)

  pub stays_named : (x : Expr) → StaysNamed x
  stays_named = by_cases StaysNamed (record {
    var_case = λ slot name around h.
        ap (is_named no_features) (projected_var s around slot name)
        ∙ fold_var Bool Bool is_named_step (is_named_arg no_features) slot name
        ∙ sym (fold_var Bool Bool is_named_step (is_named_arg palette) slot name)
        ∙ h;
    get_case = λ slot on part field around h.
        let parts =
        and_parts (is_named palette on) (is_short_identifier field) (sym (fold_get Bool Bool is_named_step (is_named_arg palette) slot on field) ∙ h) in
        ap (is_named no_features) (projected_get s around slot on field)
        ∙ fold_get Bool Bool is_named_step (is_named_arg no_features) slot (projected_expr s around on) field
        ∙ and_from _ _ (part around parts.0) parts.1;
    call_case = λ slot on part method ys around h.
        let outer = and_parts _ _ (sym (named_call palette slot on method (args_of StaysNamed ys)) ∙ h) in
        let inner = and_parts _ _ outer.0 in
        ap (is_named no_features) (projected_call s around slot on method (args_of StaysNamed ys))
        ∙ named_call no_features slot (projected_expr s around on) method (projected_args s around (args_of StaysNamed ys))
        ∙ and_from _ _ (and_from _ _ (part around inner.0) inner.1) (args_named around ys outer.1);
    new_case = λ slot class ys around h.
        let parts = and_parts _ _ (sym (named_new palette slot class (args_of StaysNamed ys)) ∙ h) in
        ap (is_named no_features) (projected_new s around slot class (args_of StaysNamed ys))
        ∙ named_new no_features slot class (projected_args s around (args_of StaysNamed ys))
        ∙ and_from _ _ parts.0 (args_named around ys parts.1);
    cast_case = λ slot class on part around h.
        let parts =
        and_parts (is_short_identifier class) (is_named palette on) (sym (fold_cast Bool Bool is_named_step (is_named_arg palette) slot class on) ∙ h) in
        ap (is_named no_features) (projected_cast s around slot class on)
        ∙ fold_cast Bool Bool is_named_step (is_named_arg no_features) slot class (projected_expr s around on)
        ∙ and_from _ _ parts.0 (part around parts.1);
  })

-- none of its arguments is marked
abbrev arg_bare : Arg → Bool
arg_bare a = is_bare_arg (record { colors = a.colors; expr = is_bare a.expr })

module _ (s : Chosen) where
  abbrev BecomesBare : Expr → Type 0
  BecomesBare x = (around : Sides) → is_bare (projected_expr s around x) ≡ true

  args_bare : (around : Sides) (ys : List (Proved BecomesBare)) → list_all (λ b. b) (map arg_bare (projected_args s around (args_of BecomesBare ys))) ≡ true
  args_bare around ys =
      list_all-map (λ b. b) arg_bare (projected_args s around (args_of BecomesBare ys))
      ∙ ap (list_all arg_bare) (args_kept s around BecomesBare ys)
      ∙ all_made (kept_arg s around BecomesBare) (keeps_arg s around BecomesBare) arg_bare (λ y. y.1 (presence_of around y.0.colors)) ys

  pub becomes_bare : (x : Expr) → BecomesBare x
  becomes_bare = by_cases BecomesBare (record {
    var_case = λ slot name around. ap is_bare (projected_var s around slot name) ∙ fold_var Bool Bool is_bare_step is_bare_arg slot name;
    get_case = λ slot on part field around.
        ap is_bare (projected_get s around slot on field)
        ∙ fold_get Bool Bool is_bare_step is_bare_arg slot (projected_expr s around on) field
        ∙ part around;
    call_case = λ slot on part method ys around.
        ap is_bare (projected_call s around slot on method (args_of BecomesBare ys))
        ∙ fold_call Bool Bool is_bare_step is_bare_arg slot (projected_expr s around on) method (projected_args s around (args_of BecomesBare ys))
        ∙ and_from _ _ (part around) (args_bare around ys);
    new_case = λ slot class ys around.
        ap is_bare (projected_new s around slot class (args_of BecomesBare ys))
        ∙ fold_new Bool Bool is_bare_step is_bare_arg slot class (projected_args s around (args_of BecomesBare ys))
        ∙ args_bare around ys;
    cast_case = λ slot class on part around.
        ap is_bare (projected_cast s around slot class on)
        ∙ fold_cast Bool Bool is_bare_step is_bare_arg slot class (projected_expr s around on)
        ∙ part around;
  })

  -- nodes
  abbrev LosesNodes : Expr → Type 0
  LosesNodes x = (around : Sides) → node_count (projected_expr s around x) ≤ node_count x

  abbrev arg_nodes : List Arg → ℕ
  arg_nodes args = sum_by (λ n. n) (map (λ (a : Arg). node_count a.expr) args)

  nodes_less : (around : Sides) (ys : List (Proved LosesNodes))
      → arg_nodes (projected_args s around (args_of LosesNodes ys)) ≤ arg_nodes (args_of LosesNodes ys)
  nodes_less around ys =
      let count : Arg → ℕ = λ a. node_count a.expr in
      let fewer = sum_by-map (λ n. n) count (projected_args s around (args_of LosesNodes ys)) ∙ ap (sum_by count) (args_kept s around LosesNodes ys) in
      let all = sum_by-map (λ n. n) count (args_of LosesNodes ys) ∙ sum_by-map count (λ (y : Proved LosesNodes). y.0) ys in
      let less = sum_kept (kept_arg s around LosesNodes) (keeps_arg s around LosesNodes) (λ (y : Proved LosesNodes). node_count y.0.expr) count (λ y. y.1 (presence_of around y.0.colors)) ys in
      omega arith

  pub loses_nodes : (x : Expr) → LosesNodes x
  loses_nodes = by_cases LosesNodes (record {
    var_case = λ slot name around. let same = ap node_count (projected_var s around slot name) in omega arith;
    get_case = λ slot on part field around.
        let was = fold_get ℕ ℕ node_count_step of_arg slot on field in
        let is = ap node_count (projected_get s around slot on field) ∙ fold_get ℕ ℕ node_count_step of_arg slot (projected_expr s around on) field in
        let less = part around in
        omega arith;
    call_case = λ slot on part method ys around.
        let was = fold_call ℕ ℕ node_count_step of_arg slot on method (args_of LosesNodes ys) in
        let is = ap node_count (projected_call s around slot on method (args_of LosesNodes ys)) ∙ fold_call ℕ ℕ node_count_step of_arg slot (projected_expr s around on) method (projected_args s around (args_of LosesNodes ys)) in
        let less = part around in
        let fewer = nodes_less around ys in
        omega arith;
    new_case = λ slot class ys around.
        let was = fold_new ℕ ℕ node_count_step of_arg slot class (args_of LosesNodes ys) in
        let is = ap node_count (projected_new s around slot class (args_of LosesNodes ys)) ∙ fold_new ℕ ℕ node_count_step of_arg slot class (projected_args s around (args_of LosesNodes ys)) in
        let fewer = nodes_less around ys in
        omega arith;
    cast_case = λ slot class on part around.
        let was = fold_cast ℕ ℕ node_count_step of_arg slot class on in
        let is = ap node_count (projected_cast s around slot class on) ∙ fold_cast ℕ ℕ node_count_step of_arg slot class (projected_expr s around on) in
        let less = part around in
        omega arith;
  })

  -- nesting
  abbrev nesting : Expr → Nesting
  nesting = fold-Expr Nesting ℕ nesting_step nesting_of_arg

  pub record IsShallower (x y : Expr) : Type 0 where
    pub alike : (nesting x).is_cast ≡ (nesting y).is_cast
    pub depth : nest x ≤ nest y

  receiver_shallower : (x y : Expr) → IsShallower x y → receiver_depth (nesting x) ≤ receiver_depth (nesting y)
  receiver_shallower x y h = go (nesting y).is_cast (ap (λ b. if b then 1 + nest x else nest x) h.alike) h.depth
    where
      go : (b : Bool) → receiver_depth (nesting x) ≡ (if b then 1 + nest x else nest x) → nest x ≤ nest y
          → receiver_depth (nesting x) ≤ (if b then 1 + nest y else nest y)
      go true e less = omega arith
      go false e less = omega arith

  -- both are as their steps say
  shallower : (x y : Expr) (n m : Nesting) → nesting x ≡ n → nesting y ≡ m → n.is_cast ≡ m.is_cast → n.depth ≤ m.depth → IsShallower x y
  shallower x y n m is was alike less =
      let d = ap (λ (k : Nesting). k.depth) is in
      let b = ap (λ (k : Nesting). k.depth) was in
      record { alike = ap (λ (k : Nesting). k.is_cast) is ∙ alike ∙ sym (ap (λ (k : Nesting). k.is_cast) was); depth = omega arith }

  abbrev StaysShallow : Expr → Type 0
  StaysShallow x = (around : Sides) → IsShallower (projected_expr s around x) x

  abbrev arg_nest : Arg → ℕ
  arg_nest a = nest a.expr

  args_shallower : (around : Sides) (ys : List (Proved StaysShallow))
      → greatest (map arg_nest (projected_args s around (args_of StaysShallow ys))) ≤ greatest (map arg_nest (args_of StaysShallow ys))
  args_shallower around ys =
      let fewer = ap (λ args. greatest (map arg_nest args)) (args_kept s around StaysShallow ys) in
      let all = ap greatest (map-map arg_nest (λ (y : Proved StaysShallow). y.0) ys) in
      let less = greatest_kept (kept_arg s around StaysShallow) (keeps_arg s around StaysShallow) (λ (y : Proved StaysShallow). arg_nest y.0) arg_nest (λ y. (y.1 (presence_of around y.0.colors)).depth) ys in
      omega arith

  pub stays_shallow : (x : Expr) → StaysShallow x
  stays_shallow = by_cases StaysShallow (record {
    var_case = λ slot name around. let same = projected_var s around slot name in record { alike = ap (λ x. (nesting x).is_cast) same; depth = let d = ap nest same in omega arith };
    get_case = λ slot on part field around.
        shallower _ _ _ _
        (ap nesting (projected_get s around slot on field) ∙ fold_get Nesting ℕ nesting_step nesting_of_arg slot (projected_expr s around on) field)
        (fold_get Nesting ℕ nesting_step nesting_of_arg slot on field)
        refl
        (receiver_shallower _ _ (part around));
    call_case = λ slot on part method ys around.
        shallower _ _ _ _
        (ap nesting (projected_call s around slot on method (args_of StaysShallow ys)) ∙ fold_call Nesting ℕ nesting_step nesting_of_arg slot (projected_expr s around on) method (projected_args s around (args_of StaysShallow ys)))
        (fold_call Nesting ℕ nesting_step nesting_of_arg slot on method (args_of StaysShallow ys))
        refl
        (let inner = args_shallower around ys in let outer = receiver_shallower _ _ (part around) in omega arith);
    new_case = λ slot class ys around.
        shallower _ _ _ _
        (ap nesting (projected_new s around slot class (args_of StaysShallow ys)) ∙ fold_new Nesting ℕ nesting_step nesting_of_arg slot class (projected_args s around (args_of StaysShallow ys)))
        (fold_new Nesting ℕ nesting_step nesting_of_arg slot class (args_of StaysShallow ys))
        refl
        (let inner = args_shallower around ys in omega arith);
    cast_case = λ slot class on part around.
        shallower _ _ _ _
        (ap nesting (projected_cast s around slot class on) ∙ fold_cast Nesting ℕ nesting_step nesting_of_arg slot class (projected_expr s around on))
        (fold_cast Nesting ℕ nesting_step nesting_of_arg slot class on)
        refl
        (let less = (part around).depth in omega arith);
  })

  -- slots
  abbrev KeepsSlots : Expr → Type 0
  KeepsSlots x = (around : Sides) → IsSublist (slots (projected_expr s around x)) (slots x)

  abbrev arg_slots : Arg → List ℕ
  arg_slots a = slots a.expr

  args_slots : (around : Sides) (ys : List (Proved KeepsSlots))
      → IsSublist (flat_map (λ t. t) (map arg_slots (projected_args s around (args_of KeepsSlots ys)))) (flat_map (λ t. t) (map arg_slots (args_of KeepsSlots ys)))
  args_slots around ys =
      let is = flat_map-map (λ t. t) arg_slots (projected_args s around (args_of KeepsSlots ys)) ∙ ap (flat_map arg_slots) (args_kept s around KeepsSlots ys) in
      let was = flat_map-map (λ t. t) arg_slots (args_of KeepsSlots ys) ∙ flat_map-map arg_slots (λ (y : Proved KeepsSlots). y.0) ys in
      subst (λ ts. IsSublist ts (flat_map (λ t. t) (map arg_slots (args_of KeepsSlots ys)))) (sym is)
      (subst (IsSublist (flat_map arg_slots (kept (kept_arg s around KeepsSlots) (keeps_arg s around KeepsSlots) ys))) (sym was)
      (slots_kept (kept_arg s around KeepsSlots) (keeps_arg s around KeepsSlots) (λ (y : Proved KeepsSlots). arg_slots y.0) arg_slots (λ y. y.1 (presence_of around y.0.colors)) ys))

  sublist_as : (xs ys us vs : List ℕ) → xs ≡ us → ys ≡ vs → IsSublist us vs → IsSublist xs ys
  sublist_as xs ys us vs is was h = subst (λ w. IsSublist w ys) (sym is) (subst (IsSublist us) (sym was) h)

  pub keeps_slots : (x : Expr) → KeepsSlots x
  keeps_slots = by_cases KeepsSlots (record {
    var_case = λ slot name around.
        sublist_as _ _ (slot ∷ []) (slot ∷ [])
        (ap slots (projected_var s around slot name) ∙ fold_var (List ℕ) (List ℕ) slots_step of_arg slot name)
        (fold_var (List ℕ) (List ℕ) slots_step of_arg slot name)
        (both slot [] [] end);
    get_case = λ slot on part field around.
        sublist_as _ _ _ _
        (ap slots (projected_get s around slot on field) ∙ fold_get (List ℕ) (List ℕ) slots_step of_arg slot (projected_expr s around on) field)
        (fold_get (List ℕ) (List ℕ) slots_step of_arg slot on field)
        (sublist_append _ _ (slot ∷ []) (slot ∷ []) (part around) (both slot [] [] end));
    call_case = λ slot on part method ys around.
        sublist_as _ _ _ _
        (ap slots (projected_call s around slot on method (args_of KeepsSlots ys)) ∙ fold_call (List ℕ) (List ℕ) slots_step of_arg slot (projected_expr s around on) method (projected_args s around (args_of KeepsSlots ys)))
        (fold_call (List ℕ) (List ℕ) slots_step of_arg slot on method (args_of KeepsSlots ys))
        (sublist_append _ _ _ _ (part around) (both slot _ _ (args_slots around ys)));
    new_case = λ slot class ys around.
        sublist_as _ _ _ _
        (ap slots (projected_new s around slot class (args_of KeepsSlots ys)) ∙ fold_new (List ℕ) (List ℕ) slots_step of_arg slot class (projected_args s around (args_of KeepsSlots ys)))
        (fold_new (List ℕ) (List ℕ) slots_step of_arg slot class (args_of KeepsSlots ys))
        (both slot _ _ (args_slots around ys));
    cast_case = λ slot class on part around.
        sublist_as _ _ _ _
        (ap slots (projected_cast s around slot class on) ∙ fold_cast (List ℕ) (List ℕ) slots_step of_arg slot class (projected_expr s around on))
        (fold_cast (List ℕ) (List ℕ) slots_step of_arg slot class on)
        (both slot _ _ (part around));
  })
