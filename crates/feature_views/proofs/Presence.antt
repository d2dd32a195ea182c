-- The marks of a union all hold where those of each part do.
use Rattle.std.proofs.Common.{◌≡◌, refl, sym, ap, ◌∙◌, ℕ, ◌≤◌, min, Bool, true, false, ◌&&◌, ◌==◌, if◌then◌else◌, List, [], ◌∷◌, map, bit_and, bit_or, arith}
use Rattle.std.specs.Int.{bit_at}
use Rattle.std.specs.List.{filter}
use Rattle.std.proofs.lemmas.Bool.{eqb-true, eq-eqb, and_parts}
use Rattle.std.proofs.lemmas.Nat.Bits.{bit_at-zero, bit_at_and, bit_at_or, same_from_bits}
use Rattle.cfj_model.specs.declared.class.Field.{Field}
use Rattle.cfj_model.specs.declared.class.Param.{Param}
use Rattle.cfj_model.specs.declared.class.Sent.{Sent}
use Rattle.cfj_model.specs.declared.class.Constructor.{Constructor}
use Rattle.cfj_model.specs.declared.class.Method.{Method}
use Rattle.cfj_model.specs.declared.class.Class.{Class}
use Rattle.cfj_model.specs.declared.expr.Arg.{Arg}
use Rattle.cfj_model.specs.declared.expr.Expr.{Expr}
use Rattle.cfj_model.specs.declared.expr.Expr.TheVariants as e
use Rattle.cfj_model.proofs.ExprCases.{Proved, args_of, by_cases}
use Rattle.cfj_model.specs.Coloring.{no_colors}
use Rattle.cfj_model.specs.Projection.{presence_of, is_present, bare_field, bare_param, bare_sent, present_methods, projected_ctor, projected_expr, projected_method, projected_class}
use Rattle.cfj_logic.specs.Selections.{Chosen, is_subset}
use Rattle.cfj_logic.specs.Sides.{Sides}
use Rattle.feature_views.specs.Selected.{selected_nodes, selected_expr, selected_arg, selected_args, selected_method}
use Rattle.feature_views.proofs.Kept.{kept_of_map}
use Rattle.feature_views.proofs.SelectedBodies.{selected_var, selected_get, selected_call, selected_new, selected_cast, arg_present, projected_arg, projected_args, projected_var, projected_get, projected_call, projected_new, projected_cast}

-- a subset has each of its bits in the set
bits_within : (a n : ℕ) → is_subset a n ≡ true → (i : ℕ) → bit_at a i ≤ bit_at n i
bits_within a n e i =
    let same : bit_and a n ≡ a = eqb-true (bit_and a n) a e in
    let bit : min (bit_at a i) (bit_at n i) ≡ bit_at a i = sym (bit_at_and a n i) ∙ ap (λ w. bit_at w i) same in
    omega arith

within_by_bits : (a n : ℕ) → ((i : ℕ) → bit_at a i ≤ bit_at n i) → is_subset a n ≡ true
within_by_bits a n h = eq-eqb (bit_and a n) a (same_from_bits (bit_and a n) a (λ i. bit_at_and a n i ∙ least (bit_at a i) (bit_at n i) (h i)))
  where
    least : (x y : ℕ) → x ≤ y → min x y ≡ x
    least x y le = omega arith

both_ways : (p q : Bool) → (p ≡ true → q ≡ true) → (q ≡ true → p ≡ true) → p ≡ q
both_ways true true f g = refl
both_ways true false f g = sym (f refl)
both_ways false true f g = g refl
both_ways false false f g = refl

-- within a set, a union is a subset where its other part is one
wanted_inside : (around own on : ℕ) → is_subset around on ≡ true → is_subset (bit_or around own) on ≡ is_subset own on
wanted_inside around own on e =
    both_ways (is_subset (bit_or around own) on) (is_subset own on)
    (λ all. within_by_bits own on (λ i. part i (bits_within (bit_or around own) on all i)))
    (λ mine. within_by_bits (bit_or around own) on (λ i. whole i (bits_within around on e i) (bits_within own on mine i)))
  where
    part : (i : ℕ) → bit_at (bit_or around own) i ≤ bit_at on i → bit_at own i ≤ bit_at on i
    part i le = let bit = bit_at_or around own i in omega arith

    whole : (i : ℕ) → bit_at around i ≤ bit_at on i → bit_at own i ≤ bit_at on i → bit_at (bit_or around own) i ≤ bit_at on i
    whole i left right = let bit = bit_at_or around own i in omega arith

-- what has no member in a set adds none of its members to a union
none_added : (around own on : ℕ) → bit_and around on ≡ 0 → bit_and (bit_or around own) on ≡ bit_and own on
none_added around own on none =
    same_from_bits (bit_and (bit_or around own) on) (bit_and own on) (λ i. bit i (bit_at_and around on i) (ap (λ n. bit_at n i) none ∙ bit_at-zero i))
  where
    bit : (i : ℕ) → bit_at (bit_and around on) i ≡ min (bit_at around i) (bit_at on i) → bit_at (bit_and around on) i ≡ 0
        → bit_at (bit_and (bit_or around own) on) i ≡ bit_at (bit_and own on) i
    bit i both nothing =
        let either = bit_at_or around own i in
        let all = bit_at_and (bit_or around own) on i in
        let mine = bit_at_and own on i in
        omega arith

-- so a union has no member in the set where its other part has none
unwanted_inside : (around own on : ℕ) → (bit_and around on == 0) ≡ true → (bit_and (bit_or around own) on == 0) ≡ (bit_and own on == 0)
unwanted_inside around own on e = ap (λ n. n == 0) (none_added around own on (eqb-true (bit_and around on) 0 e))

-- inside what is present, a node is present where its own marks all hold
pub present_inside : (s : Chosen) (around own : Sides) → is_present s around ≡ true → is_present s (presence_of around own) ≡ is_present s own
present_inside s around own e =
    let parts = and_parts (is_subset around.on s.on) (bit_and around.off s.on == 0) e in
    ap (λ b. b && (bit_and (bit_or around.off own.off) s.on == 0)) (wanted_inside around.on own.on s.on parts.0)
    ∙ ap (λ b. is_subset own.on s.on && b) (unwanted_inside around.off own.off s.on parts.1)

-- two lists agree where the same items are kept of one, and the same is made of each
same_kept : {A B : Type 0} (f g : A → B) (p q : A → Bool) → ((x : A) → p x ≡ q x) → ((x : A) → q x ≡ true → f x ≡ g x) → (xs : List A)
    → map f (filter p xs) ≡ map g (filter q xs)
same_kept f g p q same made [] = refl
same_kept f g p q same made (x ∷ xs) = ap (λ b. map f (if b then x ∷ filter p xs else filter p xs)) (same x) ∙ go (q x) (made x) (same_kept f g p q same made xs)
  where
    go : (b : Bool) → (b ≡ true → f x ≡ g x) → map f (filter p xs) ≡ map g (filter q xs)
        → map f (if b then x ∷ filter p xs else filter p xs) ≡ map g (if b then x ∷ filter q xs else filter q xs)
    go true here rest = ap (λ y. y ∷ map f (filter p xs)) (here refl) ∙ ap (λ w. g x ∷ w) rest
    go false here rest = rest

-- so the present items of a list are those whose own marks hold
present_items : {A : Type 0} (bare : A → A) (colors : A → Sides) (s : Chosen) (around : Sides) (xs : List A) → is_present s around ≡ true
    → map bare (filter (λ x. is_present s (presence_of around (colors x))) xs) ≡ selected_nodes colors bare s xs
present_items bare colors s around xs e =
    same_kept bare bare (λ x. is_present s (presence_of around (colors x))) (λ x. is_present s (colors x)) (λ x. present_inside s around (colors x) e) (λ x _. refl) xs

-- a node that is selected within what is present is present
presence_inside : (s : Chosen) (around own : Sides) → is_present s around ≡ true → is_present s own ≡ true → is_present s (presence_of around own) ≡ true
presence_inside s around own here mine = present_inside s around own here ∙ mine

abbrev bare_arg : Expr → Arg
bare_arg x = record { colors = no_colors; expr = x }

-- an expression within what is present, by the own marks of its arguments
module _ (s : Chosen) where
  abbrev IsSelected : Expr → Type 0
  IsSelected x = (around : Sides) → is_present s around ≡ true → projected_expr s around x ≡ selected_expr s x

  args_inside : (around : Sides) → is_present s around ≡ true → (args : List (Proved IsSelected))
      → projected_args s around (args_of IsSelected args) ≡ selected_args s (args_of IsSelected args)
  args_inside around here args =
      kept_of_map (projected_arg s around) (arg_present s around) (λ (y : Proved IsSelected). y.0) args
      ∙ same_kept (λ (y : Proved IsSelected). projected_arg s around y.0) (λ (y : Proved IsSelected). selected_arg s y.0) (λ (y : Proved IsSelected). arg_present s around y.0) (λ (y : Proved IsSelected). is_present s y.0.colors)
      (λ y. present_inside s around y.0.colors here)
      (λ y mine. ap bare_arg (y.1 (presence_of around y.0.colors) (presence_inside s around y.0.colors here mine)))
      args
      ∙ sym (kept_of_map (selected_arg s) (λ (a : Arg). is_present s a.colors) (λ (y : Proved IsSelected). y.0) args)

  pub expr_inside : (x : Expr) → IsSelected x
  expr_inside = by_cases IsSelected (record {
    var_case = λ slot name around here. projected_var s around slot name ∙ sym (selected_var s slot name);
    get_case = λ slot on h field around here. projected_get s around slot on field ∙ ap (λ x. e.Get slot x field) (h around here) ∙ sym (selected_get s slot on field);
    call_case = λ slot on h method args around here.
        projected_call s around slot on method (args_of IsSelected args)
        ∙ ap (λ x. e.Call slot x method (projected_args s around (args_of IsSelected args))) (h around here)
        ∙ ap (e.Call slot (selected_expr s on) method) (args_inside around here args)
        ∙ sym (selected_call s slot on method (args_of IsSelected args));
    new_case = λ slot class args around here.
        projected_new s around slot class (args_of IsSelected args)
        ∙ ap (e.New slot class) (args_inside around here args)
        ∙ sym (selected_new s slot class (args_of IsSelected args));
    cast_case = λ slot class on h around here. projected_cast s around slot class on ∙ ap (e.Cast slot class) (h around here) ∙ sym (selected_cast s slot class on);
  })

  -- a method within what is present
  pub method_inside : (around : Sides) (m : Method) → is_present s around ≡ true → is_present s m.colors ≡ true
      → projected_method s around m ≡ selected_method s m
  method_inside around m here mine =
      let within = presence_inside s around m.colors here mine in
      let params = present_items bare_param (λ (p : Param). p.colors) s (presence_of around m.colors) m.params within in
      let body = expr_inside m.body (presence_of around m.colors) within in
      rw (params, body) refl

  pub methods_inside : (around : Sides) (ms : List Method) → is_present s around ≡ true
      → present_methods s around ms ≡ selected_nodes (λ (m : Method). m.colors) (selected_method s) s ms
  methods_inside around ms here =
      same_kept (projected_method s around) (selected_method s) (λ m. is_present s (presence_of around m.colors)) (λ m. is_present s m.colors)
      (λ m. present_inside s around m.colors here) (λ m mine. method_inside around m here mine) ms

-- a constructor in a present class, and the class, by their selected nodes
pub ctor_is : (s : Chosen) (around : Sides) (c : Constructor) (params : List Param) (sends assigns : List Sent) → is_present s around ≡ true
    → params ≡ selected_nodes (λ (p : Param). p.colors) bare_param s c.params → sends ≡ selected_nodes (λ (a : Sent). a.colors) bare_sent s c.sends
    → assigns ≡ selected_nodes (λ (a : Sent). a.colors) bare_sent s c.assigns
    → record { params = params; sends = sends; assigns = assigns } ≡ projected_ctor s around c
ctor_is s around c params sends assigns here p d a =
    let of_params = p ∙ sym (present_items bare_param (λ q. q.colors) s around c.params here) in
    let of_sends = d ∙ sym (present_items bare_sent (λ q. q.colors) s around c.sends here) in
    let of_assigns = a ∙ sym (present_items bare_sent (λ q. q.colors) s around c.assigns here) in
    rw (of_params, of_sends, of_assigns) refl

pub class_is : (s : Chosen) (k : Class) (name : List ℕ) (colors : Sides) (parent : List ℕ) (fields : List Field) (ctor : Constructor) (methods : List Method)
    → is_present s k.colors ≡ true → name ≡ k.name → colors ≡ no_colors → parent ≡ k.parent
    → fields ≡ selected_nodes (λ (f : Field). f.colors) bare_field s k.fields → ctor ≡ projected_ctor s k.colors k.ctor
    → methods ≡ selected_nodes (λ (m : Method). m.colors) (selected_method s) s k.methods
    → record { name = name; colors = colors; parent = parent; fields = fields; ctor = ctor; methods = methods } ≡ projected_class s k
class_is s k name colors parent fields ctor methods here n c p f d m =
    let of_fields = f ∙ sym (present_items bare_field (λ q. q.colors) s k.colors k.fields here) in
    let of_methods = m ∙ sym (methods_inside s k.colors k.methods here) in
    rw (n, c, p, of_fields, d, of_methods) refl
