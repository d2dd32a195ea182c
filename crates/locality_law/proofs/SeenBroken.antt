-- What is seen of a unit breaks where what the variant has of the unit breaks.
use Rattle.std.proofs.Common.{◌≡◌, ℕ, ◌==◌, Bool, true, false, not, cond, List, [], ◌∷◌, ◌++◌, map, append-nil, bit_and, bit_or, Option, None, Some, refl, sym, ◌∙◌, ap, arith}
use Rattle.std.specs.Int.{bit_at}
use Rattle.std.specs.List.{filter, find, flat_map}
use Rattle.std.specs.Option.{option_and_then}
use Rattle.std.proofs.lemmas.Bool.{and_from, and_parts, eq-eqb, eqb-true}
use Rattle.std.proofs.lemmas.List.{map-append}
use Rattle.std.proofs.lemmas.List.Elements.{filter-append}
use Rattle.std.proofs.lemmas.Nat.Bits.{bit_at-zero, bit_at_and, bit_at_or, same_from_bits}
use Rattle.cfj_logic.specs.Selections.{Chosen, is_subset}
use Rattle.cfj_logic.specs.Sides.{Sides}
use Rattle.cfj_model.specs.Judging.{JudgedExpr, RuleAt, Ruling, environment_of, extends_itself, is_no_result, is_overridden_wrongly, judged_at, judged_ctor, judged_expr, judged_field, judged_method}
use Rattle.cfj_model.specs.LookUps.{Table, ancestors, declared, first_some, is_known, method_called}
use Rattle.cfj_model.specs.Members.{Placed, is_again, method_alts_rise, method_name_of, placed, placed_behind}
use Rattle.cfj_model.specs.ProductLines.{IsProject, ProductLine}
use Rattle.cfj_model.specs.Projection.{bare_field, bare_param, is_present, presence_of, present_methods, projected, projected_class, projected_method}
use Rattle.cfj_model.specs.declared.class.Class.{Class}
use Rattle.cfj_model.specs.declared.class.Field.{Field}
use Rattle.cfj_model.specs.declared.class.Method.{Method}
use Rattle.cfj_model.specs.declared.class.Param.{Param}
use Rattle.cfj_model.specs.declared.site.Rule.TheVariants.{K1, K2, K7, K8, K9}
use Rattle.cfj_model.specs.declared.site.Site.{Site}
use Rattle.cfj_model.specs.declared.site.Site.TheVariants as site
use Rattle.unit_facts.specs.Units.{is_declaration, judged_own, of_some, placed_method, unit_judged}
use Rattle.unit_facts.specs.declared.unit.Unit.{Unit}
use Rattle.unit_facts.specs.declared.unit.Unit.TheVariants as unit
use Rattle.locality_law.specs.Seen.{broken, seen_ctor, seen_ctor_param, seen_expr, seen_field, seen_method, seen_own, seen_param, seen_unit, silent, where_present}
use Rattle.locality_law.proofs.Items.{IsAlone}
use Rattle.locality_law.proofs.Methods.{rise_alone}
use Rattle.locality_law.proofs.SeenBodies.{body_seen, broken_both}
use Rattle.locality_law.proofs.SeenVariants.{declared_variant, shown, variant_is}
use Rattle.locality_law.proofs.Told.{kept_declared}

-- ---- what isn't there

silent_broken : (js : List RuleAt) → broken (silent js) ≡ []
silent_broken [] = refl
silent_broken (j ∷ js) = silent_broken js

-- a part of a set that lies in another lies in it
less_wanted : (around own on : ℕ) → is_subset (bit_or around own) on ≡ true → is_subset around on ≡ true
less_wanted around own on e = eq-eqb (bit_and around on) around (same_from_bits (bit_and around on) around (λ i. bit i (ap (λ n. bit_at n i) (eqb-true (bit_and (bit_or around own) on) (bit_or around own) e))))
  where
    bit : (i : ℕ) → bit_at (bit_and (bit_or around own) on) i ≡ bit_at (bit_or around own) i → bit_at (bit_and around on) i ≡ bit_at around i
    bit i same =
        let either = bit_at_or around own i in
        let all = bit_at_and (bit_or around own) on i in
        let mine = bit_at_and around on i in
        omega arith

-- nor has it a member in a set where the whole has none
less_unwanted : (around own on : ℕ) → (bit_and (bit_or around own) on == 0) ≡ true → (bit_and around on == 0) ≡ true
less_unwanted around own on e = eq-eqb (bit_and around on) 0 (same_from_bits (bit_and around on) 0 (λ i. bit i (ap (λ n. bit_at n i) (eqb-true (bit_and (bit_or around own) on) 0 e) ∙ bit_at-zero i) ∙ sym (bit_at-zero i)))
  where
    bit : (i : ℕ) → bit_at (bit_and (bit_or around own) on) i ≡ 0 → bit_at (bit_and around on) i ≡ 0
    bit i none =
        let either = bit_at_or around own i in
        let all = bit_at_and (bit_or around own) on i in
        let mine = bit_at_and around on i in
        omega arith

-- what stands in something absent is absent
pub absent_inside : (s : Chosen) (around own : Sides) → is_present s around ≡ false → is_present s (presence_of around own) ≡ false
absent_inside s around own absent = go (is_present s (presence_of around own)) refl
  where
    go : (b : Bool) → is_present s (presence_of around own) ≡ b → b ≡ false
    go false e = refl
    go true e =
        let parts = and_parts (is_subset (bit_or around.on own.on) s.on) (bit_and (bit_or around.off own.off) s.on == 0) e in
        sym (and_from (is_subset around.on s.on) (bit_and around.off s.on == 0) (less_wanted around.on own.on s.on parts.0) (less_unwanted around.off own.off s.on parts.1)) ∙ absent

-- ---- items that are kept

module _ {A B : Type 0} (made : A → B) (keeps : A → Bool) where
  abbrev kept : List A → List B
  kept xs = map made (filter keeps xs)

  kept_append : (xs : List A) (x : A) → kept (xs ++ x ∷ []) ≡ kept xs ++ kept (x ∷ [])
  kept_append xs x = ap (map made) (filter-append keeps xs (x ∷ [])) ∙ map-append made (filter keeps xs) (filter keeps (x ∷ []))

  kept_one : (x : A) (b : Bool) → keeps x ≡ b → kept (x ∷ []) ≡ cond b (made x ∷ []) []
  kept_one x b e = ap (λ c. map made (cond c (x ∷ []) [])) e ∙ go b
    where
      go : (b : Bool) → map made (cond b (x ∷ []) []) ≡ cond b (made x ∷ []) []
      go true = refl
      go false = refl

  -- one more that is there stands behind those that are there; one that isn't changes nothing
  kept_more : (xs : List A) (x : A) → keeps x ≡ true → kept (xs ++ x ∷ []) ≡ kept xs ++ made x ∷ []
  kept_more xs x e = kept_append xs x ∙ ap (λ w. kept xs ++ w) (kept_one x true e)

  kept_none : (xs : List A) (x : A) → keeps x ≡ false → kept (xs ++ x ∷ []) ≡ kept xs
  kept_none xs x e = kept_append xs x ∙ ap (λ w. kept xs ++ w) (kept_one x false e) ∙ append-nil (kept xs)

  -- what breaks of all items, each where it is there, is what breaks of the kept ones
  kept_broken : (of : A → List RuleAt) (left : B → List RuleAt) → ((x : A) → broken (of x) ≡ broken (left (made x))) → (xs : List A)
      → broken (flat_map (λ x. where_present (keeps x) (of x)) xs) ≡ broken (flat_map left (kept xs))
  kept_broken of left same [] = refl
  kept_broken of left same (x ∷ xs) = go (keeps x) (kept_broken of left same xs)
    where
      rest : List RuleAt
      rest = flat_map (λ y. where_present (keeps y) (of y)) xs

      go : (b : Bool) → broken rest ≡ broken (flat_map left (kept xs)) → broken (where_present b (of x) ++ rest) ≡ broken (flat_map left (map made (cond b (x ∷ filter keeps xs) (filter keeps xs))))
      go true ih = broken_both (of x) (left (made x)) rest (flat_map left (kept xs)) (same x) ih
      go false ih = filter-append (λ (j : RuleAt). j.breaks) (silent (of x)) rest ∙ ap (λ w. w ++ broken rest) (silent_broken (of x)) ∙ ih

  -- an item with those before it, of which the kept ones are left
  abbrev placed_left : Placed A → Placed B
  placed_left q = record { before = kept q.before; item = made q.item }

  -- the same of items with those before them
  placed_broken : (of : Placed A → List RuleAt) (left : Placed B → List RuleAt) → ((q : Placed A) → broken (of q) ≡ broken (left (placed_left q))) → (before xs : List A)
      → broken (flat_map (λ q. where_present (keeps q.item) (of q)) (placed_behind before xs)) ≡ broken (flat_map left (placed_behind (kept before) (kept xs)))
  placed_broken of left same before [] = refl
  placed_broken of left same before (x ∷ xs) = go (keeps x) refl (placed_broken of left same (before ++ x ∷ []) xs)
    where
      here : Placed A
      here = record { before = before; item = x }

      rest : List RuleAt
      rest = flat_map (λ q. where_present (keeps q.item) (of q)) (placed_behind (before ++ x ∷ []) xs)

      behind : List B → List RuleAt
      behind ys = flat_map left (placed_behind ys (kept xs))

      go : (b : Bool) → keeps x ≡ b → broken rest ≡ broken (behind (kept (before ++ x ∷ [])))
          → broken (where_present b (of here) ++ rest) ≡ broken (flat_map left (placed_behind (kept before) (map made (cond b (x ∷ filter keeps xs) (filter keeps xs)))))
      go true e ih =
          broken_both (of here) (left (placed_left here)) rest (behind (kept before ++ made x ∷ [])) (same here)
          (ih ∙ ap (λ ys. broken (behind ys)) (kept_more before x e))
      go false e ih =
          filter-append (λ (j : RuleAt). j.breaks) (silent (of here)) rest
          ∙ ap (λ w. w ++ broken rest) (silent_broken (of here))
          ∙ ih
          ∙ ap (λ ys. broken (behind ys)) (kept_none before x e)

  -- what is left of an item with those before it
  abbrev left_placed : Placed A → Option (Placed B)
  left_placed q = cond (keeps q.item) (Some (placed_left q)) None

  none_placed : (test : A → Bool) (before xs : List A) → find test xs ≡ None → find (λ (q : Placed A). test q.item) (placed_behind before xs) ≡ None
  none_placed test before [] e = refl
  none_placed test before (x ∷ xs) e = go (none_placed test (before ++ x ∷ []) xs) (test x) e
    where
      go : (find test xs ≡ None → find (λ (q : Placed A). test q.item) (placed_behind (before ++ x ∷ []) xs) ≡ None) → (b : Bool) → cond b (Some x) (find test xs) ≡ None
          → cond b (Some (let q : Placed A = record { before = before; item = x } in q)) (find (λ (q : Placed A). test q.item) (placed_behind (before ++ x ∷ []) xs)) ≡ None
      go ih true f = absurd (let none : ⊥ = cc f in none)
      go ih false f = ih f

  -- what is found among the kept items, with those before it, is what is left of what was found
  found_placed : (test : A → Bool) (like : B → Bool) → ((x : A) → like (made x) ≡ test x) → (before xs : List A) → IsAlone test xs
      → find (λ (q : Placed B). like q.item) (placed_behind (kept before) (kept xs)) ≡ option_and_then left_placed (find (λ (q : Placed A). test q.item) (placed_behind before xs))
  found_placed test like same before [] alone = refl
  found_placed test like same before (x ∷ xs) alone = go (keeps x) refl (test x) refl (found_placed test like same (before ++ x ∷ []) xs alone.1)
    where
      here : Placed A
      here = record { before = before; item = x }

      rest : Option (Placed A)
      rest = find (λ (q : Placed A). test q.item) (placed_behind (before ++ x ∷ []) xs)

      found : List B → Option (Placed B)
      found ys = find (λ (q : Placed B). like q.item) (placed_behind ys (kept xs))

      go : (k : Bool) → keeps x ≡ k → (t : Bool) → test x ≡ t → found (kept (before ++ x ∷ [])) ≡ option_and_then left_placed rest
          → find (λ (q : Placed B). like q.item) (placed_behind (kept before) (map made (cond k (x ∷ filter keeps xs) (filter keeps xs)))) ≡ option_and_then left_placed (cond t (Some here) rest)
      go true q true r ih =
          ap (λ b. cond b (Some (placed_left here)) (found (kept before ++ made x ∷ []))) (same x ∙ r)
          ∙ sym (ap (λ b. cond b (Some (placed_left here)) None) q)
      go true q false r ih = ap (λ b. cond b (Some (placed_left here)) (found (kept before ++ made x ∷ []))) (same x ∙ r) ∙ ap found (sym (kept_more before x q)) ∙ ih
      go false q true r ih =
          ap found (sym (kept_none before x q))
          ∙ ih
          ∙ ap (option_and_then left_placed) (none_placed test (before ++ x ∷ []) xs (alone.0 r))
          ∙ sym (ap (λ b. cond b (Some (placed_left here)) None) q)
      go false q false r ih = ap found (sym (kept_none before x q)) ∙ ih

-- ---- a class

module _ (s : Chosen) (p : Table) (k : Class) where
  abbrev variant : Class
  variant = projected_class s k

  -- of a class that is there
  abbrev own_judged : List RuleAt
  own_judged =
      judged_at (site.Class k.name) ((K1, not (is_known p k.parent)) ∷ (K2, extends_itself p k) ∷ [])
      ++ (flat_map (seen_field s p k) (placed k.fields) ++ (seen_ctor p variant ++ flat_map (seen_ctor_param s p k) k.ctor.params))

  own_there : broken own_judged ≡ broken (judged_own p variant)
  own_there =
      broken_both head head (fields ++ (seen_ctor p variant ++ params)) (flat_map (judged_field p variant) (placed variant.fields) ++ judged_ctor p variant) refl
      (broken_both fields (flat_map (judged_field p variant) (placed variant.fields)) (seen_ctor p variant ++ params) (judged_ctor p variant)
      (placed_broken bare_field (λ (f : Field). is_present s (presence_of k.colors f.colors)) (λ (q : Placed Field). judged_field p k (let left : Placed Field = record { before = kept bare_field (λ (f : Field). is_present s (presence_of k.colors f.colors)) q.before; item = q.item } in left))
      (judged_field p variant) (λ q. refl) [] k.fields)
      (broken_both (seen_ctor p variant) (seen_ctor p variant) params
      (flat_map (λ (c : Param). judged_at (site.CtorParam k.name c.slot) ((K1, not (is_known p c.of)) ∷ [])) variant.ctor.params) refl
      (kept_broken bare_param (λ (c : Param). is_present s (presence_of k.colors c.colors)) (λ (c : Param). judged_at (site.CtorParam k.name c.slot) ((K1, not (is_known p c.of)) ∷ []))
      (λ (c : Param). judged_at (site.CtorParam k.name c.slot) ((K1, not (is_known p c.of)) ∷ [])) (λ c. refl) k.ctor.params)))
    where
      head : List RuleAt
      head = judged_at (site.Class k.name) ((K1, not (is_known p k.parent)) ∷ (K2, extends_itself p k) ∷ [])

      fields : List RuleAt
      fields = flat_map (seen_field s p k) (placed k.fields)

      params : List RuleAt
      params = flat_map (seen_ctor_param s p k) k.ctor.params

  own_broken : broken (seen_own s p k) ≡ broken (of_some (judged_own p) (shown s k))
  own_broken = go (is_present s k.colors)
    where
      go : (b : Bool) → broken (where_present b own_judged) ≡ broken (of_some (judged_own p) (cond b (Some variant) None))
      go true = own_there
      go false = silent_broken own_judged

  -- ---- a method

  module _ (q : Placed Method) where
    abbrev within : Sides
    within = presence_of k.colors q.item.colors

    abbrev left : Method
    left = projected_method s k.colors q.item

    abbrev keeps_method : Method → Bool
    keeps_method m = is_present s (presence_of k.colors m.colors)

    abbrev again : Bool
    again = is_again method_name_of (let w : Placed Method = record { before = present_methods s k.colors q.before; item = left } in w)

    abbrev seen_body : JudgedExpr
    seen_body = seen_expr s p (environment_of k left) within q.item.body

    abbrev left_body : JudgedExpr
    left_body = judged_expr p (environment_of k left) left.body

    abbrev head_with : Option (List ℕ) → List RuleAt
    head_with t =
        judged_at (site.Method k.name q.item.name q.item.alt)
        ((K1, not (is_known p q.item.result))
        ∷ (K7, is_overridden_wrongly left (first_some (method_called q.item.name) (ancestors p k.name)))
        ∷ (K8, is_no_result p left t)
        ∷ (K9, again) ∷ [])

    abbrev node_at : ℕ → Site
    node_at slot = site.Node k.name q.item.name q.item.alt slot

    abbrev nodes_of : JudgedExpr → List RuleAt
    nodes_of j = flat_map (λ (n : ℕ × List Ruling). judged_at (node_at n.0) n.1) (j.rules [])

    abbrev one_param : Param → List RuleAt
    one_param a = judged_at (site.Param k.name q.item.name q.item.alt a.slot) ((K1, not (is_known p a.of)) ∷ [])

    abbrev method_judged : List RuleAt
    method_judged = head_with seen_body.type ++ (flat_map (seen_param s p k q.item within) q.item.params ++ nodes_of seen_body)

    method_there : broken method_judged ≡ broken (judged_method p variant (placed_left (projected_method s k.colors) keeps_method q))
    method_there =
        let alike = body_seen node_at s p (environment_of k left) q.item.body within in
        broken_both (head_with seen_body.type) (head_with left_body.type) (flat_map (seen_param s p k q.item within) q.item.params ++ nodes_of seen_body) (flat_map one_param left.params ++ nodes_of left_body)
        (ap (λ t. broken (head_with t)) alike.0)
        (broken_both (flat_map (seen_param s p k q.item within) q.item.params) (flat_map one_param left.params) (nodes_of seen_body) (nodes_of left_body)
        (kept_broken bare_param (λ (a : Param). is_present s (presence_of within a.colors)) one_param one_param (λ a. refl) q.item.params)
        (alike.1 []))

    method_broken : broken (seen_method s p k q) ≡ broken (of_some (judged_method p variant) (left_placed (projected_method s k.colors) keeps_method q))
    method_broken = go (is_present s within)
      where
        go : (b : Bool) → broken (where_present b method_judged) ≡ broken (of_some (judged_method p variant) (cond b (Some (placed_left (projected_method s k.colors) keeps_method q)) None))
        go true = method_there
        go false = silent_broken method_judged

    -- where its class isn't there, nothing of it breaks
    method_absent : is_present s k.colors ≡ false → broken (seen_method s p k q) ≡ []
    method_absent absent = ap (λ b. broken (where_present b method_judged)) (absent_inside s k.colors q.item.colors absent) ∙ silent_broken method_judged

  methods_broken : (m : List ℕ) (alt : ℕ) → method_alts_rise k.methods ≡ true
      → broken (of_some (seen_method s p k) (placed_method m alt k)) ≡ broken (of_some (λ v. of_some (judged_method p v) (placed_method m alt v)) (shown s k))
  methods_broken m alt rise = go (is_present s k.colors) refl
    where
      keeps : Method → Bool
      keeps d = is_present s (presence_of k.colors d.colors)

      found : placed_method m alt variant ≡ option_and_then (left_placed (projected_method s k.colors) keeps) (placed_method m alt k)
      found = found_placed (projected_method s k.colors) keeps (is_declaration m alt) (is_declaration m alt) (λ d. refl) [] k.methods (rise_alone m alt k.methods rise)

      there : (o : Option (Placed Method)) → broken (of_some (seen_method s p k) o) ≡ broken (of_some (judged_method p variant) (option_and_then (left_placed (projected_method s k.colors) keeps) o))
      there None = refl
      there (Some q) = method_broken q

      away : is_present s k.colors ≡ false → (o : Option (Placed Method)) → broken (of_some (seen_method s p k) o) ≡ []
      away absent None = refl
      away absent (Some q) = method_absent q absent

      go : (b : Bool) → is_present s k.colors ≡ b
          → broken (of_some (seen_method s p k) (placed_method m alt k)) ≡ broken (of_some (λ v. of_some (judged_method p v) (placed_method m alt v)) (cond b (Some variant) None))
      go true e = there (placed_method m alt k) ∙ ap (λ o. broken (of_some (judged_method p variant) o)) (sym found)
      go false e = away e (placed_method m alt k)

-- ---- a unit

pub seen_broken : (s : Chosen) (line : ProductLine) → IsProject line → (u : Unit) → broken (seen_unit s line u) ≡ broken (unit_judged (projected s line).classes u)
seen_broken s line project unit.Model = refl
seen_broken s line project (unit.Class c) = go (declared line.classes c) ∙ sym (ap (λ o. broken (of_some (judged_own t) o)) shown_in)
  where
    t : Table
    t = (projected s line).classes

    shown_in : declared t c ≡ option_and_then (shown s) (declared line.classes c)
    shown_in = ap (λ w. declared w c) (variant_is s line) ∙ declared_variant s line.classes project.classes_distinct c

    go : (o : Option Class) → broken (of_some (seen_own s t) o) ≡ broken (of_some (judged_own t) (option_and_then (shown s) o))
    go None = refl
    go (Some k) = own_broken s t k
seen_broken s line project (unit.Method c m alt) = go (declared line.classes c) refl ∙ sym (ap (λ o. broken (of_some inside o)) shown_in)
  where
    t : Table
    t = (projected s line).classes

    inside : Class → List RuleAt
    inside v = of_some (judged_method t v) (placed_method m alt v)

    shown_in : declared t c ≡ option_and_then (shown s) (declared line.classes c)
    shown_in = ap (λ w. declared w c) (variant_is s line) ∙ declared_variant s line.classes project.classes_distinct c

    go : (o : Option Class) → declared line.classes c ≡ o → broken (of_some (λ k. of_some (seen_method s t k) (placed_method m alt k)) o) ≡ broken (of_some inside (option_and_then (shown s) o))
    go None e = refl
    go (Some k) e = methods_broken s t k m alt (kept_declared line project c k e).rise
