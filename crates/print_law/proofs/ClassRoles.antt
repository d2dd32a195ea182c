-- The tree of a project, and of each of its classes, is within the limits.
use Rattle.std.proofs.Common.{◌≡◌, ℕ, ◌+◌, ◌<◌, ◌≤◌, true, false, not, List, [], ◌∷◌, ◌++◌, length, map, None, refl, sym, ap, subst, ◌∙◌, append_assoc, length-append, arith}
use Rattle.std.specs.Prelude.{sum_by}
use Rattle.std.specs.List.{list_all}
use Rattle.std.specs.Str.{bytes_eq}
use Rattle.std.proofs.lemmas.Bool.{and_parts, leb-true, not-true}
use Rattle.std.proofs.lemmas.List.{append-nil}
use Rattle.std.proofs.lemmas.List.Sums.{sum_by-cons}
use Rattle.cfj_model.specs.declared.class.Field.{Field}
use Rattle.cfj_model.specs.declared.class.Param.{Param}
use Rattle.cfj_model.specs.declared.class.Sent.{Sent}
use Rattle.cfj_model.specs.declared.class.Method.{Method}
use Rattle.cfj_model.specs.declared.class.Class.{Class}
use Rattle.cfj_logic.specs.declared.formula.Formula.{Formula}
use Rattle.cfj_model.specs.declared.feature_model.Format.{Format}
use Rattle.cfj_model.specs.declared.feature_model.Format.TheVariants.{One, Two}
use Rattle.cfj_model.specs.Coloring.{Palette}
use Rattle.cfj_model.specs.ExpressionGrammar.{roles_expr}
use Rattle.cfj_model.specs.Expressions.{node_count}
use Rattle.cfj_logic.specs.Formulas.{formula_node_count}
use Rattle.cfj_model.specs.Grammar.{Declared}
use Rattle.cfj_model.specs.Marks.{in_order, each_behind, separated, roles_marks}
use Rattle.cfj_words.specs.Names.{is_among, is_short_identifier}
use Rattle.cfj_model.specs.ProductLines.{ProductLine, IsProject, are_new, are_distinct, object, is_field, is_param, is_sent, is_method, is_class, is_constraint, method_size, class_size, most_features, most_classes, most_fields, most_in_ctor, most_params, most_methods, most_size, most_formula_nodes}
use Rattle.cfj_model.specs.ProductLines as project
use Rattle.cfj_model.specs.Roles.{Role, param_name, method_param_name, used_name, other_token, Tally, nothing, counted, broken_by, AreWithin}
use Rattle.cfj_model.specs.TreeRoles.{roles_format, roles_feature, roles_features, roles_field, roles_sent, roles_assign, roles_method, roles_constraint, roles_class, roles}
use Rattle.print_law.proofs.ClassTrees.{tree_of_field, tree_of_param, tree_of_sent, tree_of_method, tree_of_class, tree_of, field_kept, param_kept, sent_kept, method_kept, class_kept, constraint_kept}
use Rattle.print_law.proofs.ExprRoles.{with_nodes, expr_within}
use Rattle.print_law.proofs.ExprTrees.{tree_of_expr}
use Rattle.print_law.proofs.FormulaRoles.{counting, formula_within}
use Rattle.print_law.proofs.FormulaTrees.{tree_of_formula}
use Rattle.print_law.proofs.Limits.{used_ok, feature_ok, class_ok, field_ok, method_ok, param_ok, method_param_ok, sent_ok, assigned_ok}
use Rattle.print_law.proofs.MarkTexts.{IsMet, IsMarkable, palette_with, marks_within}

-- two numbers may be written in another way
moved : (P : ℕ → ℕ → Type 0) (k l m n : ℕ) → k ≡ l → m ≡ n → P k m → P l n
moved P k l m n e f h = subst (λ i. P i n) e (subst (P k) f h)

-- the first of new names, and the others behind it
new_first : (before : List (List ℕ)) (w : List ℕ) (ws : List (List ℕ)) → are_new before (w ∷ ws) ≡ true → (is_among before w ≡ false) × (are_new (before ++ w ∷ []) ws ≡ true)
new_first before w ws h = let p = and_parts (not (is_among before w)) (are_new (before ++ w ∷ []) ws) h in (not-true (is_among before w) p.0, p.1)

module _ (format : Format) (features : List (List ℕ)) (distinct : are_distinct features ≡ true) (well : list_all is_short_identifier features ≡ true) where
  abbrev palette : Palette
  palette = palette_with format features

  -- ---- fields

  abbrev with_fields : Tally → List Role → ℕ → ℕ → Type 0
  with_fields t rest k n = AreWithin (record t { marks = []; fields = k; size = n }) rest

  fields_within : (fs : List Field) (t : Tally) (rest : List Role) → list_all (is_field palette) fs ≡ true → IsMarkable format features t → t.fields + length fs ≤ most_fields → t.size + length fs ≤ most_size
      → with_fields t rest (t.fields + length fs) (t.size + length fs) → AreWithin t (in_order roles_field (map (tree_of_field features) fs) rest)
  fields_within [] t rest h r few fits w =
      subst (λ ms. AreWithin (record t { marks = ms }) rest) (sym r.marks) (moved (with_fields t rest) _ _ _ _ (omega arith) (omega arith) w)
  fields_within (f ∷ fs) t rest h r few fits w =
      let p = and_parts (is_field palette f) (list_all (is_field palette) fs) h in
      let k = field_kept palette f p.0 in
      let u : Tally = record t { marks = []; fields = t.fields + 1; size = t.size + 1 } in
      marks_within format features f.colors t _ k.colors distinct well r
      (λ ms. (
        used_ok (record t { marks = ms }) f.of k.of,
        (
          field_ok (record t { marks = [] }) f.name k.name (omega arith) (omega arith),
          (
            refl,
            fields_within fs u rest p.1 (record { met = r.met; marks = refl }) (omega arith) (omega arith) (moved (with_fields t rest) _ _ _ _ (omega arith) (omega arith) w),
          ),
        ),
      ))

  -- ---- parameters

  module _ (role : List ℕ → Role) where
    abbrev roles_one : Declared → List Role → List Role
    roles_one d rest = roles_marks d.marks (used_name d.of ∷ (role d.name ∷ rest))

    -- the tally behind them
    abbrev behind_params : Tally → List Param → Tally
    behind_params t [] = t
    behind_params t (p ∷ ps) = behind_params (counted t (role p.name)) ps

    -- names of parameters in a role that ends the marks, and is fine where there is room for them
    record IsParamRole (HasRoom : Tally → List Param → Type 0) : Type 0 where
      ends : (t : Tally) (ms : List (List ℕ)) (w : List ℕ) → counted (record t { marks = ms }) (role w) ≡ counted t (role w)
      ready : (t : Tally) (w : List ℕ) → IsMarkable format features t → IsMarkable format features (counted t (role w))
      fine : (t : Tally) (p : Param) (ps : List Param) → is_short_identifier p.name ≡ true → HasRoom t (p ∷ ps) → broken_by (record t { marks = [] }) (role p.name) ≡ None
      room : (t : Tally) (p : Param) (ps : List Param) → HasRoom t (p ∷ ps) → HasRoom (counted t (role p.name)) ps

    module _ (HasRoom : Tally → List Param → Type 0) (is : IsParamRole HasRoom) where
      params_behind : (ps : List Param) (t : Tally) (rest : List Role) → list_all (is_param palette) ps ≡ true → IsMarkable format features t → HasRoom t ps
          → AreWithin (behind_params t ps) rest → AreWithin t (each_behind other_token roles_one (map (tree_of_param features) ps) rest)
      params_behind [] t rest h r room w = w
      params_behind (p ∷ ps) t rest h r room w =
          let q = and_parts (is_param palette p) (list_all (is_param palette) ps) h in
          let k = param_kept palette p q.0 in
          let more = each_behind other_token roles_one (map (tree_of_param features) ps) rest in
          let others : AreWithin (counted t (role p.name)) more = params_behind ps (counted t (role p.name)) rest q.1 (is.ready t p.name r) (is.room t p ps room) w in (
            refl,
            marks_within format features p.colors t _ k.colors distinct well r
                (λ ms. (
                  used_ok (record t { marks = ms }) p.of k.of,
                  (
                    is.fine t p ps k.name room,
                    subst (λ u. AreWithin u more) (sym (is.ends t [] p.name)) others,
                  ),
                )),
          )

      params_within : (ps : List Param) (t : Tally) (rest : List Role) → list_all (is_param palette) ps ≡ true → IsMarkable format features t → HasRoom t ps
          → AreWithin (behind_params t ps) rest → AreWithin t (separated other_token roles_one (map (tree_of_param features) ps) rest)
      params_within [] t rest h r room w = w
      params_within (p ∷ ps) t rest h r room w = let b = params_behind (p ∷ ps) t rest h r room w in b.1

  -- those of a constructor are counted
  record HasCtorRoom (t : Tally) (ps : List Param) : Type 0 where
    few : t.params + length ps ≤ most_in_ctor
    fits : t.size + length ps ≤ most_size

  ctor_role : IsParamRole param_name HasCtorRoom
  ctor_role = record {
    ends = λ t ms w. refl;
    ready = λ t w r. record { met = r.met; marks = refl };
    fine = λ t p ps h room. let few = room.few in let fits = room.fits in param_ok (record t { marks = [] }) p.name h (omega arith) (omega arith);
    room = λ t p ps room. let few = room.few in let fits = room.fits in record { few = omega arith; fits = omega arith };
  }

  ctor_params_behind : (ps : List Param) (t : Tally) → t.marks ≡ [] → behind_params param_name t ps ≡ record t { marks = []; params = t.params + length ps; size = t.size + length ps }
  ctor_params_behind [] t m =
      ap (λ ms. record t { marks = ms }) m
      ∙ moved (λ k n. record t { marks = [] } ≡ record t { marks = []; params = k; size = n }) t.params (t.params + 0) t.size (t.size + 0) (omega arith) (omega arith) refl
  ctor_params_behind (p ∷ ps) t m =
      moved (λ k n. behind_params param_name t (p ∷ ps) ≡ record t { marks = []; params = k; size = n }) (t.params + 1 + length ps) (t.params + length (p ∷ ps)) (t.size + 1 + length ps) (t.size + length (p ∷ ps)) (omega arith) (omega arith)
      (ctor_params_behind ps (counted t (param_name p.name)) refl)

  ctor_params_within : (ps : List Param) (t : Tally) (rest : List Role) → list_all (is_param palette) ps ≡ true → IsMarkable format features t → HasCtorRoom t ps
      → AreWithin (record t { marks = []; params = t.params + length ps; size = t.size + length ps }) rest → AreWithin t (separated other_token (roles_one param_name) (map (tree_of_param features) ps) rest)
  ctor_params_within ps t rest h r room w =
      params_within param_name HasCtorRoom ctor_role ps t rest h r room (subst (λ u. AreWithin u rest) (sym (ctor_params_behind ps t r.marks)) w)

  -- those of a method are told apart by their names
  record HasMethodRoom (t : Tally) (ps : List Param) : Type 0 where
    new : are_new t.param_names (map (λ p. p.name) ps) ≡ true
    few : length t.param_names + length ps ≤ most_params
    fits : t.size + length ps ≤ most_size

  method_role : IsParamRole method_param_name HasMethodRoom
  method_role = record {
    ends = λ t ms w. refl;
    ready = λ t w r. record { met = r.met; marks = refl };
    fine = λ t p ps h room.
        let few = room.few in
        let fits = room.fits in
        method_param_ok (record t { marks = [] }) p.name h (new_first t.param_names p.name (map (λ p. p.name) ps) room.new).0 (omega arith) (omega arith);
    room = λ t p ps room.
        let longer : length (t.param_names ++ p.name ∷ []) ≡ length t.param_names + 1 = length-append t.param_names (p.name ∷ []) in
        let few = room.few in
        let fits = room.fits in
        record { new = (new_first t.param_names p.name (map (λ p. p.name) ps) room.new).1; few = omega arith; fits = omega arith };
  }

  method_params_behind : (ps : List Param) (t : Tally) → t.marks ≡ [] → behind_params method_param_name t ps ≡ record t { marks = []; param_names = t.param_names ++ map (λ p. p.name) ps; size = t.size + length ps }
  method_params_behind [] t m =
      ap (λ ms. record t { marks = ms }) m
      ∙ ap (λ ws. record t { marks = []; param_names = ws }) (sym (append-nil t.param_names))
      ∙ ap (λ n. record t { marks = []; param_names = t.param_names ++ []; size = n }) (let e : t.size ≡ t.size + 0 = omega arith in e)
  method_params_behind (p ∷ ps) t m =
      method_params_behind ps (counted t (method_param_name p.name)) refl
      ∙ ap (λ ws. record t { marks = []; param_names = ws; size = t.size + 1 + length ps }) (append_assoc t.param_names (p.name ∷ []) (map (λ p. p.name) ps))
      ∙ ap (λ n. record t { marks = []; param_names = t.param_names ++ map (λ p. p.name) (p ∷ ps); size = n }) (let e : t.size + 1 + length ps ≡ t.size + length (p ∷ ps) = omega arith in e)

  method_params_within : (ps : List Param) (t : Tally) (rest : List Role) → list_all (is_param palette) ps ≡ true → IsMarkable format features t → HasMethodRoom t ps
      → AreWithin (record t { marks = []; param_names = t.param_names ++ map (λ p. p.name) ps; size = t.size + length ps }) rest
      → AreWithin t (separated other_token (roles_one method_param_name) (map (tree_of_param features) ps) rest)
  method_params_within ps t rest h r room w =
      params_within method_param_name HasMethodRoom method_role ps t rest h r room (subst (λ u. AreWithin u rest) (sym (method_params_behind ps t r.marks)) w)

  -- ---- names that are sent, and names that are assigned

  no_sends : (t : Tally) (rest : List Role) → IsMarkable format features t → AreWithin (record t { marks = []; sends = t.sends + 0; size = t.size + 0 }) rest → AreWithin t rest
  no_sends t rest r w =
      subst (λ ms. AreWithin (record t { marks = ms }) rest) (sym r.marks)
      (subst (λ n. AreWithin (record t { marks = []; sends = n }) rest) (let e : t.sends + 0 ≡ t.sends = omega arith in e)
      (subst (λ n. AreWithin (record t { marks = []; sends = t.sends + 0; size = n }) rest) (let e : t.size + 0 ≡ t.size = omega arith in e) w))

  sends_behind : (ss : List Sent) (t : Tally) (rest : List Role) → list_all (is_sent palette) ss ≡ true → IsMarkable format features t → t.sends + length ss ≤ most_in_ctor → t.size + length ss ≤ most_size
      → AreWithin (record t { marks = []; sends = t.sends + length ss; size = t.size + length ss }) rest → AreWithin t (each_behind other_token roles_sent (map (tree_of_sent features) ss) rest)
  sends_behind [] t rest h r few fits w = no_sends t rest r w
  sends_behind (s ∷ ss) t rest h r few fits w =
      let p = and_parts (is_sent palette s) (list_all (is_sent palette) ss) h in
      let k = sent_kept palette s p.0 in
      let u : Tally = record t { marks = []; sends = t.sends + 1; size = t.size + 1 } in (
        refl,
        marks_within format features s.colors t _ k.colors distinct well r
            (λ ms. (
              sent_ok (record t { marks = ms }) s.name k.name (omega arith) (omega arith),
              sends_behind ss u rest p.1 (record { met = r.met; marks = refl }) (omega arith) (omega arith)
                  (subst (λ n. AreWithin (record t { marks = []; sends = n; size = t.size + 1 + length ss }) rest) (let e : t.sends + length (s ∷ ss) ≡ t.sends + 1 + length ss = omega arith in e)
                  (subst (λ n. AreWithin (record t { marks = []; sends = t.sends + length (s ∷ ss); size = n }) rest) (let e : t.size + length (s ∷ ss) ≡ t.size + 1 + length ss = omega arith in e) w)),
            )),
      )

  sends_within : (ss : List Sent) (t : Tally) (rest : List Role) → list_all (is_sent palette) ss ≡ true → IsMarkable format features t → t.sends + length ss ≤ most_in_ctor → t.size + length ss ≤ most_size
      → AreWithin (record t { marks = []; sends = t.sends + length ss; size = t.size + length ss }) rest → AreWithin t (separated other_token roles_sent (map (tree_of_sent features) ss) rest)
  sends_within [] t rest h r few fits w = no_sends t rest r w
  sends_within (s ∷ ss) t rest h r few fits w = let b = sends_behind (s ∷ ss) t rest h r few fits w in b.1

  assigns_within : (ss : List Sent) (t : Tally) (rest : List Role) → list_all (is_sent palette) ss ≡ true → IsMarkable format features t → t.assigns + length ss ≤ most_in_ctor → t.size + length ss ≤ most_size
      → AreWithin (record t { marks = []; assigns = t.assigns + length ss; size = t.size + length ss }) rest → AreWithin t (in_order roles_assign (map (tree_of_sent features) ss) rest)
  assigns_within [] t rest h r few fits w =
      subst (λ ms. AreWithin (record t { marks = ms }) rest) (sym r.marks)
      (subst (λ n. AreWithin (record t { marks = []; assigns = n }) rest) (let e : t.assigns + 0 ≡ t.assigns = omega arith in e)
      (subst (λ n. AreWithin (record t { marks = []; assigns = t.assigns + 0; size = n }) rest) (let e : t.size + 0 ≡ t.size = omega arith in e) w))
  assigns_within (s ∷ ss) t rest h r few fits w =
      let p = and_parts (is_sent palette s) (list_all (is_sent palette) ss) h in
      let k = sent_kept palette s p.0 in
      let u : Tally = record t { marks = []; assigns = t.assigns + 1; size = t.size + 1 } in
      marks_within format features s.colors t _ k.colors distinct well r
      (λ ms. (
        refl,
        (
          refl,
          (
            assigned_ok (record t { marks = ms }) s.name k.name (omega arith) (omega arith),
            (
              refl,
              (
                used_ok u s.name k.name,
                (
                  refl,
                  assigns_within ss u rest p.1 (record { met = r.met; marks = refl }) (omega arith) (omega arith)
                      (subst (λ n. AreWithin (record t { marks = []; assigns = n; size = t.size + 1 + length ss }) rest) (let e : t.assigns + length (s ∷ ss) ≡ t.assigns + 1 + length ss = omega arith in e)
                      (subst (λ n. AreWithin (record t { marks = []; assigns = t.assigns + length (s ∷ ss); size = n }) rest) (let e : t.size + length (s ∷ ss) ≡ t.size + 1 + length ss = omega arith in e) w)),
                ),
              ),
            ),
          ),
        ),
      ))

  -- ---- methods

  -- behind methods the names of parameters and the nodes in hand are those of the last one
  abbrev with_methods : Tally → List Role → ℕ → ℕ → Type 0
  with_methods t rest k n = (ws : List (List ℕ)) (l : ℕ) → AreWithin (record t { marks = []; methods = k; param_names = ws; nodes = l; size = n }) rest

  methods_within : (ms : List Method) (t : Tally) (rest : List Role) → list_all (is_method palette) ms ≡ true → IsMarkable format features t → t.methods + length ms ≤ most_methods
      → t.size + sum_by method_size ms ≤ most_size → with_methods t rest (t.methods + length ms) (t.size + sum_by method_size ms) → AreWithin t (in_order roles_method (map (tree_of_method features) ms) rest)
  methods_within [] t rest h r few fits w =
      subst (λ ms. AreWithin (record t { marks = ms }) rest) (sym r.marks) (moved (with_methods t rest) _ _ _ _ (omega arith) (omega arith) w t.param_names t.nodes)
  methods_within (m ∷ ms) t rest h r few fits w =
      let p = and_parts (is_method palette m) (list_all (is_method palette) ms) h in
      let k = method_kept palette m p.0 in
      let sum : sum_by method_size (m ∷ ms) ≡ 1 + (length m.params + node_count m.body) + sum_by method_size ms = sum_by-cons method_size m ms in
      let few_params = k.params.few in
      let few_nodes = k.nodes in
      let u : Tally = record t { marks = []; methods = t.methods + 1; param_names = []; nodes = 0; size = t.size + 1 } in
      let v : Tally = record u { param_names = map (λ p. p.name) m.params; size = t.size + 1 + length m.params } in
      let x : Tally = with_nodes v (node_count m.body) in
      let others : AreWithin x (in_order roles_method (map (tree_of_method features) ms) rest) =
      methods_within ms x rest p.1 (record { met = r.met; marks = refl }) (omega arith) (omega (arith, sum)) (moved (with_methods t rest) _ _ _ _ (omega arith) (omega (arith, sum)) w) in
      let body : AreWithin v (roles_expr 0 (tree_of_expr features m.body) (other_token ∷ (other_token ∷ in_order roles_method (map (tree_of_method features) ms) rest))) =
      expr_within format features distinct well m.body v _ k.named k.shallow r.met (omega arith) (omega (arith, sum)) (refl, (refl, others)) in
      marks_within format features m.colors t _ k.colors distinct well r
      (λ ms'. (
        used_ok (record t { marks = ms' }) m.result k.result,
        (
          method_ok (record t { marks = [] }) m.name k.name (omega arith) (omega (arith, sum)),
          (
            refl,
            method_params_within m.params u _ k.params.each (record { met = r.met; marks = refl }) (record { new = k.distinct; few = omega arith; fits = omega (arith, sum) })
                (refl, (refl, (refl, body))),
          ),
        ),
      ))

  -- ---- a class

  abbrev Behind : Tally → Class → List Role → Type 0
  Behind t k rest = (u : Tally) → IsMet t.format t.features u → u.marks ≡ [] → u.formula_nodes ≡ t.formula_nodes → u.classes ≡ t.classes ++ k.name ∷ [] → u.size ≡ t.size + class_size k → AreWithin u rest

  -- a class within the limits, where there is room for it
  pub class_within : (k : Class) (t : Tally) (rest : List Role) → is_class palette k ≡ true → IsMarkable format features t → is_among t.classes k.name ≡ false → length t.classes < most_classes → t.size + class_size k ≤ most_size
      → Behind t k rest → AreWithin t (roles_class (tree_of_class features k) rest)
  class_within k t rest h r new few fits w =
      let c = class_kept palette k h in
      let few_fields = c.few_fields in
      let few_params = c.params.few in
      let few_sends = c.sends.few in
      let few_assigns = c.assigns.few in
      let few_methods = c.few_methods in
      let a : Tally = record t { marks = []; classes = t.classes ++ k.name ∷ []; fields = 0; methods = 0; params = 0; sends = 0; assigns = 0; param_names = []; nodes = 0; size = t.size + 1 } in
      let b : Tally = record a { fields = 0 + length k.fields; size = t.size + 1 + length k.fields } in
      let d : Tally = record b { params = 0 + length k.ctor.params; size = b.size + length k.ctor.params } in
      let e : Tally = record d { sends = 0 + length k.ctor.sends; size = d.size + length k.ctor.sends } in
      let g : Tally = record e { assigns = 0 + length k.ctor.assigns; size = e.size + length k.ctor.assigns } in
      marks_within format features k.colors t _ c.colors distinct well r
      (λ ms. (
        refl,
        (
          class_ok (record t { marks = ms }) k.name c.name (not-true (bytes_eq k.name object) c.no_object) new few (omega arith),
          (
            refl,
            (
              used_ok a k.parent c.parent,
              (
                refl,
                fields_within k.fields a _ c.each_field (record { met = r.met; marks = refl }) (omega arith) (omega arith) (
                  used_ok b k.name c.name,
                  (
                    refl,
                    ctor_params_within k.ctor.params b _ c.params.each (record { met = r.met; marks = refl }) (record { few = omega arith; fits = omega arith }) (
                      refl,
                      (
                        refl,
                        (
                          refl,
                          (
                            refl,
                            sends_within k.ctor.sends d _ c.sends.each (record { met = r.met; marks = refl }) (omega arith) (omega arith) (
                              refl,
                              (
                                refl,
                                assigns_within k.ctor.assigns e _ c.assigns.each (record { met = r.met; marks = refl }) (omega arith) (omega arith) (
                                  refl,
                                  methods_within k.methods g _ c.each_method (record { met = r.met; marks = refl }) (omega arith) (omega arith)
                                      (λ ws n. (refl, w _ refl refl refl refl (omega arith))),
                                ),
                              ),
                            ),
                          ),
                        ),
                      ),
                    ),
                  ),
                ),
              ),
            ),
          ),
        ),
      ))

  -- ---- classes

  classes_within : (ks : List Class) (t : Tally) → list_all (is_class palette) ks ≡ true → IsMarkable format features t → are_new t.classes (map (λ k. k.name) ks) ≡ true → length t.classes + length ks ≤ most_classes → t.size + project.size ks ≤ most_size
      → AreWithin t (in_order roles_class (map (tree_of_class features) ks) [])
  classes_within [] t h r new few fits = tt
  classes_within (k ∷ ks) t h r new few fits =
      let p = and_parts (is_class palette k) (list_all (is_class palette) ks) h in
      let n = new_first t.classes k.name (map (λ k. k.name) ks) new in
      let sum : project.size (k ∷ ks) ≡ class_size k + project.size ks = sum_by-cons class_size k ks in
      let longer : length (t.classes ++ k.name ∷ []) ≡ length t.classes + 1 = length-append t.classes (k.name ∷ []) in
      class_within k t _ p.0 r n.0 (omega arith) (omega (arith, sum))
      (λ u met marks nodes classes size.
      classes_within ks u p.1 (record { met = met ∙ r.met; marks = marks }) (subst (λ ws. are_new ws (map (λ k. k.name) ks) ≡ true) (sym classes) n.1) (omega (arith, ap length classes, longer)) (omega (arith, sum, size)))

  -- ---- constraints

  constraints_within : (xs : List Formula) (t : Tally) (rest : List Role) → list_all (is_constraint (length features)) xs ≡ true → IsMarkable format features t → t.formula_nodes + sum_by formula_node_count xs ≤ most_formula_nodes
      → AreWithin (counting t (sum_by formula_node_count xs)) rest → AreWithin t (in_order roles_constraint (map (tree_of_formula features) xs) rest)
  constraints_within [] t rest h r few w = subst (λ n. AreWithin (record t { formula_nodes = n }) rest) (let e : t.formula_nodes + 0 ≡ t.formula_nodes = omega arith in e) w
  constraints_within (x ∷ xs) t rest h r few w =
      let p = and_parts (is_constraint (length features) x) (list_all (is_constraint (length features)) xs) h in
      let k = constraint_kept (length features) x p.0 in
      let sum : sum_by formula_node_count (x ∷ xs) ≡ formula_node_count x + sum_by formula_node_count xs = sum_by-cons formula_node_count x xs in
      let u : Tally = record t { marks = [] } in
      let all : AreWithin (record u { formula_nodes = t.formula_nodes + sum_by formula_node_count (x ∷ xs) }) rest = subst (λ ms. AreWithin (record t { marks = ms; formula_nodes = t.formula_nodes + sum_by formula_node_count (x ∷ xs) }) rest) r.marks w in (
        refl,
        formula_within features well x u _ k.over k.shallow (record { met = ap (λ (m : Format × List (List ℕ)). m.1) r.met; marks = refl }) (omega (arith, sum)) (
          refl,
          constraints_within xs (counting u (formula_node_count x)) rest p.1 (record { met = r.met; marks = refl }) (omega (arith, sum))
              (subst (λ n. AreWithin (record u { formula_nodes = n }) rest) (let e : t.formula_nodes + sum_by formula_node_count (x ∷ xs) ≡ t.formula_nodes + formula_node_count x + sum_by formula_node_count xs = omega (arith, sum) in e) all),
        ),
      )

-- ---- features

names_within : (fs : List (List ℕ)) (t : Tally) (rest : List Role) → list_all is_short_identifier fs ≡ true → are_new t.features fs ≡ true → length t.features + length fs ≤ most_features
    → AreWithin (record t { features = t.features ++ fs }) rest → AreWithin t (each_behind other_token roles_feature fs rest)
names_within [] t rest h new few w = subst (λ ws. AreWithin (record t { features = ws }) rest) (append-nil t.features) w
names_within (f ∷ fs) t rest h new few w =
    let p = and_parts (is_short_identifier f) (list_all is_short_identifier fs) h in
    let n = new_first t.features f fs new in
    let longer : length (t.features ++ f ∷ []) ≡ length t.features + 1 = length-append t.features (f ∷ []) in (
      refl,
      (
        feature_ok t f p.0 n.0 (omega arith),
        names_within fs (record t { features = t.features ++ f ∷ [] }) rest p.1 n.1 (omega arith) (subst (λ ws. AreWithin (record t { features = ws }) rest) (sym (append_assoc t.features (f ∷ []) fs)) w),
      ),
    )

features_within : (format : Format) (fs : List (List ℕ)) (rest : List Role) → list_all is_short_identifier fs ≡ true → are_distinct fs ≡ true → length fs ≤ most_features → AreWithin (record nothing { format = format; features = fs }) rest → AreWithin (record nothing { format = format }) (roles_features fs rest)
features_within format [] rest h new few w = w
features_within format (f ∷ fs) rest h new few w = let b = names_within (f ∷ fs) (record nothing { format = format }) (other_token ∷ rest) h new (omega arith) (refl, w) in (refl, b.1)

-- the line for format Two
format_within : (format : Format) (rest : List Role) → AreWithin (record nothing { format = format }) rest → AreWithin nothing (roles_format format rest)
format_within One rest w = w
format_within Two rest w = (refl, (refl, w))

-- the tree of a project is within the limits
pub project_within : (p : ProductLine) → IsProject p → AreWithin nothing (roles (tree_of p) [])
project_within p k =
    let format = p.model.format in
    let features = p.model.features in
    let few_nodes = leb-true (sum_by formula_node_count p.model.constraints) most_formula_nodes k.few_formula_nodes in
    let few_classes = leb-true (length p.classes) most_classes k.few_classes in
    let fits = leb-true (project.size p.classes) most_size k.fits in
    format_within format _
    (features_within format features _ k.features_named k.features_distinct (leb-true (length features) most_features k.few_features)
    (constraints_within format features k.features_distinct k.features_named p.model.constraints (record nothing { format = format; features = features }) _ k.each_constraint (record { met = refl; marks = refl }) (omega arith)
    (classes_within format features k.features_distinct k.features_named p.classes _ k.each_class (record { met = refl; marks = refl }) k.classes_distinct (omega arith) (omega arith))))

-- and so is that of a class among declared features, where it isn't too large
pub alone_within : (format : Format) (features : List (List ℕ)) (k : Class) → are_distinct features ≡ true → list_all is_short_identifier features ≡ true → is_class (palette_with format features) k ≡ true → class_size k ≤ most_size
    → AreWithin (record nothing { format = format; features = features }) (roles_class (tree_of_class features k) [])
alone_within format features k distinct well h fits =
    class_within format features distinct well k (record nothing { format = format; features = features }) [] h (record { met = refl; marks = refl }) refl (omega arith) (omega arith) (λ u met marks nodes classes size. tt)
