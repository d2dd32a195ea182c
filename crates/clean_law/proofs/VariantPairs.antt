-- The pairs of a variant are pairs of the line: what is present has the sites that it had.
use Rattle.std.proofs.Common.{refl, ℕ, Bool, List, [], ◌∷◌, ◌++◌, ap, ◌∙◌}
use Rattle.std.specs.List.{flat_map}
use Rattle.std.proofs.lemmas.List.Folds.{flat_map-map}
use Rattle.cfj_model.proofs.ExprCases.{Proved, args_of, by_cases}
use Rattle.cfj_model.specs.Judging.{Pair, insert_ranked, pairs_of, rank}
use Rattle.cfj_model.specs.ProductLines.{ProductLine}
use Rattle.cfj_model.specs.Projection.{bare_field, bare_param, is_present, presence_of, projected, projected_class, projected_expr, projected_method}
use Rattle.cfj_logic.specs.Selections.{Chosen}
use Rattle.cfj_logic.specs.Sides.{Sides}
use Rattle.cfj_model.specs.declared.class.Class.{Class}
use Rattle.cfj_model.specs.declared.class.Method.{Method}
use Rattle.cfj_model.specs.declared.expr.Arg.{Arg}
use Rattle.cfj_model.specs.declared.expr.Expr.{Expr}
use Rattle.cfj_model.specs.declared.expr.Expr.TheVariants as e
use Rattle.cfj_model.specs.declared.site.Rule.{Rule}
use Rattle.cfj_model.specs.declared.site.Rule.TheVariants.{K1, K2, K4, K5, K6, K7, K8, K9, E2, E3, E4, E5, E6, E7, E8}
use Rattle.cfj_model.specs.declared.site.Site.{Site}
use Rattle.cfj_model.specs.declared.site.Site.TheVariants as site
use Rattle.feature_views.proofs.Kept.{kept, kept_of_map}
use Rattle.feature_views.proofs.SelectedBodies.{arg_present, projected_arg, projected_args, projected_var, projected_get, projected_call, projected_new, projected_cast}
use Rattle.unit_facts.specs.Pairs.{arg_pairs, class_pairs, ctor_pairs, ctor_param_pairs, field_pairs, method_pairs, node_pairs, pairs_at, param_pairs, project_pairs}
use Rattle.unit_facts.proofs.ProjectPairs.{node_get, node_call, node_new, node_cast, project_listed}
use Rattle.clean_law.proofs.Among.{AreAmong, among_as, among_append, among_behind, among_kept}

-- ---- bodies

module _ (s : Chosen) (at : ℕ → Site) where
  -- whatever the node round it judges at its root
  abbrev KeepsPairs : Expr → Type 0
  KeepsPairs x = (around : Sides) (more : List Rule) → AreAmong (node_pairs at (projected_expr s around x) more) (node_pairs at x more)

  arg_among : (around : Sides) (rule : Rule) (ys : List (Proved KeepsPairs)) → AreAmong (arg_pairs at rule (projected_args s around (args_of KeepsPairs ys))) (arg_pairs at rule (args_of KeepsPairs ys))
  arg_among around rule ys =
      let made : Proved KeepsPairs → Arg = λ y. projected_arg s around y.0 in
      let keeps : Proved KeepsPairs → Bool = λ y. arg_present s around y.0 in
      let pairs : Arg → List Pair = λ a. node_pairs at a.expr (rule ∷ []) in
      among_as (arg_pairs at rule (projected_args s around (args_of KeepsPairs ys))) (arg_pairs at rule (args_of KeepsPairs ys))
      (flat_map pairs (kept made keeps ys)) (flat_map (λ (y : Proved KeepsPairs). pairs y.0) ys)
      (ap (flat_map pairs) (kept_of_map (projected_arg s around) (arg_present s around) (λ (y : Proved KeepsPairs). y.0) ys))
      (flat_map-map pairs (λ (y : Proved KeepsPairs). y.0) ys)
      (among_kept made keeps (λ (y : Proved KeepsPairs). pairs y.0) pairs (λ y. y.1 (presence_of around y.0.colors) (rule ∷ [])) ys)

  keeps_pairs : (x : Expr) → KeepsPairs x
  keeps_pairs = by_cases KeepsPairs (record {
    var_case = λ slot name around more.
        let is = ap (λ x. node_pairs at x more) (projected_var s around slot name) in
        among_as _ (node_pairs at (e.Var slot name) more) (node_pairs at (e.Var slot name) more) (node_pairs at (e.Var slot name) more) is refl (λ p here. here);
    get_case = λ slot on part field around more.
        let own = pairs_at (at slot) (E2 ∷ more) in
        among_as _ _ (node_pairs at (projected_expr s around on) [] ++ own) (node_pairs at on [] ++ own)
        (ap (λ x. node_pairs at x more) (projected_get s around slot on field) ∙ node_get at slot (projected_expr s around on) field more)
        (node_get at slot on field more)
        (among_append _ _ own own (part around []) (λ p here. here));
    call_case = λ slot on part method ys around more.
        let own = pairs_at (at slot) (E3 ∷ (E4 ∷ more)) in
        let args = args_of KeepsPairs ys in
        among_as _ _ (node_pairs at (projected_expr s around on) [] ++ (own ++ arg_pairs at E5 (projected_args s around args))) (node_pairs at on [] ++ (own ++ arg_pairs at E5 args))
        (ap (λ x. node_pairs at x more) (projected_call s around slot on method args) ∙ node_call at slot (projected_expr s around on) method (projected_args s around args) more)
        (node_call at slot on method args more)
        (among_append _ _ _ _ (part around []) (among_behind own _ _ (arg_among around E5 ys)));
    new_case = λ slot class ys around more.
        let own = pairs_at (at slot) (K1 ∷ insert_ranked rank E6 more) in
        let args = args_of KeepsPairs ys in
        among_as _ _ (own ++ arg_pairs at E7 (projected_args s around args)) (own ++ arg_pairs at E7 args)
        (ap (λ x. node_pairs at x more) (projected_new s around slot class args) ∙ node_new at slot class (projected_args s around args) more)
        (node_new at slot class args more)
        (among_behind own _ _ (arg_among around E7 ys));
    cast_case = λ slot class on part around more.
        let own = pairs_at (at slot) (K1 ∷ insert_ranked rank E8 more) in
        among_as _ _ (own ++ node_pairs at (projected_expr s around on) []) (own ++ node_pairs at on [])
        (ap (λ x. node_pairs at x more) (projected_cast s around slot class on) ∙ node_cast at slot class (projected_expr s around on) more)
        (node_cast at slot class on more)
        (among_behind own _ _ (part around []));
  })

-- ---- declarations

module _ (s : Chosen) (k : Class) where
  abbrev variant : Class
  variant = projected_class s k

  ctor_among : AreAmong (ctor_pairs variant) (ctor_pairs k)
  ctor_among =
      let own = pairs_at (site.Ctor k.name) (K4 ∷ (K5 ∷ (K6 ∷ []))) in
      among_behind own (flat_map (ctor_param_pairs variant) variant.ctor.params) (flat_map (ctor_param_pairs k) k.ctor.params)
      (among_kept bare_param (λ q. is_present s (presence_of k.colors q.colors)) (ctor_param_pairs k) (ctor_param_pairs variant) (λ q p here. here) k.ctor.params)

  method_among : (m : Method) → AreAmong (method_pairs variant (projected_method s k.colors m)) (method_pairs k m)
  method_among m =
      let made : Method = projected_method s k.colors m in
      let within = presence_of k.colors m.colors in
      let at : ℕ → Site = λ slot. site.Node k.name m.name m.alt slot in
      let own = pairs_at (site.Method k.name m.name m.alt) (K1 ∷ (K7 ∷ (K8 ∷ (K9 ∷ [])))) in
      let params = flat_map (param_pairs k m) m.params in
      let present = flat_map (param_pairs variant made) made.params in
      among_behind own (present ++ node_pairs at made.body []) (params ++ node_pairs at m.body [])
      (among_append present params (node_pairs at made.body []) (node_pairs at m.body [])
      (among_kept bare_param (λ q. is_present s (presence_of within q.colors)) (param_pairs k m) (param_pairs variant made) (λ q p here. here) m.params)
      (keeps_pairs s at m.body within []))

  class_among : AreAmong (class_pairs variant) (class_pairs k)
  class_among =
      let own = pairs_at (site.Class k.name) (K1 ∷ (K2 ∷ [])) in
      let fields = flat_map (field_pairs k) k.fields in
      let methods = flat_map (method_pairs k) k.methods in
      let present_fields = flat_map (field_pairs variant) variant.fields in
      let present_methods = flat_map (method_pairs variant) variant.methods in
      among_behind own (present_fields ++ (ctor_pairs variant ++ present_methods)) (fields ++ (ctor_pairs k ++ methods))
      (among_append present_fields fields (ctor_pairs variant ++ present_methods) (ctor_pairs k ++ methods)
      (among_kept bare_field (λ f. is_present s (presence_of k.colors f.colors)) (field_pairs k) (field_pairs variant) (λ f p here. here) k.fields)
      (among_append (ctor_pairs variant) (ctor_pairs k) present_methods methods ctor_among
      (among_kept (projected_method s k.colors) (λ m. is_present s (presence_of k.colors m.colors)) (method_pairs k) (method_pairs variant) method_among k.methods)))

-- each pair of a variant is one of the line
pub variant_among : (s : Chosen) (line : ProductLine) → AreAmong (pairs_of (projected s line).classes) (pairs_of line.classes)
unfolding projected
variant_among s line =
    among_as (pairs_of (projected s line).classes) (pairs_of line.classes) (project_pairs (projected s line).classes) (project_pairs line.classes)
    (project_listed (projected s line).classes) (project_listed line.classes)
    (among_kept (projected_class s) (λ k. is_present s k.colors) class_pairs class_pairs (class_among s) line.classes)
