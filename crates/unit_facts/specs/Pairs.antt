-- No public contract cites this: it serves the proofs.
-- The pairs of a site and a rule of a project, node by node. Which there are doesn't depend on what breaks.
use Rattle.std.specs.Prelude.{ℕ, List, [], ◌∷◌, ◌++◌, flat_map, map}
use Rattle.cfj_model.specs.Judging.{Pair, insert_ranked, rank}
use Rattle.cfj_model.specs.LookUps.{Table}
use Rattle.cfj_model.specs.declared.class.Class.{Class}
use Rattle.cfj_model.specs.declared.class.Field.{Field}
use Rattle.cfj_model.specs.declared.class.Method.{Method}
use Rattle.cfj_model.specs.declared.class.Param.{Param}
use Rattle.cfj_model.specs.declared.expr.Arg.{Arg}
use Rattle.cfj_model.specs.declared.expr.Expr.{Expr}
use Rattle.cfj_model.specs.declared.expr.Expr.TheOpen.{Expr-F}
use Rattle.cfj_model.specs.declared.expr.Expr.TheFolds.{fold-Expr}
use Rattle.cfj_model.specs.declared.site.Rule.{Rule}
use Rattle.cfj_model.specs.declared.site.Rule.TheVariants.{K1, K2, K3, K4, K5, K6, K7, K8, K9, E1, E2, E3, E4, E5, E6, E7, E8}
use Rattle.cfj_model.specs.declared.site.Site.{Site}
use Rattle.cfj_model.specs.declared.site.Site.TheVariants as site

-- the rules at a site
abbrev pub pairs_at : Site → List Rule → List Pair
pairs_at s rules = map (λ r. (s, r)) rules

-- The rules at an expression's nodes, by the sites of slots. Among those of its root stand the ones that the node round
-- it judges there.
abbrev pub node_pairs_step : (ℕ → Site) → Expr-F (List Rule → List Pair) (List Rule → List Pair) → List Rule → List Pair
node_pairs_step at (Expr-F.Var slot name) more = pairs_at (at slot) (E1 ∷ more)
node_pairs_step at (Expr-F.Get slot on field) more = on [] ++ pairs_at (at slot) (E2 ∷ more)
node_pairs_step at (Expr-F.Call slot on method args) more =
    on [] ++ (pairs_at (at slot) (E3 ∷ (E4 ∷ more)) ++ flat_map (λ a. a (E5 ∷ [])) args)
node_pairs_step at (Expr-F.New slot class args) more =
    pairs_at (at slot) (K1 ∷ insert_ranked rank E6 more) ++ flat_map (λ a. a (E7 ∷ [])) args
node_pairs_step at (Expr-F.Cast slot class on) more = pairs_at (at slot) (K1 ∷ insert_ranked rank E8 more) ++ on []

abbrev pub node_pairs : (ℕ → Site) → Expr → List Rule → List Pair
node_pairs at = fold-Expr (List Rule → List Pair) (List Rule → List Pair) (node_pairs_step at) (λ a. a.expr)

-- the rules at arguments, where the node round them judges one at each
abbrev pub arg_pairs : (ℕ → Site) → Rule → List Arg → List Pair
arg_pairs at rule args = flat_map (λ (a : Arg). node_pairs at a.expr (rule ∷ [])) args

abbrev pub field_pairs : Class → Field → List Pair
field_pairs k f = pairs_at (site.Field k.name f.name f.alt) (K1 ∷ (K3 ∷ (K9 ∷ [])))

abbrev pub ctor_param_pairs : Class → Param → List Pair
ctor_param_pairs k q = pairs_at (site.CtorParam k.name q.slot) (K1 ∷ [])

abbrev pub ctor_pairs : Class → List Pair
ctor_pairs k = pairs_at (site.Ctor k.name) (K4 ∷ (K5 ∷ (K6 ∷ []))) ++ flat_map (ctor_param_pairs k) k.ctor.params

abbrev pub param_pairs : Class → Method → Param → List Pair
param_pairs k m q = pairs_at (site.Param k.name m.name m.alt q.slot) (K1 ∷ [])

abbrev pub method_pairs : Class → Method → List Pair
method_pairs k m =
    pairs_at (site.Method k.name m.name m.alt) (K1 ∷ (K7 ∷ (K8 ∷ (K9 ∷ []))))
    ++ (flat_map (param_pairs k m) m.params ++ node_pairs (λ slot. site.Node k.name m.name m.alt slot) m.body [])

abbrev pub class_pairs : Class → List Pair
class_pairs k =
    pairs_at (site.Class k.name) (K1 ∷ (K2 ∷ []))
    ++ (flat_map (field_pairs k) k.fields ++ (ctor_pairs k ++ flat_map (method_pairs k) k.methods))

abbrev pub project_pairs : Table → List Pair
project_pairs p = flat_map class_pairs p
