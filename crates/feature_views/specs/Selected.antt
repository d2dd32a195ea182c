-- No public contract cites this: it serves the proofs.
-- The parts of a variant as the code makes them: inside a present class a node is tested for its own colours alone.
use Rattle.std.specs.Prelude.{if◌then◌else◌, List, [], ◌∷◌, map, filter, flat_map}
use Rattle.cfj_model.specs.Coloring.{no_colors}
use Rattle.cfj_model.specs.declared.class.Param.{Param}
use Rattle.cfj_model.specs.declared.class.Method.{Method}
use Rattle.cfj_model.specs.declared.class.Class.{Class}
use Rattle.cfj_model.specs.declared.expr.Arg.{Arg, Arg-F}
use Rattle.cfj_model.specs.declared.expr.Expr.{Expr}
use Rattle.cfj_model.specs.declared.expr.Expr.TheOpen.{Expr-F}
use Rattle.cfj_model.specs.declared.expr.Expr.TheFolds.{fold-Expr}
use Rattle.cfj_model.specs.declared.expr.Expr.TheVariants as e
use Rattle.cfj_model.specs.Projection.{is_present, bare_param, projected_class}
use Rattle.cfj_logic.specs.Selections.{Chosen}
use Rattle.cfj_logic.specs.Sides.{Sides}

-- the nodes whose own marks all hold, in order, each changed into what is kept of it
abbrev pub selected_nodes : {N : Type 0} → (N → Sides) → (N → N) → Chosen → List N → List N
selected_nodes colors kept s nodes = map kept (filter (λ node. is_present s (colors node)) nodes)

-- an expression with the arguments that are kept of its own
abbrev pub selected_step : Expr-F Expr (List Arg) → Expr
selected_step (Expr-F.Var slot name) = e.Var slot name
selected_step (Expr-F.Get slot on field) = e.Get slot on field
selected_step (Expr-F.Call slot on method args) = e.Call slot on method (flat_map (λ a. a) args)
selected_step (Expr-F.New slot class args) = e.New slot class (flat_map (λ a. a) args)
selected_step (Expr-F.Cast slot class on) = e.Cast slot class on

-- the argument without its colours where these all hold, or nothing
abbrev pub selected_arg_step : Chosen → Arg-F Expr (List Arg) → List Arg
selected_arg_step s a = if is_present s a.colors then record { colors = no_colors; expr = a.expr } ∷ [] else []

-- an expression without the arguments of whose own marks one doesn't hold
abbrev pub selected_expr : Chosen → Expr → Expr
selected_expr s = fold-Expr Expr (List Arg) selected_step (selected_arg_step s)

abbrev pub selected_arg : Chosen → Arg → Arg
selected_arg s a = record { colors = no_colors; expr = selected_expr s a.expr }

abbrev pub selected_args : Chosen → List Arg → List Arg
selected_args s = selected_nodes (λ (a : Arg). a.colors) (selected_arg s) s

-- a method with its selected parameters and arguments, without its colours
abbrev pub selected_method : Chosen → Method → Method
selected_method s m =
    record {
      alt = m.alt;
      colors = no_colors;
      result = m.result;
      name = m.name;
      params = selected_nodes (λ (p : Param). p.colors) bare_param s m.params;
      body = selected_expr s m.body;
    }

-- the present classes, each with its present nodes
abbrev pub present_classes : Chosen → List Class → List Class
present_classes s ks = map (projected_class s) (filter (λ k. is_present s k.colors) ks)
