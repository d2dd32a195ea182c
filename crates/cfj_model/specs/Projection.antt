-- Presence and projection, after CIDE (Kästner, Apel, Kuhlemann, ICSE 2008): a variant is made by removing each node
-- that is not present under a selection.
use Rattle.std.specs.Prelude.{Bool, ◌&&◌, ◌==◌, if◌then◌else◌, List, [], ◌∷◌, map, filter, flat_map, bit_and}
use Rattle.cfj_model.specs.declared.class.Field.{Field}
use Rattle.cfj_model.specs.declared.class.Param.{Param}
use Rattle.cfj_model.specs.declared.class.Sent.{Sent}
use Rattle.cfj_model.specs.declared.class.Constructor.{Constructor}
use Rattle.cfj_model.specs.declared.class.Method.{Method}
use Rattle.cfj_model.specs.declared.class.Class.{Class}
use Rattle.cfj_model.specs.declared.expr.Arg.{Arg, Arg-F}
use Rattle.cfj_model.specs.declared.expr.Expr.{Expr}
use Rattle.cfj_model.specs.declared.expr.Expr.TheOpen.{Expr-F}
use Rattle.cfj_model.specs.declared.expr.Expr.TheFolds.{fold-Expr}
use Rattle.cfj_model.specs.declared.expr.Expr.TheVariants as e
use Rattle.cfj_model.specs.declared.feature_model.Format.TheVariants.{One}
use Rattle.cfj_model.specs.Coloring.{no_colors, union}
use Rattle.cfj_model.specs.ProductLines.{ProductLine}
use Rattle.cfj_logic.specs.Sides.{Sides}
use Rattle.cfj_logic.specs.Selections.{Chosen, is_subset}

-- A node's presence is its own colours and those of the optional nodes round it: of a node in a class, the class's
-- too; of an argument, those of the arguments and the method round it. A feature that is wanted there and one that
-- isn't may be the same.
abbrev pub presence_of : Sides → Sides → Sides
presence_of around own = union around own

-- A node is present where every mark of its presence holds: all features that it wants are selected, and none of the
-- others is.
abbrev pub is_present : Chosen → Sides → Bool
is_present s presence = is_subset presence.on s.on && (bit_and presence.off s.on == 0)

-- a node without its colours
abbrev pub bare_field : Field → Field
bare_field f = record f { colors = no_colors }

abbrev pub bare_param : Param → Param
bare_param p = record p { colors = no_colors }

abbrev pub bare_sent : Sent → Sent
bare_sent s = record s { colors = no_colors }

-- the present items of a list within these colours, in order and with their slots, without their colours
abbrev pub present_fields : Chosen → Sides → List Field → List Field
present_fields s around fs = map bare_field (filter (λ f. is_present s (presence_of around f.colors)) fs)

abbrev pub present_params : Chosen → Sides → List Param → List Param
present_params s around ps = map bare_param (filter (λ p. is_present s (presence_of around p.colors)) ps)

abbrev pub present_sents : Chosen → Sides → List Sent → List Sent
present_sents s around ss = map bare_sent (filter (λ a. is_present s (presence_of around a.colors)) ss)

abbrev pub projected_ctor : Chosen → Sides → Constructor → Constructor
projected_ctor s around c =
    record { params = present_params s around c.params; sends = present_sents s around c.sends; assigns = present_sents s around c.assigns }

-- an expression without the arguments that are not present, by the colours round it
abbrev pub projected_step : Chosen → Expr-F (Sides → Expr) (Sides → List Arg) → Sides → Expr
projected_step s (Expr-F.Var slot name) around = e.Var slot name
projected_step s (Expr-F.Get slot on field) around = e.Get slot (on around) field
projected_step s (Expr-F.Call slot on method args) around = e.Call slot (on around) method (flat_map (λ a. a around) args)
projected_step s (Expr-F.New slot class args) around = e.New slot class (flat_map (λ a. a around) args)
projected_step s (Expr-F.Cast slot class on) around = e.Cast slot class (on around)

-- the argument without its colours where it is present, or nothing
abbrev pub projected_arg_step : Chosen → Arg-F (Sides → Expr) (Sides → List Arg) → Sides → List Arg
projected_arg_step s a around =
    if is_present s (presence_of around a.colors) then record { colors = no_colors; expr = a.expr (presence_of around a.colors) } ∷ [] else []

abbrev pub projected_expr : Chosen → Sides → Expr → Expr
projected_expr s around x = fold-Expr (Sides → Expr) (Sides → List Arg) (projected_step s) (projected_arg_step s) x around

-- a method with its present parameters and arguments, without its colours
abbrev pub projected_method : Chosen → Sides → Method → Method
projected_method s around m =
    record {
      alt = m.alt;
      colors = no_colors;
      result = m.result;
      name = m.name;
      params = present_params s (presence_of around m.colors) m.params;
      body = projected_expr s (presence_of around m.colors) m.body;
    }

abbrev pub present_methods : Chosen → Sides → List Method → List Method
present_methods s around ms = map (projected_method s around) (filter (λ m. is_present s (presence_of around m.colors)) ms)

abbrev pub projected_class : Chosen → Class → Class
projected_class s k =
    record {
      name = k.name;
      colors = no_colors;
      parent = k.parent;
      fields = present_fields s k.colors k.fields;
      ctor = projected_ctor s k.colors k.ctor;
      methods = present_methods s k.colors k.methods;
    }

-- the variant of a selection: the present nodes, without features, constraints and colours, in format One
unfoldable pub projected : Chosen → ProductLine → ProductLine
projected s line =
    record {
      model = record { format = One; features = []; constraints = [] };
      classes = map (projected_class s) (filter (λ k. is_present s k.colors) line.classes);
    }
