-- No public contract cites this: it serves the proofs.
-- What is printed of a project's nodes: all of them with their marks, or those that are present under a selection, without marks.
-- Where all that stands round a node is present, the node is present exactly where its own marks all hold.
use Rattle.std.specs.Prelude.{ℕ, Bool, true, List, [], ◌++◌, filter}
use Rattle.cfj_model.specs.declared.class.Field.{Field}
use Rattle.cfj_model.specs.declared.class.Param.{Param}
use Rattle.cfj_model.specs.declared.class.Sent.{Sent}
use Rattle.cfj_model.specs.declared.class.Constructor.{Constructor}
use Rattle.cfj_model.specs.declared.class.Method.{Method}
use Rattle.cfj_model.specs.declared.class.Class.{Class}
use Rattle.cfj_model.specs.declared.expr.Arg.{Arg}
use Rattle.cfj_model.specs.declared.expr.Expr.{Expr}
use Rattle.cfj_model.specs.Print.{marks_text, expr_text, method_text, class_text}
use Rattle.cfj_logic.specs.Sides.{Sides}
use Rattle.cfj_model.specs.Projection.{is_present, bare_param, bare_sent, projected_class}
use Rattle.feature_views.specs.Selected.{selected_nodes, selected_expr, selected_method}
use Rattle.fj_printer.specs.declared.showing.Showing.{Showing}
use Rattle.fj_printer.specs.declared.showing.Showing.TheVariants as showing

-- the features whose marks are printed
abbrev pub names : Showing → List (List ℕ)
names (showing.Marked features) = features.now
names (showing.Selected selection) = []

-- whether a node of these colours is printed where all that stands round it is
abbrev pub shows : Showing → Sides → Bool
shows (showing.Marked features) colors = true
shows (showing.Selected selection) colors = is_present selection.now colors

-- the items of a list that are printed, in order
abbrev pub shown_fields : Showing → List Field → List Field
shown_fields view fields = filter (λ f. shows view f.colors) fields

abbrev pub shown_params : Showing → List Param → List Param
shown_params view params = filter (λ p. shows view p.colors) params

abbrev pub shown_sents : Showing → List Sent → List Sent
shown_sents view sents = filter (λ a. shows view a.colors) sents

abbrev pub shown_args : Showing → List Arg → List Arg
shown_args view args = filter (λ a. shows view a.colors) args

abbrev pub shown_methods : Showing → List Method → List Method
shown_methods view methods = filter (λ m. shows view m.colors) methods

abbrev pub shown_classes : Showing → List Class → List Class
shown_classes view classes = filter (λ k. shows view k.colors) classes

-- what is printed of an expression
abbrev pub shown_expr : Showing → Expr → Expr
shown_expr (showing.Marked features) x = x
shown_expr (showing.Selected selection) x = selected_expr selection.now x

-- an argument's marks, and what is printed of it
abbrev pub shown_arg_text : Showing → Arg → List ℕ
shown_arg_text view a = marks_text (names view) a.colors ++ expr_text (names view) (shown_expr view a.expr)

-- what is printed of a constructor
abbrev pub shown_ctor : Showing → Constructor → Constructor
shown_ctor (showing.Marked features) c = c
shown_ctor (showing.Selected selection) c =
    record {
      params = selected_nodes (λ (p : Param). p.colors) bare_param selection.now c.params;
      sends = selected_nodes (λ (a : Sent). a.colors) bare_sent selection.now c.sends;
      assigns = selected_nodes (λ (a : Sent). a.colors) bare_sent selection.now c.assigns;
    }

-- what is printed of a method, and its text
abbrev pub shown_method : Showing → Method → Method
shown_method (showing.Marked features) m = m
shown_method (showing.Selected selection) m = selected_method selection.now m

abbrev pub shown_method_text : Showing → Method → List ℕ
shown_method_text view m = method_text (names view) (shown_method view m)

-- what is printed of a class, and its text
abbrev pub shown_class : Showing → Class → Class
shown_class (showing.Marked features) k = k
shown_class (showing.Selected selection) k = projected_class selection.now k

abbrev pub shown_class_text : Showing → Class → List ℕ
shown_class_text view k = class_text (names view) (shown_class view k)
