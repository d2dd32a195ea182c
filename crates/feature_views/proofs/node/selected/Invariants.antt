use Rattle.std.proofs.Common.{◌≡◌, ◌++◌, drop}
use Rattle.feature_views.specs.Selected.{selected_nodes}
use Rattle.feature_views.proofs.node.selected.Given as goal

abbrev pub invariant-nodes : goal.invariant-nodes
invariant-nodes g l =
    l.kept.items ++ selected_nodes g.N.Node.colors_of (g.N.Node.kept_of l.selection) l.selection (drop l.node-index l.nodes)
    ≡ selected_nodes g.N.Node.colors_of (g.N.Node.kept_of l.selection) l.selection l.nodes
