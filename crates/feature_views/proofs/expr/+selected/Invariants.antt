use Rattle.std.proofs.Common.{◌≡◌, ◌++◌, drop}
use Rattle.feature_views.specs.Selected.{selected_args}
use Rattle.feature_views.proofs.expr.+selected.Given as goal

abbrev pub invariant-selected_args-each : goal.invariant-selected_args-each
invariant-selected_args-each l = l.kept.items ++ selected_args l.selection (drop l.arg-index l.args) ≡ selected_args l.selection l.args
