use Rattle.std.proofs.Common.{◌≡◌, ◌++◌, drop}
use Rattle.feature_views.specs.Selected.{present_classes}
use Rattle.feature_views.proofs.variant.classes.Given as goal

abbrev pub invariant-classes : goal.invariant-classes
invariant-classes l = l.kept.items ++ present_classes l.selection (drop l.place l.project.classes) ≡ present_classes l.selection l.project.classes
