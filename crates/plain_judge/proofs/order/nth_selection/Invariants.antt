use Rattle.plain_judge.proofs.Mirroring.{IsMirroredTo}
use Rattle.plain_judge.proofs.order.nth_selection.Given as goal

abbrev pub invariant-each : goal.invariant-each
invariant-each l = IsMirroredTo l.features l.place l.feature l.selection
