use Rattle.std.proofs.Common.{◌≡◌, map, take}
use Rattle.guarded_seq.proofs.rows.alike.Given as goal

abbrev pub invariant-loop-guarded : goal.invariant-loop-guarded
invariant-loop-guarded g l = l.found.items ≡ map (λ x. g.T.PartialEq.eq l.label x.item) (take l.guarded-index l.items)
