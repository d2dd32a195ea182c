use Rattle.std.proofs.Common.{◌≡◌, take}
use Rattle.class_equality.proofs.same.same_items.Given as goal

abbrev pub invariant-each : goal.invariant-each
invariant-each g l = take l.place l.some ≡ take l.place l.others
