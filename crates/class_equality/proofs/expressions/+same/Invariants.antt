use Rattle.std.proofs.Common.{◌≡◌, take}
use Rattle.class_equality.proofs.expressions.+same.Given as goal

abbrev pub invariant-same_args-each : goal.invariant-same_args-each
invariant-same_args-each l = take l.place l.args ≡ take l.place l.others
