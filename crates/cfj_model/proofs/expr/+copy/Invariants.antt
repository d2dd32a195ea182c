use Rattle.std.proofs.Common.{◌≡◌, take}
use Rattle.cfj_model.proofs.expr.+copy.Given as goal

abbrev pub invariant-copy_args-each : goal.invariant-copy_args-each
invariant-copy_args-each l = l.list.items ≡ take l.arg-index l.args
