use Rattle.std.proofs.Common.{◌≡◌, sum_by, take}
use Rattle.cfj_model.specs.Sizes.{counted}
use Rattle.cfj_model.proofs.SizeSums.{arg_nodes}
use Rattle.cfj_model.proofs.expr.+count.Given as goal

abbrev pub invariant-args_node_count-each : goal.invariant-args_node_count-each
invariant-args_node_count-each l = l.count ≡ counted (sum_by arg_nodes (take l.arg-index l.args))
