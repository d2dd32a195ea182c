use Rattle.std.proofs.Common.{◌≡◌, sum_by, take}
use Rattle.cfj_model.specs.ProductLines.{method_size}
use Rattle.cfj_model.specs.Sizes.{counted}
use Rattle.cfj_model.proofs.class.methods_size.Given as goal

abbrev pub invariant-each : goal.invariant-each
invariant-each l = l.size ≡ counted (sum_by method_size (take l.method-index l.methods))
