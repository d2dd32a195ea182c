use Rattle.std.proofs.Common.{◌≡◌, sum_by, take}
use Rattle.cfj_model.specs.ProductLines.{class_size}
use Rattle.cfj_model.specs.Sizes.{counted}
use Rattle.cfj_model.proofs.project.size_of.Given as goal

abbrev pub invariant-each : goal.invariant-each
invariant-each l = l.size ≡ counted (sum_by class_size (take l.class-index l.classes))
