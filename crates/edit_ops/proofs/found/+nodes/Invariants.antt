use Rattle.std.proofs.Common.{◌≡◌, ◌==◌, false, take}
use Rattle.std.specs.List.{list_any}
use Rattle.cfj_model.specs.Expressions.{slots}
use Rattle.edit_ops.proofs.found.+nodes.Given as goal

abbrev pub invariant-any_has_slot-each : goal.invariant-any_has_slot-each
invariant-any_has_slot-each l = list_any (λ a. list_any (λ s. s == l.slot) (slots a.expr)) (take l.arg-index l.args) ≡ false
