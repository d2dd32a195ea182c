use Rattle.std.proofs.Common.{◌≡◌, take}
use Rattle.shared_list.proofs.shared.shared_items.Given as goal

abbrev pub invariant-each : goal.invariant-each
invariant-each g l = l.copies.items ≡ take l.item-index l.items
