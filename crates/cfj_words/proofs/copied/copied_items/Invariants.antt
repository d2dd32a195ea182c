use Rattle.std.proofs.Common.{◌≡◌, take}
use Rattle.cfj_words.proofs.copied.copied_items.Given as goal

abbrev pub invariant-each : goal.invariant-each
invariant-each g l = l.copies.items ≡ take l.item-index l.items
