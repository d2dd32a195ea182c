use Rattle.std.proofs.Common.{◌-◌, length}
use Rattle.class_table.specs.ByName.{seen}
use Rattle.class_table.proofs.Walking.{IsWalked, AreMarked}
use Rattle.class_table.proofs.superclasses.climb.Given as goal

abbrev pub invariant-up : goal.invariant-up
invariant-up l = record {
  walked : IsWalked l.classes l.name (length l.classes - l._step) (seen l.found.items) l.at;
  marked : AreMarked l.taken.entries (seen l.found.items);
}
