use Rattle.std.proofs.Common.{◌+◌, ◌-◌, ◌≡◌, ◌≤◌, vec_len}
use Rattle.cide_io.specs.Known.{preceded}
use Rattle.cide_io.proofs.sources.read_all.Given as goal

abbrev pub invariant-pieces : goal.invariant-pieces
invariant-pieces g l = record {
  sized : vec_len l.piece ≡ 65536;
  within : vec_len l.all ≤ l.limit;
  came : g.S.Source.left l.fn.source ≡ preceded l.all.items (g.S.Source.left l.source);
  later : g.S.Source.faults l.fn.source ≤ g.S.Source.faults l.source;
}

abbrev pub decreases-pieces : goal.decreases-pieces
decreases-pieces g l = l.limit + 1 - vec_len l.all
