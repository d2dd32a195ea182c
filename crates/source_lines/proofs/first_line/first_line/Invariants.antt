use Rattle.std.proofs.Common.{◌≡◌, ◌≤◌, ◌+◌, ◌-◌, false, length, take}
use Rattle.cide_io.specs.Known.{preceded}
use Rattle.source_lines.specs.LineReads.{has_newline}
use Rattle.source_lines.proofs.first_line.first_line.Given as goal

abbrev pub invariant-pieces : goal.invariant-pieces
invariant-pieces g l = record {
  all : preceded l.fn.window.bytes (g.S.Source.left l.fn.source) ≡ preceded l.window.bytes (g.S.Source.left l.source);
  within : l.seen ≤ length l.window.bytes;
  none : has_newline (take l.seen l.window.bytes) ≡ false;
  size : l.window.size ≡ l.fn.window.size;
  later : g.S.Source.faults l.fn.source ≤ g.S.Source.faults l.source;
}

abbrev pub decreases-pieces : goal.decreases-pieces
decreases-pieces g l = l.limit + 1 - length l.window.bytes
