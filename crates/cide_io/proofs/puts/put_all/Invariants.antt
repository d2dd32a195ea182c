use Rattle.std.proofs.Common.{length, take, ◌-◌, ◌≡◌, ◌≤◌}
use Rattle.cide_io.specs.Known.{appended}
use Rattle.cide_io.proofs.puts.put_all.Given as goal

abbrev pub invariant-pieces : goal.invariant-pieces
invariant-pieces g l = record {
  within : l.done ≤ length l.piece;
  added : g.K.Sink.held l.sink ≡ appended (g.K.Sink.held l.fn.sink) (take l.done l.piece);
  named : g.K.Sink.name l.sink ≡ g.K.Sink.name l.fn.sink;
  later : g.K.Sink.faults l.fn.sink ≤ g.K.Sink.faults l.sink;
}

abbrev pub decreases-pieces : goal.decreases-pieces
decreases-pieces g l = length l.piece - l.done
