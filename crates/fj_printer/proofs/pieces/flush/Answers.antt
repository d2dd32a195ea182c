use Rattle.std.proofs.Common.{arith, sym, ◌∙◌, ap, drop, take, ◌+◌}
use Rattle.std.proofs.lemmas.List.{drop-drop, take_rest}
use Rattle.cide_io.specs.Known.{appended}
use Rattle.fj_printer.specs.Adds.{Outlet, outlet}
use Rattle.fj_printer.proofs.Composing.{adds_then, adds_sent}
use Rattle.fj_printer.proofs.pieces.flush.Goals as goal

pub puts-preserved : goal.puts-preserved
puts-preserved g c =
    let put = c.in_ok-put.ensures in
    let waiting = c.slice-waiting.result.now in
    let rest = drop c.puts.put waiting in
    let was : Outlet = outlet g.K.Sink.held g.K.Sink.name g.K.Sink.faults c.puts.sink rest in
    let now : Outlet = outlet g.K.Sink.held g.K.Sink.name g.K.Sink.faults c.put.new.self (drop (c.puts.put + c.in_ok-put.field-0) waiting) in
    record {
      within = omega arith;
      adds = adds_then c.puts.invariant.adds (adds_sent was now c.in_ok-put.field-0
          (put.bytes ∙ ap (λ w. appended was.held (take c.in_ok-put.field-0 w)) (take_rest waiting c.puts.put))
          (sym (drop-drop c.in_ok-put.field-0 c.puts.put waiting)) put.named put.cause);
    }
