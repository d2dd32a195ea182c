use Rattle.std.proofs.Common.{arith, ◌-◌, refl, sym, ◌∙◌, ap, drop, take, length, ◌++◌}
use Rattle.std.proofs.lemmas.List.{take-append-drop, take_rest, length-take}
use Rattle.std.proofs.Math.Seq.{take-add}
use Rattle.fj_printer.specs.Adds.{Outlet, outlet}
use Rattle.fj_printer.proofs.Composing.{adds_more, adds_then, adds_behind, adds_stopped}
use Rattle.fj_printer.proofs.pieces.add.Goals as goal

pub returns-in_err-make_room : goal.returns-in_err-make_room
returns-in_err-make_room g c =
    adds_stopped (drop c.fills.added c.args.text.now) c.from_residual.result c.from_residual.ensures.0 c.fills.invariant.adds c.in_err-make_room.ensures.adds
    (sym (take-append-drop c.fills.added c.args.text.now))

pub fills-preserved : goal.fills-preserved
fills-preserved g c =
    let fill = c.fill-added.ensures in
    let text = c.args.text.now in
    let ready : Outlet = outlet g.K.Sink.held g.K.Sink.name g.K.Sink.faults c.make_room.new.sink c.make_room.new.buffer in
    let filled : Outlet = outlet g.K.Sink.held g.K.Sink.name g.K.Sink.faults c.make_room.new.sink c.fill-added.new.self in
    let rest = take_rest text c.fills.added in
    record {
      within = let taken = fill.taken in omega (arith, length-take (length text - c.fills.added) (drop c.fills.added text));
      adds = adds_more c.fills.invariant.adds
          (adds_then c.in_ok-make_room.ensures.adds
          (adds_behind ready filled (take c.fill-added.result (drop c.fills.added text)) refl refl refl
          (fill.bytes ∙ ap (λ w. c.make_room.new.buffer ++ take c.fill-added.result w) rest)))
          (take-add c.fills.added c.fill-added.result text);
    }
