use Rattle.fj_printer.proofs.Composing.{adds_then, adds_failed}
use Rattle.fj_printer.proofs.Parts.{ctor_parts}
use Rattle.fj_printer.proofs.ctors.ctor.Goals as goal

pub returns-in_err-head : goal.returns-in_err-head
returns-in_err-head g c = rw (ctor_parts c.args.showing.now c.args.name.now c.args.ctor.now) (adds_failed _ c.from_residual.result c.from_residual.ensures.0 c.in_err-head.ensures)

pub returns-in_err-params : goal.returns-in_err-params
returns-in_err-params g c = rw (ctor_parts c.args.showing.now c.args.name.now c.args.ctor.now) (adds_then c.in_ok-head.ensures (adds_failed _ c.from_residual-in_err-params.result c.from_residual-in_err-params.ensures.0 c.in_err-params.ensures))

pub returns-in_err-add_all : goal.returns-in_err-add_all
returns-in_err-add_all g c = rw (ctor_parts c.args.showing.now c.args.name.now c.args.ctor.now) (adds_then c.in_ok-head.ensures (adds_then c.in_ok-params.ensures (adds_failed _ c.from_residual-in_err-add_all.result c.from_residual-in_err-add_all.ensures.0 c.in_err-add_all.ensures)))

pub returns-in_err-sends : goal.returns-in_err-sends
returns-in_err-sends g c = rw (ctor_parts c.args.showing.now c.args.name.now c.args.ctor.now) (adds_then c.in_ok-head.ensures (adds_then c.in_ok-params.ensures (adds_then c.in_ok-add_all.ensures (adds_failed _ c.from_residual-in_err-sends.result c.from_residual-in_err-sends.ensures.0 c.in_err-sends.ensures))))

pub returns-in_err-add_all-2 : goal.returns-in_err-add_all-2
returns-in_err-add_all-2 g c = rw (ctor_parts c.args.showing.now c.args.name.now c.args.ctor.now) (adds_then c.in_ok-head.ensures (adds_then c.in_ok-params.ensures (adds_then c.in_ok-add_all.ensures (adds_then c.in_ok-sends.ensures (adds_failed _ c.from_residual-in_err-add_all-2.result c.from_residual-in_err-add_all-2.ensures.0 c.in_err-add_all-2.ensures)))))

pub returns-in_err-assigns : goal.returns-in_err-assigns
returns-in_err-assigns g c = rw (ctor_parts c.args.showing.now c.args.name.now c.args.ctor.now) (adds_then c.in_ok-head.ensures (adds_then c.in_ok-params.ensures (adds_then c.in_ok-add_all.ensures (adds_then c.in_ok-sends.ensures (adds_then c.in_ok-add_all-2.ensures (adds_failed _ c.from_residual-in_err-assigns.result c.from_residual-in_err-assigns.ensures.0 c.in_err-assigns.ensures))))))

pub returns : goal.returns
returns g c = rw (ctor_parts c.args.showing.now c.args.name.now c.args.ctor.now) (adds_then c.in_ok-head.ensures (adds_then c.in_ok-params.ensures (adds_then c.in_ok-add_all.ensures (adds_then c.in_ok-sends.ensures (adds_then c.in_ok-add_all-2.ensures (adds_then c.in_ok-assigns.ensures c.add_all-3.ensures))))))
