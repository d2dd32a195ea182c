use Rattle.fj_printer.proofs.Composing.{adds_as, adds_then, adds_failed}
use Rattle.fj_printer.proofs.Parts.{class_parts}
use Rattle.fj_printer.proofs.classes.class.Goals as goal

pub returns-in_err-head : goal.returns-in_err-head
returns-in_err-head g c = adds_as (class_parts c.args.showing.now c.args.class.now c.requires.shown) (adds_failed _ c.from_residual.result c.from_residual.ensures.0 c.in_err-head.ensures)

pub returns-in_err-fields : goal.returns-in_err-fields
returns-in_err-fields g c = adds_as (class_parts c.args.showing.now c.args.class.now c.requires.shown) (adds_then c.in_ok-head.ensures (adds_failed _ c.from_residual-in_err-fields.result c.from_residual-in_err-fields.ensures.0 c.in_err-fields.ensures))

pub returns-in_err-ctor : goal.returns-in_err-ctor
returns-in_err-ctor g c = adds_as (class_parts c.args.showing.now c.args.class.now c.requires.shown) (adds_then c.in_ok-head.ensures (adds_then c.in_ok-fields.ensures (adds_failed _ c.from_residual-in_err-ctor.result c.from_residual-in_err-ctor.ensures.0 c.in_err-ctor.ensures)))

pub returns-in_err-methods : goal.returns-in_err-methods
returns-in_err-methods g c = adds_as (class_parts c.args.showing.now c.args.class.now c.requires.shown) (adds_then c.in_ok-head.ensures (adds_then c.in_ok-fields.ensures (adds_then c.in_ok-ctor.ensures (adds_failed _ c.from_residual-in_err-methods.result c.from_residual-in_err-methods.ensures.0 c.in_err-methods.ensures))))

pub returns : goal.returns
returns g c = adds_as (class_parts c.args.showing.now c.args.class.now c.requires.shown) (adds_then c.in_ok-head.ensures (adds_then c.in_ok-fields.ensures (adds_then c.in_ok-ctor.ensures (adds_then c.in_ok-methods.ensures (c.add_all.ensures)))))
