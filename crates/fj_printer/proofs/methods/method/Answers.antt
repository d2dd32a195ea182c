use Rattle.fj_printer.proofs.Composing.{adds_as, adds_then, adds_failed}
use Rattle.fj_printer.proofs.Parts.{method_parts}
use Rattle.fj_printer.proofs.methods.method.Goals as goal

pub returns-in_err-head : goal.returns-in_err-head
returns-in_err-head g c = adds_as (method_parts c.args.showing.now c.args.method.now) (adds_failed _ c.from_residual.result c.from_residual.ensures.0 c.in_err-head.ensures)

pub returns-in_err-params : goal.returns-in_err-params
returns-in_err-params g c = adds_as (method_parts c.args.showing.now c.args.method.now) (adds_then c.in_ok-head.ensures (adds_failed _ c.from_residual-in_err-params.result c.from_residual-in_err-params.ensures.0 c.in_err-params.ensures))

pub returns-in_err-add_all : goal.returns-in_err-add_all
returns-in_err-add_all g c = adds_as (method_parts c.args.showing.now c.args.method.now) (adds_then c.in_ok-head.ensures (adds_then c.in_ok-params.ensures (adds_failed _ c.from_residual-in_err-add_all.result c.from_residual-in_err-add_all.ensures.0 c.in_err-add_all.ensures)))

pub returns-in_err-expr : goal.returns-in_err-expr
returns-in_err-expr g c = adds_as (method_parts c.args.showing.now c.args.method.now) (adds_then c.in_ok-head.ensures (adds_then c.in_ok-params.ensures (adds_then c.in_ok-add_all.ensures (adds_failed _ c.from_residual-in_err-expr.result c.from_residual-in_err-expr.ensures.0 c.in_err-expr.ensures))))

pub returns : goal.returns
returns g c = adds_as (method_parts c.args.showing.now c.args.method.now) (adds_then c.in_ok-head.ensures (adds_then c.in_ok-params.ensures (adds_then c.in_ok-add_all.ensures (adds_then c.in_ok-expr.ensures (c.add_all-2.ensures)))))
