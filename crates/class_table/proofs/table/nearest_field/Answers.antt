use Rattle.std.proofs.Common.{arith, sym, ◌∙◌, refl}
use Rattle.cfj_model.specs.LookUps.{field_called}
use Rattle.class_table.proofs.Nearest.{nearest_here, nearest_on, nearest_none}
use Rattle.class_table.proofs.table.nearest_field.Goals as goal

pub each-init : goal.each-init
each-init c = refl

pub returns-then-is_some : goal.returns-then-is_some
returns-then-is_some c =
    nearest_here (field_called c.args.name.now) c.args.chain.now c.each.class-index c.class-item.result c.field_called-found.result c.each.invariant (omega (arith, c.each-test.true))
    c.class-item.is c.field_called-found.ensures (sym c.is_some.ensures ∙ c.if-is_some.true)

pub each-preserved : goal.each-preserved
each-preserved c =
    nearest_on (field_called c.args.name.now) c.args.chain.now c.each.class-index c.class-item.result c.field_called-found.result c.each.invariant (omega (arith, c.each-test.true))
    c.class-item.is c.field_called-found.ensures (sym c.is_some.ensures ∙ c.if-is_some.false)

pub returns : goal.returns
returns c = nearest_none (field_called c.args.name.now) c.args.chain.now c.each.class-index c.each.invariant (omega (arith, c.each-test.false))
