use Rattle.plain_fj.specs.Breaking.{judged_param}
use Rattle.plain_fj.proofs.Broken.{added_all_read, added_more, drop_item}
use Rattle.plain_fj.proofs.methods.judge_params.Goals as goal

pub each-preserved : goal.each-preserved
each-preserved c =
    let qs = c.args.method.now.params in
    let of = judged_param c.args.table.now c.args.class.now c.args.method.now in
    added_more of qs c.each.param-index c.args.breaks.now.items c.each.breaks.items c.param-item.result c.note.new.breaks.items c.each.invariant
    (drop_item qs c.slice-param-items.result.now c.each.param-index c.param-item.result c.slice-param-items.ensures c.each-test.true c.param-item.is)
    (rw (← c.is_known.ensures) c.in_ok-note.ensures)

pub returns : goal.returns
returns c =
    added_all_read (judged_param c.args.table.now c.args.class.now c.args.method.now) c.args.method.now.params c.each.param-index c.args.breaks.now.items c.each.breaks.items c.each.invariant
    c.slice-param-items.result.now c.slice-param-items.ensures c.each-test.false
