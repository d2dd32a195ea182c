use Rattle.std.proofs.Common.{slice_index_or}
use Rattle.std.proofs.lemmas.List.{get_or_default}
use Rattle.cfj_model.specs.declared.site.Rule.TheVariants.{K1}
use Rattle.plain_fj.specs.Found.{judged_break}
use Rattle.plain_fj.specs.declared.node_break.NodeBreak.{NodeBreak}
use Rattle.plain_fj.proofs.Broken.{added_all, added_more}
use Rattle.plain_fj.proofs.TypeLists.{drop_at}
use Rattle.plain_fj.proofs.methods.add_nodes.Goals as goal

pub each-preserved : goal.each-preserved
each-preserved c =
    let xs = c.args.within.now in
    let i = c.each.found-index in
    let none : NodeBreak = record { slot = 0; rule = K1 } in
    let item : NodeBreak = slice_index_or xs i none in
    added_more (judged_break c.args.class.now c.args.method.now) xs i c.args.breaks.now.items c.each.breaks.items item c.add_node.new.breaks.items c.each.invariant
    (drop_at xs i item c.each-test.true (get_or_default xs i none item c.each-test.true)) c.in_ok-add_node.ensures

pub returns : goal.returns
returns c =
    added_all (judged_break c.args.class.now c.args.method.now) c.args.within.now c.each.found-index c.args.breaks.now.items c.each.breaks.items c.each.invariant c.each-test.false
