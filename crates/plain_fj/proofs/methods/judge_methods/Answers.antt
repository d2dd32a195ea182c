use Rattle.std.proofs.Common.{take, refl}
use Rattle.cfj_model.specs.Judging.{judged_method}
use Rattle.cfj_model.specs.Members.{method_name_of, placed}
use Rattle.cfj_model.specs.declared.class.Method.{Method}
use Rattle.plain_fj.specs.Alternatives.{behind}
use Rattle.plain_fj.proofs.Alternatives.{first_read, placed_item, placed_past}
use Rattle.plain_fj.proofs.Broken.{added_all, added_more}
use Rattle.plain_fj.proofs.methods.judge_methods.Goals as goal

pub each-init : goal.each-init
each-init c = refl

pub judge_method-requires-clause-alt : goal.judge_method-requires-clause-alt
judge_method-requires-clause-alt c =
    first_read method_name_of (λ (m : Method). m.alt) c.args.class.now.methods c.slice-methods.result.now c.each.place c.index-methods-place.result c.requires.alts c.slice-methods.ensures
    c.each-test.true c.index-methods-place.is

pub each-preserved : goal.each-preserved
each-preserved c =
    let of = judged_method c.args.table.now c.args.class.now in
    let all = c.args.class.now.methods in
    let read = c.slice-methods.result.now in
    let item = c.index-methods-place.result in
    added_more of (placed all) c.each.place c.args.breaks.now.items c.each.breaks.items (behind (take c.each.place read) item) c.judge_method.new.breaks.items c.each.invariant
    (placed_item all read c.slice-methods.ensures c.each.place item c.each-test.true c.index-methods-place.is) c.in_ok-judge_method.ensures

pub returns : goal.returns
returns c =
    added_all (judged_method c.args.table.now c.args.class.now) (placed c.args.class.now.methods) c.each.place c.args.breaks.now.items c.each.breaks.items c.each.invariant
    (placed_past c.args.class.now.methods c.slice-methods.result.now c.slice-methods.ensures c.each.place c.each-test.false)
