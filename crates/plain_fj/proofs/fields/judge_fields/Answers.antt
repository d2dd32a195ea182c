use Rattle.std.proofs.Common.{take, refl}
use Rattle.cfj_model.specs.Judging.{judged_field}
use Rattle.cfj_model.specs.Members.{field_name_of, placed}
use Rattle.cfj_model.specs.declared.class.Field.{Field}
use Rattle.plain_fj.specs.Alternatives.{behind}
use Rattle.plain_fj.proofs.Alternatives.{first_read, placed_item, placed_past}
use Rattle.plain_fj.proofs.Broken.{added_all, added_more}
use Rattle.plain_fj.proofs.fields.judge_fields.Goals as goal

pub each-init : goal.each-init
each-init c = refl

pub judge_field-requires-clause-alt : goal.judge_field-requires-clause-alt
judge_field-requires-clause-alt c =
    first_read field_name_of (λ (m : Field). m.alt) c.args.class.now.fields c.slice-fields.result.now c.each.place c.index-fields-place.result c.requires.alts c.slice-fields.ensures
    c.each-test.true c.index-fields-place.is

pub each-preserved : goal.each-preserved
each-preserved c =
    let of = judged_field c.args.table.now c.args.class.now in
    let all = c.args.class.now.fields in
    let read = c.slice-fields.result.now in
    let item = c.index-fields-place.result in
    added_more of (placed all) c.each.place c.args.breaks.now.items c.each.breaks.items (behind (take c.each.place read) item) c.judge_field.new.breaks.items c.each.invariant
    (placed_item all read c.slice-fields.ensures c.each.place item c.each-test.true c.index-fields-place.is) c.in_ok-judge_field.ensures

pub returns : goal.returns
returns c =
    added_all (judged_field c.args.table.now c.args.class.now) (placed c.args.class.now.fields) c.each.place c.args.breaks.now.items c.each.breaks.items c.each.invariant
    (placed_past c.args.class.now.fields c.slice-fields.result.now c.slice-fields.ensures c.each.place c.each-test.false)
