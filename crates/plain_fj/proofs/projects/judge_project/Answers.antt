use Rattle.std.proofs.Common.{◌≤◌, [], length, arith, ◌∙◌}
use Rattle.cfj_model.specs.Judging.{judged_class}
use Rattle.class_table.proofs.Members.{drop_get}
use Rattle.plain_fj.proofs.Broken.{added_more, added_all, all_judged, class_of_table}
use Rattle.plain_fj.proofs.Law.{alts_kept}
use Rattle.plain_fj.proofs.projects.judge_project.Goals as goal

pub judge_class-requires : goal.judge_class-requires
judge_class-requires c = alts_kept c.args.project.now c.class_count-place-end.ensures.kept c.class.result.now (c.each.place, c.class.ensures)

pub each-preserved : goal.each-preserved
each-preserved c =
    let p = c.args.project.now.classes in
    added_more (judged_class p) p c.each.place [] c.each.breaks.items c.class.result.now c.judge_class.new.breaks.items c.each.invariant
    (drop_get p c.each.place c.class.result.now c.class.ensures)
    (class_of_table p c.args.table.now c.class.result.now c.each.breaks.items c.judge_class.new.breaks.items c.requires c.in_ok-judge_class.ensures)

pub returns-clause-found : goal.returns-clause-found
returns-clause-found c =
    let p = c.args.project.now.classes in
    let past : length p ≤ c.each.place = omega (arith, c.each-test.false, c.class_count-place-end.ensures.count) in
    added_all (judged_class p) p c.each.place [] c.each.breaks.items c.each.invariant past ∙ all_judged p
