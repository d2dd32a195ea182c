use Rattle.std.proofs.Common.{◌≤◌, [], length, sym, ◌∙◌, arith}
use Rattle.unit_facts.specs.Pairs.{class_pairs}
use Rattle.plain_judge.proofs.Growing.{drop_get, grown_more, grown_all}
use Rattle.unit_facts.proofs.ProjectPairs.{project_listed}
use Rattle.plain_judge.proofs.pairs.pairs_of.Goals as goal

pub each-preserved : goal.each-preserved
each-preserved c =
    let p = c.args.project.now.classes in
    grown_more class_pairs p c.each.place [] c.each.pairs.items c.class.result.now c.add_class.new.pairs.items c.each.invariant
    (drop_get p c.each.place c.class.result.now c.class.ensures) c.in_ok-add_class.ensures

pub returns : goal.returns
returns c =
    let p = c.args.project.now.classes in
    let past : length p ≤ c.each.place = omega (arith, c.each-test.false, c.class_count-place-end.ensures.count) in
    grown_all class_pairs p c.each.place [] c.each.pairs.items c.each.invariant past ∙ sym (project_listed p)
