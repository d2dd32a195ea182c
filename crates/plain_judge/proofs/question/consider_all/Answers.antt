use Rattle.std.proofs.Common.{◌≤◌, List, length, arith, subst}
use Rattle.cfj_model.specs.Judging.{Pair}
use Rattle.plain_judge.specs.Questions.{AreConsidered}
use Rattle.plain_judge.proofs.Considering.{considered_none, considered_more, considered_all}
use Rattle.plain_judge.proofs.question.consider_all.Goals as goal

pub each-init : goal.each-init
each-init c = considered_none c.in_ok-broken.broken c.args.selection c.args.questions.now

pub each-preserved : goal.each-preserved
each-preserved c =
    considered_more c.in_ok-broken.broken c.args.selection c.each.question-index c.args.questions.now c.each.questions c.consider.new.self c.question-item.result (omega arith) c.each.invariant c.consider.ensures

pub returns : goal.returns
returns c =
    let le : length c.each.questions ≤ c.each.question-index = omega (arith, c.each.auto.questions, c.each-test.false) in
    subst (λ (ps : List Pair). AreConsidered ps c.args.selection c.args.questions.now c.each.questions) c.in_ok-broken.ensures
    (considered_all c.in_ok-broken.broken c.args.selection c.each.question-index c.args.questions.now c.each.questions c.each-test.false le c.each.invariant)
