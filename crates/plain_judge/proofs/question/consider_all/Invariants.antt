use Rattle.plain_judge.proofs.Considering.{AreConsideredTo}
use Rattle.plain_judge.proofs.question.consider_all.Given as goal

abbrev pub invariant-each : goal.invariant-each
invariant-each l = AreConsideredTo l.broken l.selection l.question-index l.initial.questions l.questions
