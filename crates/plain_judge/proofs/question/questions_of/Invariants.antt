use Rattle.std.proofs.Common.{◌≡◌, map}
use Rattle.plain_judge.specs.Questions.{unanswered}
use Rattle.plain_judge.proofs.question.questions_of.Given as goal

abbrev pub invariant-each : goal.invariant-each
invariant-each l = l.questions.items ≡ map unanswered l.yielded
