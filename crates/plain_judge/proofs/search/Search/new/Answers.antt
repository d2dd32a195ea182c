use Rattle.std.proofs.Common.{map, refl, ◌∙◌, ap}
use Rattle.plain_judge.specs.Questions.{unanswered}
use Rattle.plain_judge.proofs.Sought.{searched_none}
use Rattle.plain_judge.proofs.search.Search.new.Goals as goal

pub returns : goal.returns
returns c = searched_none c.args.project.now _ (c.in_ok-questions.ensures ∙ ap (map unanswered) c.in_ok-pairs.ensures) refl c.new.ensures
