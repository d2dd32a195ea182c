use Rattle.std.proofs.Common.{subst}
use Rattle.fj_parser.specs.Ending.{IsStopped}
use Rattle.fj_parser.specs.GoalViews.{met_of, reader_of}
use Rattle.fj_parser.proofs.GoalCounted.{first_counted}
use Rattle.fj_parser.proofs.Listed.{listed_first}
use Rattle.fj_parser.proofs.role_list.list_on.Goals as goal

pub list_tokens-requires-clause-listed : goal.list_tokens-requires-clause-listed
list_tokens-requires-clause-listed c =
    listed_first (met_of c.args.part) (reader_of c.args.part) c.requires.settles c.args.text.now _ _ _ _ _ c.new-lexer.ensures.text c.new-lexer.ensures.rest c.requires.start c.in_ok-count_features.ensures c.requires.empty

pub list_tokens-requires-clause-counted : goal.list_tokens-requires-clause-counted
list_tokens-requires-clause-counted c = first_counted c.args.part.goal c.args.part.format c.args.part.features.now c.args.part.class.now _ _ c.args.part.few c.requires.start c.in_ok-count_features.ensures

pub returns-clause-fault : goal.returns-clause-fault
returns-clause-fault c = λ at kind e. subst (λ text. IsStopped (met_of c.args.part) (reader_of c.args.part) text at kind) c.new-lexer.ensures.text (c.list_tokens.ensures.fault at kind e)
