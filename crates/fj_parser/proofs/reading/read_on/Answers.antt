use Rattle.std.proofs.Common.{subst}
use Rattle.fj_parser.specs.Ending.{IsStopped}
use Rattle.fj_parser.specs.GoalViews.{met_of, reader_of}
use Rattle.fj_parser.proofs.GoalCounted.{first_counted}
use Rattle.fj_parser.proofs.Places.{placed_first}
use Rattle.fj_parser.proofs.reading.read_on.Goals as goal

pub read_tokens-requires-clause-placed : goal.read_tokens-requires-clause-placed
read_tokens-requires-clause-placed c =
    placed_first (met_of c.args.part) (reader_of c.args.part) c.requires.settles c.args.text.now _ _ _ _ c.new-lexer.ensures.text c.new-lexer.ensures.rest c.requires.start c.in_ok-count_features.ensures

pub read_tokens-requires-clause-counted : goal.read_tokens-requires-clause-counted
read_tokens-requires-clause-counted c = first_counted c.args.part.goal c.args.part.format c.args.part.features.now c.args.part.class.now _ _ c.args.part.few c.requires.start c.in_ok-count_features.ensures

pub returns-clause-fault : goal.returns-clause-fault
returns-clause-fault c = λ at kind e. subst (λ text. IsStopped (met_of c.args.part) (reader_of c.args.part) text at kind) c.new-lexer.ensures.text (c.read_tokens.ensures.fault at kind e)
