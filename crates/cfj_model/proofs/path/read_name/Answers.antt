use Rattle.std.proofs.Common.{rules}
use Rattle.cfj_model.specs.Paths.{name_of}
use Rattle.cfj_model.proofs.Paths.{named}
use Rattle.cfj_model.proofs.path.read_name.Goals as goal

pub returns-then-not-is_identifier-clause-value : goal.returns-then-not-is_identifier-clause-value
unfolding name_of
returns-then-not-is_identifier-clause-value c = search rules

pub returns-clause-value : goal.returns-clause-value
unfolding name_of
returns-clause-value c = let short = named c.args.text.now (search rules) in search (rules, short)
