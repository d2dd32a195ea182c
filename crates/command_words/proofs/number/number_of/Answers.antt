use Rattle.std.proofs.Common.{rules}
use Rattle.command_words.proofs.Numbers.{too_large}
use Rattle.command_words.proofs.number.number_of.Goals as goal

pub returns-in_default-3-clause-read : goal.returns-in_default-3-clause-read
returns-in_default-3-clause-read c =
    too_large c.args.least c.args.most c.args.text.now c.parse.result c.in_default.field-0 c.parse.ensures.value.0 c.in_default.is (search rules) (search rules)
