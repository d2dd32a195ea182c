use Rattle.std.proofs.Common.{arith}
use Rattle.fj_lexer.proofs.WordBytes.{continues, ascii}
use Rattle.fj_lexer.proofs.ascii.continues_ascii.Goals as goal

pub returns-clause-value : goal.returns-clause-value
returns-clause-value c = continues c.args.byte (omega arith)

pub returns-clause-ascii : goal.returns-clause-ascii
returns-clause-ascii c = ascii c.args.byte (omega arith)
