use Rattle.std.proofs.Common.{arith}
use Rattle.fj_lexer.proofs.WordBytes.{starts}
use Rattle.fj_lexer.proofs.ascii.starts_ascii.Goals as goal

pub returns : goal.returns
returns c = record { value = starts c.args.byte (omega arith) }
