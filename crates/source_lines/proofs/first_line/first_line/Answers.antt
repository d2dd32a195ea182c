use Rattle.source_lines.proofs.Finding.{long_line}
use Rattle.source_lines.proofs.first_line.first_line.Goals as goal

pub returns-then-limit-end-clause-found : goal.returns-then-limit-end-clause-found
returns-then-limit-end-clause-found g c = long_line _ _ c.pieces.window.bytes c.in-Some.end c.args.limit c.pieces.invariant.all c.in-Some.ensures c.if-limit-end.true
