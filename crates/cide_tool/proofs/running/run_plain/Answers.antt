use Rattle.cide_io.proofs.Gaining.{given_nothing}
use Rattle.cide_tool.proofs.Runs.{said_nothing, said_line}
use Rattle.cide_tool.proofs.running.run_plain.Goals as goal

pub returns-in-Ok-clause-answer : goal.returns-in-Ok-clause-answer
returns-in-Ok-clause-answer g c = said_nothing _ (given_nothing g.E.Sink c.args.err.now) c.in-Ok.ensures.answer

pub returns-in-Err-clause-answer : goal.returns-in-Err-clause-answer
returns-in-Err-clause-answer g c =
    said_line c.in-Err.refusal _ _ c.status.ensures c.line.ensures c.say.ensures c.in-Err.ensures.answer
