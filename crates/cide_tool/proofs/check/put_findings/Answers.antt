use Rattle.cide_io.proofs.Gaining.{gains_nothing}
use Rattle.cide_tool.proofs.Runs.{memory_answers}
use Rattle.cide_tool.proofs.check.put_findings.Goals as goal

pub returns-in_err-text : goal.returns-in_err-text
returns-in_err-text g c = λ inputs name stands.
    memory_answers _ _ _ _ c.from_residual.result c.from_residual.ensures.1 (gains_nothing g.O.Sink c.args.out.now)
