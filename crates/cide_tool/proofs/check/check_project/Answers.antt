use Rattle.cide_io.proofs.Gaining.{gains_nothing}
use Rattle.cide_tool.proofs.Runs.{memory_answers}
use Rattle.cide_tool.proofs.check.check_project.Goals as goal

pub returns-in_err-found : goal.returns-in_err-found
returns-in_err-found g c = λ inputs name stands.
    memory_answers _ _ _ _ c.from_residual.result c.from_residual.ensures.1 (gains_nothing g.O.Sink c.args.out.now)
