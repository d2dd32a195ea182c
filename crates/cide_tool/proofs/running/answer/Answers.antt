use Rattle.std.proofs.Common.{◌≡◌, Err, ap}
use Rattle.cide_io.proofs.Gaining.{gains_nothing}
use Rattle.cide_tool.specs.Refusals.{unasked}
use Rattle.cide_tool.proofs.Runs.{err_answers, refusal_answers, unasked_refused}
use Rattle.cide_tool.proofs.running.answer.Goals as goal

pub returns-in_err-project-clause-answer : goal.returns-in_err-project-clause-answer
returns-in_err-project-clause-answer g c =
    let fault = c.in_err-project.field-0.0 in
    err_answers _ _ _ _ c.from_residual.result (λ r. r ≡ unasked fault) c.from_residual.ensures.1 (λ r e.
    refusal_answers (gains_nothing g.O.Sink c.args.out.now) (unasked_refused _ _ _ fault r e (λ k. c.in_err-project.ensures.none (ap Err k))))
