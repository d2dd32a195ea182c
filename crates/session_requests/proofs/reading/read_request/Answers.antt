use Rattle.std.proofs.Common.{IfOk, subst}
use Rattle.session_requests.specs.Reads.{AnswersRead}
use Rattle.session_requests.proofs.reading.read_request.Goals as goal

pub returns : goal.returns
returns c = subst (λ d. IfOk c.told.result (AnswersRead d)) c.in_ok-value.ensures c.told.ensures
