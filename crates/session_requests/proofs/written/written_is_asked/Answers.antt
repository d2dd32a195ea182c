use Rattle.session_requests.proofs.Asked.{written_asked}
use Rattle.session_requests.proofs.written.written_is_asked.Goals as goal

pub returns : goal.returns
returns c = written_asked
