use Rattle.session_requests.proofs.OpNames.{of_named}
use Rattle.session_requests.proofs.op.Op.of.Goals as goal

pub returns : goal.returns
returns c = of_named c.args.text.now c.named.result c.named.ensures
