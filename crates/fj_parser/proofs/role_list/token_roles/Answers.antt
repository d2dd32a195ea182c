use Rattle.std.proofs.lemmas.Result.{IfOk-weaker}
use Rattle.cfj_model.specs.Languages.{IsTextOf, projects}
use Rattle.cfj_model.specs.ProductLines.{ProductLine}
use Rattle.fj_machine.specs.Machine.{reader}
use Rattle.fj_parser.specs.TokenRoles.{AreRolesOf}
use Rattle.fj_parser.proofs.Exact.{something_read, fault_told}
use Rattle.fj_parser.proofs.Law.{laws}
use Rattle.fj_parser.proofs.role_list.token_roles.Goals as goal

pub returns-clause-only : goal.returns-clause-only
returns-clause-only c = something_read projects reader laws c.args.text.now c.read_roles.result c.read_roles.ensures.fault

pub returns-clause-first : goal.returns-clause-first
returns-clause-first c =
    let text = c.args.text.now in
    fault_told projects reader laws text c.read_roles.result
    (IfOk-weaker c.read_roles.result (λ list. AreRolesOf projects text list.items) (λ list. (line : ProductLine) × IsTextOf projects text line) (λ list h. (h.value, h.read)) c.read_roles.ensures.read) c.read_roles.ensures.fault
