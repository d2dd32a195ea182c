use Rattle.cfj_model.specs.Languages.{projects}
use Rattle.fj_machine.specs.Machine.{reader}
use Rattle.fj_parser.proofs.Exact.{only_read, only_told}
use Rattle.fj_parser.proofs.Law.{laws}
use Rattle.fj_parser.proofs.parser.parse_project.Goals as goal

pub returns-clause-only : goal.returns-clause-only
returns-clause-only c = only_read projects reader laws c.args.text.now c.read_project.result c.read_project.ensures.read c.read_project.ensures.fault

pub returns-clause-first : goal.returns-clause-first
returns-clause-first c = only_told projects reader laws c.args.text.now c.read_project.result c.read_project.ensures.read c.read_project.ensures.fault
