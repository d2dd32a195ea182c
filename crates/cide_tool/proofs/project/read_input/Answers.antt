use Rattle.cide_tool.proofs.Inputs.{named_input_read}
use Rattle.cide_tool.proofs.project.read_input.Goals as goal

pub returns-clause-text : goal.returns-clause-text
returns-clause-text g c = named_input_read _ _ _ c.read_all-read.result c.in-Ok.ensures.left c.read_all-read.ensures.bytes
