use Rattle.cfj_model.proofs.Numbering.{read_numbered}
use Rattle.print_law.proofs.read_is_numbered.Goals as goal

pub returns : goal.returns
returns c = read_numbered c.args.text.now c.args.project.now c.requires.read
