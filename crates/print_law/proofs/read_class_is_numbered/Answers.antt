use Rattle.cfj_model.proofs.Numbering.{class_read_numbered}
use Rattle.print_law.proofs.read_class_is_numbered.Goals as goal

pub returns : goal.returns
returns c = class_read_numbered c.args.model.now.format c.args.model.now.features c.args.text.now c.args.class.now c.requires.read
