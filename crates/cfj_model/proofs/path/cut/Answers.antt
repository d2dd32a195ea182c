use Rattle.cfj_model.proofs.Paths.{cut_is}
use Rattle.cfj_model.proofs.path.cut.Goals as goal

pub returns : goal.returns
returns c = cut_is c.args.mark c.args.text.now c.split_once.result c.utf8.text c.requires c.split_once.ensures.cases
