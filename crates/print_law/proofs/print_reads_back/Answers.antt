use Rattle.print_law.proofs.Law.{project_law}
use Rattle.print_law.proofs.print_reads_back.Goals as goal

pub returns : goal.returns
returns c = project_law c.args.project.now c.model-kept.ensures.kept c.requires.numbered
