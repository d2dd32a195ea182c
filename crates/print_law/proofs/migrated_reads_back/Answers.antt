use Rattle.print_law.proofs.Migrated.{migrated_law}
use Rattle.print_law.proofs.migrated_reads_back.Goals as goal

pub returns : goal.returns
returns c = migrated_law c.args.project.now c.model-kept.ensures.kept c.requires.numbered
