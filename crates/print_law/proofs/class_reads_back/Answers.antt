use Rattle.std.proofs.Common.{refl}
use Rattle.std.specs.Prelude.{slice_get}
use Rattle.print_law.proofs.Law.{found_law}
use Rattle.print_law.proofs.class_reads_back.Goals as goal

pub returns : goal.returns
returns c = found_law c.args.project.now c.args.place c.model-kept.ensures.kept (slice_get c.args.project.now.classes c.args.place) refl c.requires.numbered
