use Rattle.std.proofs.Common.{vec_len}
use Rattle.cide_io.proofs.names.end_all.Given as goal

abbrev pub decreases-pairs : goal.decreases-pairs
decreases-pairs g l = vec_len l.pairs
