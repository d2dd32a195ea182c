use Rattle.expression_reader.proofs.Counting.{slots_keep_up}
use Rattle.expression_reader.proofs.Law.{waits_on}
use Rattle.expression_reader.proofs.laws.counts_each.Goals as goal

pub returns : goal.returns
returns c = record { waiting = waits_on; slots = slots_keep_up }
