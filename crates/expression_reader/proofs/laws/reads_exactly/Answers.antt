use Rattle.expression_reader.proofs.Complete.{text_runs}
use Rattle.expression_reader.proofs.Law.{ends_once, ends_at_semicolon}
use Rattle.expression_reader.proofs.Sound.{text_of}
use Rattle.expression_reader.proofs.laws.reads_exactly.Goals as goal

pub returns : goal.returns
returns c = record { each = text_runs; only = text_of; once = ends_once; last = ends_at_semicolon }
