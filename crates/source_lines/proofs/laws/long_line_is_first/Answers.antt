use Rattle.source_lines.proofs.ToldTexts.{long_told}
use Rattle.source_lines.proofs.laws.long_line_is_first.Goals as goal

pub returns : goal.returns
returns c = long_told
