use Rattle.source_lines.proofs.ToldTexts.{next_told}
use Rattle.source_lines.proofs.laws.next_line_is_first.Goals as goal

pub returns : goal.returns
returns c = next_told
