use Rattle.json_lines.proofs.OneLine.{no_newline-compact_text}
use Rattle.json_lines.proofs.laws.canonical_is_one_line.Goals as goal

pub returns : goal.returns
returns c = no_newline-compact_text
