use Rattle.json_lines.proofs.ReadBack.{read_back}
use Rattle.json_lines.proofs.laws.canonical_reads_back.Goals as goal

pub returns : goal.returns
returns c = read_back
