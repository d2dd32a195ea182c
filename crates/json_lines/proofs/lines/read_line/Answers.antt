use Rattle.json_lines.proofs.Reading.{data_of-read, data_of-refused, not_both}
use Rattle.json_lines.proofs.lines.read_line.Goals as goal

pub returns-in-Ok : goal.returns-in-Ok
returns-in-Ok c = data_of-read _ _ c.in-Ok.ensures.ok.0 c.in-Ok.ensures.ok.1

pub returns-in-Err-2 : goal.returns-in-Err-2
returns-in-Err-2 c = data_of-refused _ (c.in-Err.ensures.err (λ memory. not_both _ (c.is_memory.ensures.1 memory) c.if-is_memory.false))
