use Rattle.std.proofs.Common.{sym}
use Rattle.json_lines.proofs.ReadBack.{read_back}
use Rattle.json_lines.proofs.Reading.{data_of-read}
use Rattle.json_lines.proofs.Utf8Texts.{IsUtf8-compact_text}
use Rattle.json_lines.proofs.laws.canonical_line_is_read.Goals as goal

pub returns : goal.returns
returns c = λ d h shallow texts. sym (data_of-read _ d (IsUtf8-compact_text d h texts) (read_back d h shallow))
