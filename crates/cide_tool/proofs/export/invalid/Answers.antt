use Rattle.std.proofs.Common.{Some, refl}
use Rattle.std.specs.String.{string_bytes}
use Rattle.command_words.specs.Asked.{Asked}
use Rattle.cide_tool.specs.Endings.{Ends}
use Rattle.cide_tool.specs.Lines.{invalid_line}
use Rattle.cide_tool.proofs.Runs.{ending_refused, memory_refused}
use Rattle.cide_tool.proofs.export.invalid.Goals as goal

pub returns-in-Ok : goal.returns-in-Ok
returns-in-Ok c = λ inputs name names line s stands spelled first.
    ending_refused inputs ⊥ (Some (Asked.export name names)) 8 (invalid_line c.args.at) (string_bytes c.in-Ok.line)
    (Ends.invalid name names line s c.args.at stands spelled first) c.in-Ok.ensures

pub returns-in-Err : goal.returns-in-Err
returns-in-Err c = λ inputs name names line s stands spelled first. memory_refused inputs ⊥ (Some (Asked.export name names)) _ refl
