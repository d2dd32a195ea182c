use Rattle.std.proofs.Common.{Some, refl}
use Rattle.std.specs.String.{string_bytes}
use Rattle.cide_tool.specs.Endings.{Ends}
use Rattle.cide_tool.specs.Lines.{fault_line}
use Rattle.cide_tool.proofs.Runs.{ending_refused, memory_refused}
use Rattle.cide_tool.proofs.project.no_text.Goals as goal

pub returns-in-Ok : goal.returns-in-Ok
returns-in-Ok c = λ inputs asked whole.
    ending_refused inputs ⊥ (Some asked) 3 (fault_line c.args.at c.args.kind.now) (string_bytes c.in-Ok.line)
    (Ends.no_text asked c.args.at c.args.kind.now (record { text = c.args.text.now; whole = whole; first = c.requires.first })) c.in-Ok.ensures

pub returns-in-Err : goal.returns-in-Err
returns-in-Err c = λ inputs asked whole. memory_refused inputs ⊥ (Some asked) _ refl
