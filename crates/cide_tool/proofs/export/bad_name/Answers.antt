use Rattle.std.proofs.Common.{Some, refl, ap, ◌∙◌}
use Rattle.std.specs.String.{string_bytes}
use Rattle.command_words.specs.Asked.{Asked}
use Rattle.cide_tool.specs.Endings.{Ends}
use Rattle.cide_tool.specs.Lines.{names_line}
use Rattle.cide_tool.specs.NamedParts.{named_parts}
use Rattle.cide_tool.proofs.Runs.{ending_refused, memory_refused}
use Rattle.cide_tool.proofs.export.bad_name.Goals as goal

pub returns-in-Ok : goal.returns-in-Ok
returns-in-Ok c = λ inputs name names line stands parts first.
    ending_refused inputs ⊥ (Some (Asked.export name names)) 3 (names_line (named_parts names) c.args.fault) (string_bytes c.in-Ok.line)
    (Ends.bad_name name names line c.args.fault stands first) (c.in-Ok.ensures ∙ ap (λ texts. names_line texts c.args.fault) parts)

pub returns-in-Err : goal.returns-in-Err
returns-in-Err c = λ inputs name names line stands parts first. memory_refused inputs ⊥ (Some (Asked.export name names)) _ refl
