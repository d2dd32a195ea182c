-- How a run ends: each status with its cause, what standard output gains, and the line on standard error.
use Rattle.std.specs.Prelude.{ℕ, List, [], Option, Some, None, Result, Ok, Err}
use Rattle.cfj_model.specs.declared.fault.FaultKind.{FaultKind}
use Rattle.cfj_model.specs.Print.{printed}
use Rattle.cfj_model.specs.ProductLines.{ProductLine, in_format_two}
use Rattle.cfj_logic.specs.Selections.{Chosen}
use Rattle.cfj_logic.specs.Validity.{IsValid, IsFirstFalse}
use Rattle.cide_io.specs.declared.faults.Failed.{Failed}
use Rattle.cide_io.specs.Known.{Known}
use Rattle.command_words.specs.Asked.{Asked}
use Rattle.feature_model.specs.declared.names.NameFault.{NameFault}
use Rattle.feature_model.specs.NamedSelections.{IsSpelled, IsFirstBad}
use Rattle.unit_facts.specs.Findings.{findings}
use Rattle.unit_facts.specs.declared.entry.Entry.{Entry}
use Rattle.unit_facts.specs.declared.entry.Verdict.{Verdict}
use Rattle.variant_export.specs.Exports.{variant_text}
use Rattle.cide_tool.specs.Checks.{IsFound, findings_status}
use Rattle.cide_tool.specs.Lines.{fault_line, names_line, usage_line, read_fault_line, write_fault_line, no_memory_line, invalid_line, limit_line}
use Rattle.cide_tool.specs.NamedParts.{named_parts}
use Rattle.cide_tool.specs.ProjectTexts.{StandsFor, HasFirstFault, IsTooLong}

-- a status, what standard output gains, and the line on standard error
pub record Ending : Type 0 where
  pub status : ℕ
  pub output : List ℕ
  pub line : List ℕ

-- A command that is done says nothing on standard error.
abbrev pub done : ℕ → List ℕ → Ending
done status output = record { status = status; output = output; line = [] }

-- A refusal puts nothing out.
abbrev pub refused : ℕ → List ℕ → Ending
refused status line = record { status = status; output = []; line = line }

-- the name of the project that a command reads
abbrev pub project_of : Asked → List ℕ
project_of (Asked.check project budget) = project
project_of (Asked.migrate project) = project
project_of (Asked.export project names) = project

-- The ways to end for which the words and the inputs are the cause, by their statuses. All but `checked` say one
-- thing of the words and of a text; a check may leave open what its budget doesn't decide.
pub data Ends (inputs : List ℕ → Known) : Option Asked → Ending → Type 0 where
  -- 0: the variant is printed, whose selection the names spell and is valid
  exported : (name names : List ℕ) (line : ProductLine) (s : Chosen)
      → StandsFor (inputs name) line → IsSpelled line.model.features (named_parts names) s
      → IsValid line.model.constraints s
      → Ends inputs (Some (Asked.export name names)) (done 0 (variant_text line s))
  -- 0: the project is printed as one of format two
  migrated : (name : List ℕ) (line : ProductLine)
      → StandsFor (inputs name) line
      → Ends inputs (Some (Asked.migrate name)) (done 0 (printed (in_format_two line)))
  -- 0, 1 or 2: the findings are printed
  checked : (name : List ℕ) (budget : ℕ) (line : ProductLine) (v : Verdict) (es : List Entry)
      → StandsFor (inputs name) line → IsFound line budget v es
      → Ends inputs (Some (Asked.check name budget)) (done (findings_status v es) (findings line.model.features v es))
  -- 3: the project's text breaks the grammar, a rule of names or a limit; this is its first fault
  no_text : (a : Asked) (at : ℕ) (kind : FaultKind)
      → HasFirstFault (inputs (project_of a)) at kind
      → Ends inputs (Some a) (refused 3 (fault_line at kind))
  -- 3: a name is no feature, or was named before
  bad_name : (name names : List ℕ) (line : ProductLine) (fault : NameFault)
      → StandsFor (inputs name) line → IsFirstBad line.model.features (named_parts names) fault
      → Ends inputs (Some (Asked.export name names)) (refused 3 (names_line (named_parts names) fault))
  -- 4: the words are no command's
  usage : Ends inputs None (refused 4 usage_line)
  -- 8: a constraint is false under the selection; this one is the first
  invalid : (name names : List ℕ) (line : ProductLine) (s : Chosen) (at : ℕ)
      → StandsFor (inputs name) line → IsSpelled line.model.features (named_parts names) s
      → IsFirstFalse line.model.constraints s at
      → Ends inputs (Some (Asked.export name names)) (refused 8 (invalid_line at))
  -- 11: the project's text has too many bytes
  too_long : (a : Asked)
      → IsTooLong (inputs (project_of a))
      → Ends inputs (Some a) (refused 11 limit_line)

-- A run of what the words ask gave a status: it came to one of these ends, or was cut short. `ReadFails` says that
-- the room counted a read fault, `Puts output result` that standard output gained this or, after a failure, a proper
-- prefix of it, and `Says line` that standard error was given this line.
pub data IsRun (inputs : List ℕ → Known) (ReadFails : Type 0) (Puts : List ℕ → Result Unit Failed → Type 0)
    (Says : List ℕ → Type 0) : Option Asked → ℕ → Type 0 where
  -- The run came to one of these ends.
  ended : (asks : Option Asked) (e : Ending) → Ends inputs asks e → Puts e.output (Ok tt) → Says e.line
      → IsRun inputs ReadFails Puts Says asks e.status
  -- 5: the room counted a read fault, as it does where the project can't be opened or read; nothing is put out
  read_fault : (a : Asked) → ReadFails → Puts [] (Ok tt) → Says read_fault_line
      → IsRun inputs ReadFails Puts Says (Some a) 5
  -- 6: the output can't be written: a proper prefix of what such an end puts out is put out, so it is an end that
  -- has some
  write_fault : (asks : Option Asked) (e : Ending) (fault : Failed) → Ends inputs asks e → Puts e.output (Err fault)
      → Says write_fault_line → IsRun inputs ReadFails Puts Says asks 6
  -- 7: there is no memory, for which no contract can name a cause; nothing is put out
  no_memory : (asks : Option Asked) → Puts [] (Ok tt) → Says no_memory_line
      → IsRun inputs ReadFails Puts Says asks 7
