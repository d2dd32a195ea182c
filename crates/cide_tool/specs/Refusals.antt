-- No public contract cites this: it serves the proofs.
-- What a command answers, as the end that it comes to.
use Rattle.std.specs.Prelude.{Vec, ◌≡◌, ℕ, List, [], Option, Result, Ok, Err}
use Rattle.std.specs.String.{string_bytes}
use Rattle.std.specs.declared.alloc.Global.{Global}
use Rattle.cide_io.specs.declared.faults.Failed.{Failed}
use Rattle.cide_io.specs.declared.faults.ReadAll.{ReadAll}
use Rattle.cide_io.specs.declared.faults.ReadAll.TheVariants.{TooLong, ReadFault, NoMemory}
use Rattle.cide_io.specs.Known.{Known}
use Rattle.cide_tool.specs.declared.refusal.Refusal.{Refusal}
use Rattle.cide_tool.specs.declared.refusal.Refusal.TheVariants as refusal
use Rattle.command_words.specs.Asked.{Asked}
use Rattle.command_words.specs.declared.asked.WordsFault.{WordsFault}
use Rattle.command_words.specs.declared.asked.WordsFault.TheVariants as words
use Rattle.cide_tool.specs.Endings.{IsRun}
use Rattle.cide_tool.specs.Lines.{usage_line, read_fault_line, write_fault_line, no_memory_line, limit_line}
use Rattle.cide_tool.specs.ProjectTexts.{IsProjectText, IsTooLong}

-- the status of a refusal
abbrev pub status_of : Refusal → ℕ
status_of (refusal.NoText line) = 3
status_of (refusal.BadName line) = 3
status_of refusal.Usage = 4
status_of refusal.ReadFault = 5
status_of refusal.WriteFault = 6
status_of refusal.NoMemory = 7
status_of (refusal.Invalid line) = 8
status_of refusal.TooLong = 11

-- and its line
abbrev pub line_of : Refusal → List ℕ
line_of (refusal.NoText line) = string_bytes line
line_of (refusal.BadName line) = string_bytes line
line_of refusal.Usage = usage_line
line_of refusal.ReadFault = read_fault_line
line_of refusal.WriteFault = write_fault_line
line_of refusal.NoMemory = no_memory_line
line_of (refusal.Invalid line) = string_bytes line
line_of refusal.TooLong = limit_line

-- why an input wasn't read, and why words weren't, as refusals
abbrev pub unread : ReadAll → Refusal
unread TooLong = refusal.TooLong
unread ReadFault = refusal.ReadFault
unread NoMemory = refusal.NoMemory

abbrev pub unasked : WordsFault → Refusal
unasked words.NoCommand = refusal.Usage
unasked words.NoMemory = refusal.NoMemory

-- nothing is put out
abbrev pub PutsNothing : List ℕ → Result Unit Failed → Type 0
PutsNothing output result = (output ≡ []) × (result ≡ Ok tt)

-- A refusal that comes before anything is put out tells how the run ends.
abbrev pub IsRefusal : (List ℕ → Known) → Type 0 → Option Asked → Refusal → Type 0
IsRefusal inputs ReadFails asks r = IsRun inputs ReadFails PutsNothing (λ line. line ≡ line_of r) asks (status_of r)

-- A command's answer tells how the run ends: with a status and no line, or with a refusal.
abbrev pub IsAnswer : (List ℕ → Known) → Type 0 → (List ℕ → Result Unit Failed → Type 0) → Option Asked
    → Result ℕ Refusal → Type 0
IsAnswer inputs ReadFails Puts asks (Ok status) = IsRun inputs ReadFails Puts (λ line. line ≡ []) asks status
IsAnswer inputs ReadFails Puts asks (Err r) = IsRun inputs ReadFails Puts (λ line. line ≡ line_of r) asks (status_of r)

-- Of an input all was read, within the limit, or more than the limit came.
abbrev pub IsInput : Known → Result (Vec ℕ Global) ReadAll → Type 0
IsInput input (Ok text) = IsProjectText input text.items
IsInput input (Err TooLong) = IsTooLong input
IsInput input (Err _) = Unit {0}
