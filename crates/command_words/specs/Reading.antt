-- How what was read of the words shows what they ask.
use Rattle.std.specs.Prelude.{◌≡◌, ◌≤◌, List, map, Option, Some, None, Result, Ok, Err, String}
use Rattle.std.specs.String.{string_bytes}
use Rattle.std.specs.declared.alloc.Global.{Global}
use Rattle.clap.specs.Words.{Text}
use Rattle.command_words.specs.Asked.{Asked, check, export, migrate}
use Rattle.command_words.specs.declared.asked.Asked.{Asked as Read}
use Rattle.command_words.specs.declared.asked.Asked.TheVariants as read
use Rattle.command_words.specs.declared.asked.WordsFault.{WordsFault}
use Rattle.command_words.specs.declared.asked.WordsFault.TheVariants as fault

-- The texts of the words.
abbrev pub texts : List (String Global) → List Text
texts words = map string_bytes words

-- What was read, as what the words ask.
abbrev pub seen : Read → Asked
seen (read.Check project budget) = check project.now budget
seen (read.Migrate project) = migrate project.now
seen (read.Export project names) = export project.now names.now

-- The budget of what was read is in its range.
abbrev pub IsBounded : Read → Type 0
IsBounded (read.Check project budget) = (1 ≤ budget) × (budget ≤ 20000)
IsBounded (read.Migrate project) = Unit {0}
IsBounded (read.Export project names) = Unit {0}

-- What was read is what is asked, within bounds; nothing is asked where the words aren't a command's. Want of memory says
-- nothing of the words.
abbrev pub IsAnswer : Option Asked → Result Read WordsFault → Type 0
IsAnswer asks (Ok found) = (asks ≡ Some (seen found)) × IsBounded found
IsAnswer asks (Err fault.NoCommand) = asks ≡ None
IsAnswer asks (Err fault.NoMemory) = Unit {0}
