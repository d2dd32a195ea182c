-- The memory objects: what they hold, and which of their calls fail.
use Rattle.std.specs.Prelude.{ℕ, zero, suc, ◌==◌, Bool, List, [], ◌∷◌, Option, Some, None, option_map, map, if◌then◌else◌}
use Rattle.std.specs.List.{list_any}
use Rattle.std.specs.Str.{bytes_eq}
use Rattle.std.specs.Prelude.{String}
use Rattle.std.specs.String.{string_bytes}
use Rattle.std.specs.declared.alloc.Global.{Global}
use Rattle.cide_io.specs.Known.{Known}
use Rattle.cide_io.specs.Faults.{raised}
use Rattle.cide_io.specs.Rooms.{Shut}

-- a memory source: the bytes that are left, the numbers of the calls that fail, and how many calls and faults there were
pub record MemoryInput : Type 0 where
  pub left : List ℕ
  pub fails : List ℕ
  pub calls : ℕ
  pub faults : ℕ

-- a memory sink: its bytes, its name, the numbers of the calls that fail, and how many calls and faults there were
pub record MemoryOutput : Type 0 where
  pub held : List ℕ
  pub name : Known
  pub fails : List ℕ
  pub calls : ℕ
  pub faults : ℕ

-- A memory room: the inputs and outputs that it can open and the outputs that were shut, each with its name; the numbers of
-- the opens that fail; and how many opens, open outputs and faults there were.
pub record MemoryRoom : Type 0 where
  pub inputs : List (List ℕ × MemoryInput)
  pub outs : List (List ℕ × MemoryOutput)
  pub shut : List Shut
  pub fails : List ℕ
  pub opens : ℕ
  pub open_outs : ℕ
  pub read_faults : ℕ
  pub write_faults : ℕ

-- whether a call of this number is to fail
abbrev pub is_listed : List ℕ → ℕ → Bool
is_listed fails call = list_any (λ number. number == call) fails

-- pairs with their names as bytes
abbrev pub named : {X : Type 0} → List (String Global × X) → List (List ℕ × X)
named pairs = map (λ pair. (string_bytes pair.0, pair.1)) pairs

-- the first object of this name
abbrev pub look_up : {X : Type 0} → List (List ℕ × X) → List ℕ → Option X
look_up [] name = None
look_up (pair ∷ pairs) name = if bytes_eq pair.0 name then Some pair.1 else look_up pairs name

-- a copy of a source, with no call made and no fault
abbrev pub fresh_input : MemoryInput → MemoryInput
fresh_input source = record { left = source.left; fails = source.fails; calls = 0; faults = 0 }

-- an output with the failing calls of a sink: empty, with no call made and no fault
abbrev pub fresh_output : MemoryOutput → List ℕ → MemoryOutput
fresh_output sink name = record { held = []; name = Some name; fails = sink.fails; calls = 0; faults = 0 }

-- what a room tells of a sink that was shut, which stands beside its name where it had one
abbrev pub shut_as : String Global × MemoryOutput → Shut
shut_as pair = record { name = option_map (λ _. string_bytes pair.0) pair.1.name; held = Some pair.1.held }

abbrev pub shut_list : List (String Global × MemoryOutput) → List Shut
shut_list pairs = map shut_as pairs

-- the object that an open gives: none where the open is to fail or there is no such name
abbrev pub opened : {X : Type 0} → List ℕ → ℕ → List (List ℕ × X) → List ℕ → Option X
opened fails opens pairs name = if is_listed fails opens then None else look_up pairs name

-- the count of a room after an object with so many faults was handed back
abbrev pub passed_on : ℕ → ℕ → ℕ
passed_on zero count = count
passed_on (suc faults) count = raised count
