-- What a room tells of the objects that it opens and shuts.
use Rattle.std.specs.Prelude.{◌≡◌, ℕ, suc, zero, ◌<◌, ◌≤◌, List, [], ◌∷◌, ◌++◌, Option, Some, None}
use Rattle.cide_io.specs.Known.{Known}
use Rattle.cide_io.specs.Faults.{Rose}

-- an output that was shut: its name and what it held
pub record Shut : Type 0 where
  pub name : Known
  pub held : Known

-- A value is told exactly where the room tells its outputs.
abbrev pub told_as : Option (List Shut) → List ℕ → Known
told_as None bytes = None
told_as (Some shut) bytes = Some bytes

-- the outputs with one more at the end
abbrev pub with_shut : Option (List Shut) → Shut → Option (List Shut)
with_shut None one = None
with_shut (Some shut) one = Some (shut ++ one ∷ [])

-- where the number of open outputs is told, one is open
abbrev pub HasOpen : Option ℕ → Type 0
HasOpen None = Unit {0}
HasOpen (Some n) = 0 < n

-- A room counts a fault of its own exactly where the object that is handed back has counted one.
abbrev pub IsPassedOn : ℕ → ℕ → ℕ → Type 0
IsPassedOn zero old new = new ≡ old
IsPassedOn (suc n) old new = (old ≤ new) × Rose old new
