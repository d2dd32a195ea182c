-- What the parser answers.
use Rattle.std.specs.Prelude.{◌≡◌, ℕ, Result, Ok, Err}
use Rattle.cfj_model.specs.declared.fault.FaultKind.{FaultKind}
use Rattle.cfj_model.specs.declared.fault.ParseFault.{ParseFault}
use Rattle.cfj_model.specs.declared.fault.ParseFault.TheVariants.{At, NoMemory}

-- This value is what was read, unless there was no memory.
abbrev pub IsReadAs : {V : Type 0} → V → Result V ParseFault → Type 0
IsReadAs value (Ok read) = read ≡ value
IsReadAs value (Err NoMemory) = Unit {0}
IsReadAs value (Err (At at kind)) = ⊥

-- Something was read, unless there was no memory.
abbrev pub IsRead : {V : Type 0} → Result V ParseFault → Type 0
IsRead (Ok read) = Unit {0}
IsRead (Err NoMemory) = Unit {0}
IsRead (Err (At at kind)) = ⊥

-- This fault at this place is told, unless there was no memory.
abbrev pub IsRefusedAs : {V : Type 0} → ℕ → FaultKind → Result V ParseFault → Type 0
IsRefusedAs at kind (Ok read) = ⊥
IsRefusedAs at kind (Err NoMemory) = Unit {0}
IsRefusedAs at kind (Err (At place found)) = (place ≡ at) × (found ≡ kind)
