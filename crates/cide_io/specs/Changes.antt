-- What calls change of a sink and of a room.
use Rattle.std.specs.Prelude.{◌≡◌, ◌≤◌, List, ℕ, Result}
use Rattle.cide_io.specs.declared.faults.Failed.{Failed}
use Rattle.cide_io.specs.declared.rooms.Room as room
use Rattle.cide_io.specs.declared.sinks.Sink as sink
use Rattle.cide_io.specs.Faults.{HasCause}
use Rattle.cide_io.specs.Known.{IsAdded}

-- The sink gained a text: all of it, or, after a failure, a proper prefix of it. It kept its name, its count of faults didn't fall, and
-- a failure comes only where that count rose.
pub record Gains {K : Type 0} (k : sink.Ghosts K) (old new : K) (text : List ℕ) (result : Result Unit Failed)
    : Type 0 where
  pub added : IsAdded (k.held old) (k.held new) text result
  pub named : k.name new ≡ k.name old
  pub cause : HasCause (k.faults old) (k.faults new) result

-- The sink was given a text, and gained it, or a proper prefix of it where it failed.
abbrev pub IsGiven : {K : Type 0} → sink.Ghosts K → K → K → List ℕ → Type 0
IsGiven k old new text = (result : Result Unit Failed) × Gains k old new text result

-- Nothing of the room changed but its count of read faults, which didn't fall.
pub record OnlyReads {R I O : Type 0} (r : room.Ghosts R I O) (old new : R) : Type 0 where
  pub read_faults : r.read_faults old ≤ r.read_faults new
  pub inputs : (name : List ℕ) → r.input new name ≡ r.input old name
  pub shut_outputs : r.shut_outputs new ≡ r.shut_outputs old
  pub open_outputs : r.open_outputs new ≡ r.open_outputs old
  pub write_faults : r.write_faults new ≡ r.write_faults old
