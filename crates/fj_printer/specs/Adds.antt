-- What each function of the printer does to a sink and to the bytes that wait in front of it.
use Rattle.std.specs.Prelude.{◌≡◌, ℕ, List, ◌++◌, Result, Ok, Err}
use Rattle.cide_io.specs.Faults.{HasCause}
use Rattle.cide_io.specs.Known.{Known, appended, IsCut}
use Rattle.cide_io.specs.declared.faults.Failed.{Failed}

-- a sink and the bytes that wait in front of it
pub record Outlet : Type 0 where
  pub held : Known
  pub name : Known
  pub faults : ℕ
  pub pending : List ℕ

abbrev pub outlet : {K : Type 0} → (K → Known) → (K → Known) → (K → ℕ) → K → List ℕ → Outlet
outlet held name faults sink pending =
    record { held = held sink; name = name sink; faults = faults sink; pending = pending }

-- The text went behind the bytes that waited, and some of all these, from the front, went to the sink.
pub record IsPassed (old new : Outlet) (text : List ℕ) : Type 0 where
  pub sent : List ℕ
  pub split : old.pending ++ text ≡ sent ++ new.pending
  pub gained : new.held ≡ appended old.held sent

-- All of the text was taken, or, after a failure, the sink got a proper prefix of the bytes that waited and the text.
abbrev pub IsCarried : Outlet → Outlet → List ℕ → Result Unit Failed → Type 0
IsCarried old new text (Ok u) = IsPassed old new text
IsCarried old new text (Err e) = IsCut old.held new.held (old.pending ++ text)

-- The text was added, the sink kept its name, and a failure comes only where its count of faults rose.
pub record Carries (old new : Outlet) (text : List ℕ) (result : Result Unit Failed) : Type 0 where
  pub taken : IsCarried old new text result
  pub named : new.name ≡ old.name
  pub cause : HasCause old.faults new.faults result

-- the same, of a sink and the bytes before the call, and of both after it
abbrev pub Adds : {K : Type 0} → (K → Known) → (K → Known) → (K → ℕ) → K → List ℕ → K → List ℕ → List ℕ → Result Unit Failed → Type 0
Adds held name faults old before new after text result =
    Carries (outlet held name faults old before) (outlet held name faults new after) text result
