-- What is known of the bytes behind a source, a sink or a name: `None` where the object leaves them untold.
use Rattle.std.specs.Prelude.{Vec, ◌≡◌, ℕ, ◌<◌, ◌≤◌, List, [], ◌++◌, length, take, Option, Some, None, Result, Ok, Err}
use Rattle.std.specs.declared.alloc.Global.{Global}
use Rattle.cide_io.specs.declared.faults.Failed.{Failed}
use Rattle.cide_io.specs.declared.faults.ReadAll.{ReadAll}
use Rattle.cide_io.specs.declared.faults.ReadAll.TheVariants.{TooLong}

-- known bytes, or none that are told
abbrev pub Known : Type 0
Known = Option (List ℕ)

-- the known bytes, and more behind them
abbrev pub appended : Known → List ℕ → Known
appended None more = None
appended (Some bytes) more = Some (bytes ++ more)

-- the known bytes, and others in front of them
abbrev pub preceded : List ℕ → Known → Known
preceded front None = None
preceded front (Some bytes) = Some (front ++ bytes)

-- nothing is left, as far as it is told
abbrev pub IsAtEnd : Known → Type 0
IsAtEnd None = Unit {0}
IsAtEnd (Some bytes) = bytes ≡ []

-- A source gave the next bytes of what it had left, or failed and gave none. Only at its end does it give no byte.
abbrev pub IsTaken : Known → Known → List ℕ → Result ℕ Failed → Type 0
IsTaken old new into (Ok n) = (old ≡ preceded (take n into) new) × (n ≡ 0 → IsAtEnd old)
IsTaken old new into (Err e) = new ≡ old

-- A sink took the first bytes of a piece, or failed and took none.
abbrev pub IsPut : Known → Known → List ℕ → Result ℕ Failed → Type 0
IsPut old new piece (Ok n) = new ≡ appended old (take n piece)
IsPut old new piece (Err e) = new ≡ old

-- A proper prefix of the text was added.
pub record IsCut (old new : Known) (text : List ℕ) : Type 0 where
  pub front : List ℕ
  pub back : List ℕ
  pub proper : 0 < length back
  pub split : text ≡ front ++ back
  pub gained : new ≡ appended old front

-- All of the text was added, or, after a failure, a proper prefix of it.
abbrev pub IsAdded : Known → Known → List ℕ → Result Unit Failed → Type 0
IsAdded old new text (Ok u) = new ≡ appended old text
IsAdded old new text (Err e) = IsCut old new text

-- How far a source was read, up to a limit: to its end within it; past it; or to a fault or want of memory within it.
abbrev pub IsReadAll : ℕ → Known → Known → Result (Vec ℕ Global) ReadAll → Type 0
IsReadAll limit old new (Ok all) = (old ≡ preceded all.items new) × IsAtEnd new × (length all.items ≤ limit)
IsReadAll limit old new (Err TooLong) = (came : List ℕ) × (old ≡ preceded came new) × (limit < length came)
IsReadAll limit old new (Err _) = (came : List ℕ) × (old ≡ preceded came new) × (length came ≤ limit)
