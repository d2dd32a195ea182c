-- No public contract cites this: it serves the proofs.
-- Why a part of a request isn't read.
use Rattle.std.specs.Prelude.{◌≡◌, ℕ, List}
use Rattle.serde_json.specs.Data.{Data}
use Rattle.session_requests.specs.BadLines.{IsBad}
use Rattle.session_requests.specs.Fields.{IsFirstWrong}
use Rattle.session_requests.specs.declared.bad_line.BadLine.TheVariants.{WrongField, ExtraField}
use Rattle.session_requests.specs.declared.field.Field.{Field}
use Rattle.session_requests.specs.declared.unread.Unread.{Unread}
use Rattle.session_requests.specs.declared.unread.Unread.TheVariants.{Bad, NoMemory}

-- memory aside, the field isn't right: it can't be so
abbrev pub IsWrong : Field → Type 0 → Unread → Type 0
IsWrong f IsRight (Bad bad) = (bad ≡ WrongField f) × (IsRight → ⊥)
IsWrong f IsRight NoMemory = Unit {0}

-- memory aside, one of the fields is the first that isn't right
abbrev pub IsWrongAmong : List Field → Data → Unread → Type 0
IsWrongAmong fs d (Bad bad) = (f : Field) × (bad ≡ WrongField f) × IsFirstWrong fs d f
IsWrongAmong fs d NoMemory = Unit {0}

-- memory aside, the data is no request
abbrev pub IsRefused : Data → Unread → Type 0
IsRefused d (Bad bad) = IsBad d bad
IsRefused d NoMemory = Unit {0}

-- memory aside, this key is one too many
abbrev pub IsExtra : List ℕ → Unread → Type 0
IsExtra k (Bad bad) = bad ≡ ExtraField k
IsExtra k NoMemory = Unit {0}
