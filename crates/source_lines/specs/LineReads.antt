-- Which line comes next.
use Rattle.std.specs.Prelude.{◌≡◌, ◌⊎◌, ℕ, ◌<◌, ◌≤◌, List, [], ◌∷◌, ◌++◌, length, Bool, false, ◌==◌, Option, Some, None}
use Rattle.std.specs.List.{list_any}
use Rattle.cide_io.specs.Faults.{Rose}
use Rattle.cide_io.specs.Known.{Known, preceded, IsAtEnd}
use Rattle.source_lines.specs.Readers.{Reader}
use Rattle.source_lines.specs.declared.reads.Read.{Read}
use Rattle.source_lines.specs.declared.reads.Read.TheVariants.{Line, TooLong, End, ReadFault}

-- a line feed stands among the bytes
abbrev pub has_newline : List ℕ → Bool
has_newline bytes = list_any (λ byte. byte == 10) bytes

-- The line stood in front, with a newline behind it; or it is the end of the input, without one, and has a byte.
abbrev pub IsNextLine : Known → List ℕ → Known → Type 0
IsNextLine old line new =
    (has_newline line ≡ false)
    × ((old ≡ preceded (line ++ 10 ∷ []) new) ⊎ ((old ≡ preceded line new) × IsAtEnd new × (0 < length line)))

-- More bytes than the limit stand in front with no newline among them.
abbrev pub IsLong : Known → ℕ → Type 0
IsLong old limit =
    (front : List ℕ) × (rest : Known) × (old ≡ preceded front rest)
    × (has_newline front ≡ false) × (limit < length front)

-- What a read comes to where no answer stays.
abbrev pub Goes : Reader → Read → Reader → Type 0
Goes old Line new = IsNextLine old.left new.line new.left × (length new.line ≤ old.limit) × (new.stays ≡ None)
Goes old TooLong new = IsLong old.left old.limit × (new.left ≡ old.left) × (new.stays ≡ Some TooLong)
Goes old End new = IsAtEnd old.left × (new.left ≡ old.left) × (new.stays ≡ None)
Goes old ReadFault new = Rose old.faults new.faults × (new.left ≡ old.left) × (new.stays ≡ Some ReadFault)

-- What a read comes to: the answer that stays, and nothing changes then, or a new one.
abbrev pub Advances : Option Read → Reader → Read → Reader → Type 0
Advances None old read new = Goes old read new
Advances (Some stays) old read new = (read ≡ stays) × (new ≡ old)

-- What is left is what is left here, behind some bytes.
abbrev pub IsBehind : Known → Known → Type 0
IsBehind old new = (came : List ℕ) × (old ≡ preceded came new)
