-- No public contract cites this: it serves the proofs.
-- What the layers below a reader of lines come to.
use Rattle.std.specs.Prelude.{◌≡◌, ℕ, ◌+◌, ◌<◌, ◌≤◌, List, ◌∷◌, ◌++◌, length, take, drop, false}
use Rattle.std.specs.Prelude.{Option, Some, None, Result, Ok, Err}
use Rattle.cide_io.specs.declared.faults.Failed.{Failed}
use Rattle.cide_io.specs.Known.{Known, preceded, IsAtEnd}
use Rattle.source_lines.specs.LineReads.{has_newline, IsNextLine, IsLong}
use Rattle.source_lines.specs.declared.reads.Found.{Found}
use Rattle.source_lines.specs.declared.reads.Found.TheVariants.{Line, TooLong, End, ReadFault}

-- the bytes of a window, the size of its buffer, and the room behind the bytes
pub record Buffered : Type 0 where
  pub bytes : List ℕ
  pub size : ℕ
  pub room : ℕ

-- A piece of a source came behind the bytes, or the source failed and gave none.
abbrev pub IsFilled : List ℕ → List ℕ → Known → Known → Result ℕ Failed → Type 0
IsFilled old new before after (Ok n) =
    (more : List ℕ) × (new ≡ old ++ more) × (length more ≡ n) × (before ≡ preceded more after)
    × (n ≡ 0 → IsAtEnd before)
IsFilled old new before after (Err e) = (new ≡ old) × (after ≡ before)

-- the place of the first newline, or none where there is none
abbrev pub IsNewline : List ℕ → Option ℕ → Type 0
IsNewline bytes None = has_newline bytes ≡ false
IsNewline bytes (Some end) =
    (end < length bytes) × (has_newline (take end bytes) ≡ false)
    × (bytes ≡ take end bytes ++ 10 ∷ drop (end + 1) bytes)

-- what was found in all that was left, of which these bytes are buffered
abbrev pub IsFound : Known → ℕ → List ℕ → Known → Found → Type 0
IsFound all limit bytes after (Line line passed) =
    (line ≤ passed) × (passed ≤ length bytes) × (line ≤ limit)
    × IsNextLine all (take line bytes) (preceded (drop passed bytes) after)
IsFound all limit bytes after TooLong = IsLong all limit
IsFound all limit bytes after End = IsAtEnd all
IsFound all limit bytes after ReadFault = Unit {0}
