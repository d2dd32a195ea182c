-- The lines of a service: what is written for data, and which data a line is.
use Rattle.std.specs.Prelude.{ℕ, List, [], ◌∷◌, ◌++◌, Bool, ◌==◌, Option, None, if◌then◌else◌}
use Rattle.std.specs.List.{list_any}
use Rattle.std.specs.Str.{is_utf8}
use Rattle.serde_json.specs.Data.{Data}
use Rattle.serde_json.specs.Read.{read}
use Rattle.serde_json.specs.Written.{compact_text}

-- a line feed stands among the bytes
abbrev pub has_newline : List ℕ → Bool
has_newline bytes = list_any (λ byte. byte == 10) bytes

-- the canonical text of the data, with a newline
abbrev pub line_text : Data → List ℕ
line_text d = compact_text d ++ 10 ∷ []

-- the data that a line is, without its newline: JSON is UTF-8 (RFC 8259, section 8.1)
abbrev pub data_of : List ℕ → Option Data
data_of line = if is_utf8 line then read line else None
