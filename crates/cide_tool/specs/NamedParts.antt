-- What a word names.
use Rattle.std.specs.Prelude.{ℕ, ◌==◌, if◌then◌else◌, List, [], codes}
use Rattle.std.specs.List.{slice_split}
use Rattle.std.specs.Str.{bytes_eq}

-- the texts between the commas of a word; `.` has none
abbrev pub named_parts : List ℕ → List (List ℕ)
named_parts word = if bytes_eq word (codes ".") then [] else slice_split (λ b. b == 44) word
