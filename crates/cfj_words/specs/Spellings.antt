-- The bytes of a name's text, wherever they stand.
use Rattle.std.specs.Prelude.{ℕ, List}
use Rattle.std.specs.String.{string_bytes}
use Rattle.cfj_words.specs.declared.spelling.Spelling.{Spelling}
use Rattle.cfj_words.specs.declared.spelling.Spelling.TheVariants.{Short, Long}

abbrev pub spelling_bytes : Spelling → List ℕ
spelling_bytes (Short text) = text
spelling_bytes (Long text) = string_bytes text
