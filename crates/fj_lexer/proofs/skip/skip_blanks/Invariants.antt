use Rattle.std.proofs.Common.{◌≡◌, length}
use Rattle.std.specs.Str.{chars, IsUtf8}
use Rattle.cfj_words.specs.Lexemes.{skipped, blanks}
use Rattle.fj_lexer.proofs.skip.skip_blanks.Given as goal

abbrev pub invariant-blanks : goal.invariant-blanks
invariant-blanks l = record { utf8 : IsUtf8 l.rest; goes_on : skipped blanks (chars l.fn.text) ≡ skipped blanks (chars l.rest) }

abbrev pub decreases-blanks : goal.decreases-blanks
decreases-blanks l = length l.rest
