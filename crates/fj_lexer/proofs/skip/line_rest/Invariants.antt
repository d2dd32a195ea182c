use Rattle.std.proofs.Common.{◌≡◌, ◌≤◌, length}
use Rattle.std.specs.Str.{chars, IsUtf8}
use Rattle.cfj_words.specs.Lexemes.{skipped, line}
use Rattle.fj_lexer.proofs.skip.line_rest.Given as goal

abbrev pub invariant-line : goal.invariant-line
invariant-line l = record { utf8 : IsUtf8 l.rest; goes_on : skipped line (chars l.fn.text) ≡ skipped line (chars l.rest); within : length l.rest ≤ length l.fn.text }

abbrev pub decreases-line : goal.decreases-line
decreases-line l = length l.rest
