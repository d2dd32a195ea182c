use Rattle.std.proofs.Common.{◌≡◌, length}
use Rattle.std.specs.Str.{chars, IsUtf8}
use Rattle.cfj_words.specs.Lexemes.{word_rest}
use Rattle.fj_lexer.proofs.lexeme.wide_word_rest.Given as goal

abbrev pub invariant-word : goal.invariant-word
invariant-word l = record { utf8 : IsUtf8 l.rest; rest : word_rest (chars l.rest) ≡ word_rest (chars l.fn.text) }

abbrev pub decreases-word : goal.decreases-word
decreases-word l = length l.rest
