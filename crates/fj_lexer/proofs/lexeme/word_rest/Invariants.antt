use Rattle.std.proofs.Common.{◌≡◌, ◌≤◌, ◌-◌, length, drop}
use Rattle.std.specs.Str.{chars, IsUtf8}
use Rattle.cfj_words.specs.Lexemes.{word_rest}
use Rattle.fj_lexer.proofs.lexeme.word_rest.Given as goal

abbrev pub invariant-word : goal.invariant-word
invariant-word l = record {
  within : l.at ≤ length l.fn.text;
  utf8 : IsUtf8 (drop l.at l.fn.text);
  rest : word_rest (chars l.fn.text) ≡ word_rest (chars (drop l.at l.fn.text));
}

abbrev pub decreases-word : goal.decreases-word
decreases-word l = length l.fn.text - l.at
