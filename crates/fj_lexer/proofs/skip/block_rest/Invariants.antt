use Rattle.std.proofs.Common.{◌≡◌, ◌≤◌, length, ℕ, List}
use Rattle.std.specs.Str.{chars, IsUtf8}
use Rattle.cfj_words.specs.Lexemes.{skipped, block}
use Rattle.fj_lexer.specs.Skipping.{in_block}
use Rattle.fj_lexer.proofs.skip.block_rest.Given as goal

abbrev pub invariant-block : goal.invariant-block
invariant-block l = record {
  utf8 : IsUtf8 l.rest;
  goes_on : (from : List ℕ) → skipped (block from) (chars l.fn.text) ≡ skipped (in_block l.star from) (chars l.rest);
  within : length l.rest ≤ length l.fn.text;
}

abbrev pub decreases-block : goal.decreases-block
decreases-block l = length l.rest
