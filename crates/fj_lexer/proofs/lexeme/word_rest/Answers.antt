use Rattle.std.proofs.Common.{get_or, sym, ap, ◌∙◌}
use Rattle.std.specs.Str.{chars}
use Rattle.std.proofs.lemmas.Bool.{ltb-true}
use Rattle.std.proofs.lemmas.Str.{chars-nil, IsCharBoundary-from_drop}
use Rattle.fj_lexer.proofs.Ahead.{IsStep, step, word_step, word_end, word_none}
use Rattle.fj_lexer.proofs.lexeme.word_rest.Goals as goal

pub word-preserved : goal.word-preserved
word-preserved c =
    let byte = get_or c.as_bytes-bytes.result.now c.word.at 0 in
    let s : IsStep c.args.text.now c.word.at byte =
    step c.args.text.now c.as_bytes-bytes.result.now c.word.at c.as_bytes-bytes.ensures.value c.word-test.true c.word.invariant.utf8 c.if-not-continues_ascii.ensures.ascii in
    record {
      within = s.within;
      utf8 = s.utf8;
      rest = c.word.invariant.rest ∙ word_step c.args.text.now c.word.at byte s c.if-not-continues_ascii.ensures.ascii (sym c.if-not-continues_ascii.ensures.value);
    }

pub range_from-rest-requires : goal.range_from-rest-requires
range_from-rest-requires c = λ _. IsCharBoundary-from_drop c.args.text.now c.word.at c.word.invariant.within c.word.invariant.utf8

pub returns-then-is_ascii : goal.returns-then-is_ascii
returns-then-is_ascii c =
    let byte = get_or c.as_bytes-bytes.result.now c.word.at 0 in
    let ascii = ltb-true byte 128 (sym c.if-is_ascii.ensures) in
    let s : IsStep c.args.text.now c.word.at byte =
    step c.args.text.now c.as_bytes-bytes.result.now c.word.at c.as_bytes-bytes.ensures.value c.word-test.true c.word.invariant.utf8 ascii in
    ap chars c.range_from-rest.ensures.value
    ∙ sym (c.word.invariant.rest ∙ word_end c.args.text.now c.word.at byte s ascii (sym c.if-not-continues_ascii.ensures.value))

pub returns : goal.returns
returns c = chars-nil ∙ sym (c.word.invariant.rest ∙ word_none c.args.text.now c.as_bytes-bytes.result.now c.word.at c.as_bytes-bytes.ensures.value c.word-test.false)
