use Rattle.std.proofs.Common.{◌≤◌, length, get_or, drop, sym, subst, arith}
use Rattle.std.proofs.lemmas.Bool.{ltb-true, ltb-false, eqb-true, eqb-false}
use Rattle.std.proofs.lemmas.Str.{IsCharBoundary-from_drop}
use Rattle.cfj_words.specs.Characters.{IsSplit}
use Rattle.fj_lexer.proofs.Ahead.{split}
use Rattle.fj_lexer.proofs.Wide.{begins, empty}
use Rattle.fj_lexer.proofs.ascii.split_ascii.Goals as goal

pub returns-then-is_empty : goal.returns-then-is_empty
returns-then-is_empty c = empty c.args.text.now c.as_bytes-bytes.result.now c.as_bytes-bytes.ensures.value (eqb-true (length c.as_bytes-bytes.result.now) 0 (sym c.if-is_empty.ensures))

pub returns-then-not-is_ascii : goal.returns-then-not-is_ascii
returns-then-not-is_ascii c =
    let wide : 128 ≤ get_or c.as_bytes-bytes.result.now 0 0 = ltb-false (get_or c.as_bytes-bytes.result.now 0 0) 128 (sym c.if-not-is_ascii.ensures) in
    let wide_too : 128 ≤ get_or c.args.text.now 0 0 = subst (λ bs. 128 ≤ get_or bs 0 0) c.as_bytes-bytes.ensures.value wide in
    begins c.args.text.now c.utf8.text (λ ascii. omega arith)

pub range_from-requires : goal.range_from-requires
range_from-requires c =
    let s : IsSplit c.args.text.now (get_or c.as_bytes-bytes.result.now 0 0) (drop 1 c.args.text.now) =
    split c.args.text.now c.as_bytes-bytes.result.now c.as_bytes-bytes.ensures.value c.utf8.text
    (let filled = eqb-false (length c.as_bytes-bytes.result.now) 0 (sym c.if-is_empty.ensures) in omega (arith, filled))
    (ltb-true (get_or c.as_bytes-bytes.result.now 0 0) 128 (sym c.if-not-is_ascii.ensures)) in
    λ _. IsCharBoundary-from_drop c.args.text.now 1 (let less = s.shorter in omega arith) s.utf8

pub returns : goal.returns
returns c =
    subst (λ rest. IsSplit c.args.text.now (get_or c.as_bytes-bytes.result.now 0 0) rest) (sym c.range_from.ensures.value)
    (split c.args.text.now c.as_bytes-bytes.result.now c.as_bytes-bytes.ensures.value c.utf8.text
    (let filled = eqb-false (length c.as_bytes-bytes.result.now) 0 (sym c.if-is_empty.ensures) in omega (arith, filled))
    (ltb-true (get_or c.as_bytes-bytes.result.now 0 0) 128 (sym c.if-not-is_ascii.ensures)))
