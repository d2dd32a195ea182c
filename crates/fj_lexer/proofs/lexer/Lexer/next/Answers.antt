use Rattle.std.proofs.Common.{◌≡◌, ◌+◌, ◌-◌, ◌<◌, [], length, refl, ap, ◌∙◌, Some, Err, rules, arith, length-append}
use Rattle.std.specs.Str.{chars, IsUtf8}
use Rattle.std.proofs.lemmas.Str.{chars-nil}
use Rattle.cfj_words.specs.Lexemes.{AtEnd, NoToken, Found, Reached}
use Rattle.fj_lexer.specs.declared.token.LexFault.TheVariants.{BadChar, OpenComment}
use Rattle.fj_lexer.specs.Ends.{IsEndOf}
use Rattle.fj_lexer.specs.Pieces.{IsPiece}
use Rattle.fj_lexer.proofs.Passing.{reached, unclosed}
use Rattle.fj_lexer.proofs.TextEnds.{seam, end_of_end, place, slice}
use Rattle.fj_lexer.proofs.Calls.{reads, opens, empty, filled}
use Rattle.fj_lexer.proofs.lexer.Lexer.next.Goals as goal

pub overflow_sub-at : goal.overflow_sub-at
overflow_sub-at c =
    let u : IsUtf8 c.args.self.now.rest.now = search rules in
    let inner = unclosed c.args.self.now.rest.now c.in-Err.open.now u c.in-Err.ensures in
    omega (arith, inner.within, c.args.self.now.end.within)

pub returns-in-Err-clause-given : goal.returns-in-Err-clause-given
returns-in-Err-clause-given c =
    rw (opens (chars c.args.self.now.rest.now) (chars c.in-Err.open.now) c.in-Err.ensures.unclosed) (record {
      given = ap (λ at. Some (Err (OpenComment at))) (place c.args.self.now.text.now c.in-Err.open.now c.in-Err.ensures.utf8);
      rest = refl;
    })

pub overflow_sub-at-2 : goal.overflow_sub-at-2
overflow_sub-at-2 c =
    let u : IsUtf8 c.args.self.now.rest.now = search rules in
    let inner : IsEndOf c.in-Ok.from.now c.args.self.now.rest.now = reached c.args.self.now.rest.now c.in-Ok.from.now u c.in-Ok.ensures in
    omega (arith, inner.within, c.args.self.now.end.within)

pub invariant_of-self-in-Some-first_piece : goal.invariant_of-self-in-Some-first_piece
invariant_of-self-in-Some-first_piece c =
    let u : IsUtf8 c.args.self.now.rest.now = search rules in
    let inner : IsEndOf c.in-Ok.from.now c.args.self.now.rest.now = reached c.args.self.now.rest.now c.in-Ok.from.now u c.in-Ok.ensures in
    let p : IsPiece c.in-Ok.from.now c.in-Some-first_piece.piece = c.in-Some-first_piece.ensures in
    let behind : IsEndOf c.in-Some-first_piece.piece.rest.now c.in-Ok.from.now =
    seam c.in-Ok.from.now c.in-Some-first_piece.piece.text.now c.in-Some-first_piece.piece.rest.now p.whole in
    record {
      end = end_of_end c.args.self.now.text.now c.in-Ok.from.now c.in-Some-first_piece.piece.rest.now
          (end_of_end c.args.self.now.text.now c.args.self.now.rest.now c.in-Ok.from.now c.args.self.now.end inner) behind;
    }

pub returns-in-Some-first_piece-clause-given : goal.returns-in-Some-first_piece-clause-given
returns-in-Some-first_piece-clause-given c =
    let u : IsUtf8 c.args.self.now.rest.now = search rules in
    let inner : IsEndOf c.in-Ok.from.now c.args.self.now.rest.now = reached c.args.self.now.rest.now c.in-Ok.from.now u c.in-Ok.ensures in
    let p : IsPiece c.in-Ok.from.now c.in-Some-first_piece.piece = c.in-Some-first_piece.ensures in
    let end : IsEndOf c.in-Ok.from.now c.args.self.now.text.now =
    end_of_end c.args.self.now.text.now c.args.self.now.rest.now c.in-Ok.from.now c.args.self.now.end inner in
    rw (reads (chars c.args.self.now.rest.now) (chars c.in-Ok.from.now) (Found p.lexeme (chars c.in-Ok.from.now) (chars c.in-Some-first_piece.piece.rest.now)) c.in-Ok.ensures.reached p.found) (record {
      token = record {
        kind = c.in-Some-first_piece.piece.kind;
        text = c.in-Some-first_piece.piece.text;
        at = length c.args.self.now.text.now - length c.in-Ok.from.now;
      };
      given = refl;
      is = record {
        kind = p.kind;
        bytes = p.bytes;
        place = place c.args.self.now.text.now c.in-Ok.from.now c.in-Ok.ensures.utf8;
        sliced = slice c.args.self.now.text.now c.in-Ok.from.now c.in-Some-first_piece.piece.text.now c.in-Some-first_piece.piece.rest.now end p.whole;
      };
      rest = refl;
    })

pub returns-in-Some-first_piece-clause-rises : goal.returns-in-Some-first_piece-clause-rises
returns-in-Some-first_piece-clause-rises c =
    let u : IsUtf8 c.args.self.now.rest.now = search rules in
    let inner : IsEndOf c.in-Ok.from.now c.args.self.now.rest.now = reached c.args.self.now.rest.now c.in-Ok.from.now u c.in-Ok.ensures in
    omega (arith, inner.within)

pub returns-in-Some-first_piece-clause-filled : goal.returns-in-Some-first_piece-clause-filled
returns-in-Some-first_piece-clause-filled c = filled c.in-Ok.from.now c.in-Some-first_piece.piece c.in-Some-first_piece.ensures

pub returns-in-Some-first_piece-clause-behind : goal.returns-in-Some-first_piece-clause-behind
returns-in-Some-first_piece-clause-behind c =
    let u : IsUtf8 c.args.self.now.rest.now = search rules in
    let inner : IsEndOf c.in-Ok.from.now c.args.self.now.rest.now = reached c.args.self.now.rest.now c.in-Ok.from.now u c.in-Ok.ensures in
    let p : IsPiece c.in-Ok.from.now c.in-Some-first_piece.piece = c.in-Some-first_piece.ensures in
    let sizes : length c.in-Ok.from.now ≡ length c.in-Some-first_piece.piece.text.now + length c.in-Some-first_piece.piece.rest.now =
    ap length p.whole ∙ length-append c.in-Some-first_piece.piece.text.now c.in-Some-first_piece.piece.rest.now in
    omega (arith, inner.within, c.args.self.now.end.within)

pub returns-in-Some-first_piece-clause-shorter : goal.returns-in-Some-first_piece-clause-shorter
returns-in-Some-first_piece-clause-shorter c =
    let u : IsUtf8 c.args.self.now.rest.now = search rules in
    let inner : IsEndOf c.in-Ok.from.now c.args.self.now.rest.now = reached c.args.self.now.rest.now c.in-Ok.from.now u c.in-Ok.ensures in
    let p : IsPiece c.in-Ok.from.now c.in-Some-first_piece.piece = c.in-Some-first_piece.ensures in
    let sizes : length c.in-Ok.from.now ≡ length c.in-Some-first_piece.piece.text.now + length c.in-Some-first_piece.piece.rest.now =
    ap length p.whole ∙ length-append c.in-Some-first_piece.piece.text.now c.in-Some-first_piece.piece.rest.now in
    let some : 0 < length c.in-Some-first_piece.piece.text.now = filled c.in-Ok.from.now c.in-Some-first_piece.piece p in
    omega (arith, inner.within)

pub returns-in-None-first_piece-clause-given : goal.returns-in-None-first_piece-clause-given
returns-in-None-first_piece-clause-given c =
    rw (reads (chars c.args.self.now.rest.now) (chars c.in-Ok.from.now) (NoToken (chars c.in-Ok.from.now)) c.in-Ok.ensures.reached c.in-None-first_piece.ensures) (record {
      given = ap (λ at. Some (Err (BadChar at))) (place c.args.self.now.text.now c.in-Ok.from.now c.in-Ok.ensures.utf8);
      rest = refl;
    })

pub returns-in-None-clause-given : goal.returns-in-None-clause-given
returns-in-None-clause-given c =
    let none : chars c.in-Ok.from.now ≡ [] = ap chars c.in-None.ensures ∙ chars-nil in
    rw (reads (chars c.args.self.now.rest.now) [] AtEnd (c.in-Ok.ensures.reached ∙ ap Reached none) empty) (record { given = refl; rest = refl })
