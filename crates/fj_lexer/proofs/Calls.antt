-- what stands first behind blanks and comments
use Rattle.std.proofs.Common.{◌≡◌, ℕ, ◌<◌, List, [], length, refl, ap, arith}
use Rattle.std.proofs.lemmas.Str.{length-le-encodes}
use Rattle.std.specs.Str.{chars}
use Rattle.cfj_words.specs.Lexemes.{Lexed, AtEnd, NoClose, blanks, Reached, Unclosed, skipped, lexeme_at, next_lexeme}
use Rattle.fj_lexer.specs.declared.lexeme.Piece.{Piece}
use Rattle.fj_lexer.specs.Kinds.{characters_of}
use Rattle.fj_lexer.specs.Pieces.{IsPiece}
use Rattle.fj_lexer.proofs.Parts.{whole}

pub reads : (cs from : List ℕ) (x : Lexed) → skipped blanks cs ≡ Reached from → lexeme_at from ≡ x → next_lexeme cs ≡ x
unfolding next_lexeme
reads cs from x e f = rw e f

pub opens : (cs from : List ℕ) → skipped blanks cs ≡ Unclosed from → next_lexeme cs ≡ NoClose from
unfolding next_lexeme
opens cs from e = rw e refl

pub empty : lexeme_at [] ≡ AtEnd
unfolding lexeme_at
empty = refl

pub filled : (text : List ℕ) (piece : Piece) → IsPiece text piece → 0 < length piece.text.now
filled text piece p =
    let some : 0 < length (characters_of p.lexeme) = (whole (chars text) p.lexeme (chars text) (chars piece.rest.now) p.found).filled in
    omega (arith, ap length p.bytes, length-le-encodes (characters_of p.lexeme))
