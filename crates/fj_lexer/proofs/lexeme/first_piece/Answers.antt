use Rattle.std.proofs.Common.{◌∷◌, refl, sym, ap, ◌∙◌}
use Rattle.std.specs.Str.{chars}
use Rattle.cfj_words.specs.Lexemes.{Word, Mark, word_run}
use Rattle.fj_lexer.specs.Kinds.{word_kind}
use Rattle.fj_lexer.proofs.Parts.{Stands, word, mark, stands_end, stands_bytes}
use Rattle.fj_lexer.proofs.lexeme.first_piece.Goals as goal

pub before-word-requires : goal.before-word-requires
before-word-requires c =
    stands_end _ _ _ (word c.args.text.now c.args.first c.args.after.now c.word_rest-rest.result.now c.utf8.text c.word_rest-rest.utf8 c.requires (sym c.begins_word.ensures ∙ c.if-begins_word.true) c.word_rest-rest.ensures)

pub returns-then-begins_word : goal.returns-then-begins_word
returns-then-begins_word c =
    let lexeme = Word (c.args.first ∷ word_run (chars c.args.after.now)) in
    let s : Stands c.args.text.now lexeme c.word_rest-rest.result.now = word c.args.text.now c.args.first c.args.after.now c.word_rest-rest.result.now c.utf8.text c.word_rest-rest.utf8 c.requires (sym c.begins_word.ensures ∙ c.if-begins_word.true) c.word_rest-rest.ensures in
    let b = stands_bytes c.args.text.now lexeme c.word_rest-rest.result.now c.before-word.result.now s c.before-word.ensures in
    record {
      lexeme = lexeme;
      found = s.found;
      kind = c.word_kind.ensures ∙ ap word_kind b;
      bytes = b;
      whole = c.before-word.ensures;
      utf8 = c.word_rest-rest.utf8;
    }

pub before-requires : goal.before-requires
before-requires c = stands_end _ _ _ (mark c.args.text.now c.args.first c.args.after.now c.in-Some.rest.now c.utf8.text c.requires c.in-Some.ensures)

pub returns-in-Some : goal.returns-in-Some
returns-in-Some c =
    let s : Stands c.args.text.now (Mark c.in-Some.ensures.mark) c.in-Some.rest.now = mark c.args.text.now c.args.first c.args.after.now c.in-Some.rest.now c.utf8.text c.requires c.in-Some.ensures in
    record {
      lexeme = Mark c.in-Some.ensures.mark;
      found = s.found;
      kind = refl;
      bytes = stands_bytes c.args.text.now (Mark c.in-Some.ensures.mark) c.in-Some.rest.now c.before-in-Some.result.now s c.before-in-Some.ensures;
      whole = c.before-in-Some.ensures;
      utf8 = s.utf8;
    }
