use Rattle.std.proofs.Common.{sym, ◌∙◌}
use Rattle.std.proofs.lemmas.Bool.{ltb-true}
use Rattle.cfj_words.proofs.AsciiWords.{starts_ascii}
use Rattle.fj_lexer.proofs.lexeme.begins_word.Goals as goal

pub returns-then-is_ascii : goal.returns-then-is_ascii
returns-then-is_ascii c = c.starts_ascii.ensures.value ∙ sym (starts_ascii c.args.first (ltb-true c.args.first 128 (sym c.if-is_ascii.ensures)))
