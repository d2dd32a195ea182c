use Rattle.std.proofs.Common.{rules}
use Rattle.std.proofs.lemmas.Str.{is_utf8-from_IsUtf8}
use Rattle.cfj_words.specs.Names.{is_identifier}
use Rattle.cfj_words.proofs.name.is_identifier.Goals as goal

pub returns-then-is_word : goal.returns-then-is_word
unfolding is_identifier
returns-then-is_word c = rw (is_utf8-from_IsUtf8 c.args.text.now c.utf8.text) (search rules)

pub returns-else-is_word : goal.returns-else-is_word
unfolding is_identifier
returns-else-is_word c = rw (is_utf8-from_IsUtf8 c.args.text.now c.utf8.text) (search rules)
