use Rattle.std.proofs.Common.{rules}
use Rattle.std.proofs.lemmas.Str.{chars-nil}
use Rattle.cfj_words.proofs.name.is_word.Goals as goal

pub returns-then-starts_word : goal.returns-then-starts_word
returns-then-starts_word c = rw c.in-Some.ensures.characters (search rules)

pub returns-else-starts_word : goal.returns-else-starts_word
returns-else-starts_word c = rw c.in-Some.ensures.characters (search rules)

pub returns-in-None : goal.returns-in-None
returns-in-None c = rw (c.in-None.ensures, chars-nil) (search rules)
