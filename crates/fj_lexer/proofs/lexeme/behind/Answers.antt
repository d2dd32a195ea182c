use Rattle.std.proofs.Common.{refl, rules}
use Rattle.std.proofs.lemmas.Str.{chars-nil}
use Rattle.fj_lexer.proofs.lexeme.behind.Goals.{in_default-via-in-Some+else-first-ch, in_default-via-in_default}
use Rattle.fj_lexer.proofs.lexeme.behind.Goals as goal

pub returns-in_default : goal.returns-in_default
returns-in_default c =
    elim c.in_default.branch [
      | in_default-via-in-Some+else-first-ch w ↦ rw w.in-Some.ensures.characters (search rules)
      | in_default-via-in_default w ↦ rw (w.in_default.ensures, chars-nil) refl
    ]
