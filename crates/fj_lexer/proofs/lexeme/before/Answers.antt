use Rattle.std.proofs.Common.{◌-◌, length, sym, subst, arith}
use Rattle.std.proofs.lemmas.Str.{IsCharBoundary-from_drop}
use Rattle.std.specs.Str.{IsUtf8}
use Rattle.fj_lexer.proofs.lexeme.before.Goals as goal

pub split_at-requires : goal.split_at-requires
split_at-requires c = IsCharBoundary-from_drop c.args.text.now (length c.args.text.now - length c.args.rest.now) (omega arith) (subst IsUtf8 (sym c.requires.last) c.utf8.rest)
