use Rattle.std.proofs.lemmas.Bool.{and_parts}
use Rattle.clap.specs.Words.{app_of, is_simple}
use Rattle.command_words.proofs.line.matches_of.Goals as goal

pub returns-in-Ok-clause-rows : goal.returns-in-Ok-clause-rows
returns-in-Ok-clause-rows c =
    (c.in-Ok.ensures.matches (and_parts (is_simple (app_of c.args.command)) _ c.requires).0).0
