-- a text with no bytes has no characters
use Rattle.std.proofs.lemmas.Str.{chars-nil}

pub ruleset no_characters = (chars-nil)
