-- What the code says of its parts, in the words of the machine.
use Rattle.std.specs.Prelude.{◌≡◌, ℕ, Bool, true, false, not, nat_le, List, [], ◌∷◌, Option, Some, None}
use Rattle.cfj_words.specs.Tokens.{Token}
use Rattle.formula_reader.specs.declared.frame.Frame.{Frame}
use Rattle.formula_reader.specs.declared.mode.Mode.{Mode}
use Rattle.formula_reader.specs.Machine.{State, at, level, step}

-- the reader went on, or could not
abbrev pub Goes : List (List ℕ) → Bool → State → Token → State → Type 0
Goes features true old t new = step features old t ≡ Some new
Goes features false old t new = step features old t ≡ None

-- the state with these frames, where there is a mode
abbrev pub reached : List Frame → Option Mode → Option State
reached frames None = None
reached frames (Some mode) = Some (at frames mode)

-- no frame, or an innermost one that holds less tightly
abbrev pub is_open : ℕ → List Frame → Bool
is_open least [] = true
is_open least (fr ∷ frames) = not (nat_le least (level fr))
