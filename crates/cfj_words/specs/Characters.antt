-- A text as its characters.
use Rattle.std.specs.Prelude.{◌≡◌, ℕ, ◌<◌, List, ◌∷◌, ◌++◌, length, encode_utf8}
use Rattle.std.specs.Str.{chars, IsUtf8}

-- the text is this character and, behind it, this rest
pub record IsSplit (text : List ℕ) (first : ℕ) (rest : List ℕ) : Type 0 where
  pub bytes : text ≡ encode_utf8 first ++ rest
  pub characters : chars text ≡ first ∷ chars rest
  pub shorter : length rest < length text
  pub utf8 : IsUtf8 rest
