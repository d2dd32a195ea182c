-- What a read of a slice says of the data that a line is.
use Rattle.std.proofs.Common.{◌≡◌, ℕ, List, Bool, true, false, Some, None, refl, sym, ap, ◌∙◌, IsUtf8, if◌then◌else◌}
use Rattle.std.specs.Str.{is_utf8}
use Rattle.std.proofs.lemmas.Str.{IsUtf8-from_is_utf8, is_utf8-from_IsUtf8}
use Rattle.serde_json.specs.Data.{Data}
use Rattle.serde_json.specs.Read.{read}
use Rattle.json_lines.specs.LineTexts.{data_of}

pub data_of-read : (line : List ℕ) (d : Data) → IsUtf8 line → read line ≡ Some d → Some d ≡ data_of line
data_of-read line d u e = sym (ap (λ b. if b then read line else None) (is_utf8-from_IsUtf8 line u) ∙ e)

none_either : (b : Bool) (line : List ℕ) → is_utf8 line ≡ b → (IsUtf8 line → read line ≡ None) → None ≡ (if b then read line else None)
none_either true line e h = sym (h (IsUtf8-from_is_utf8 line e))
none_either false line e h = refl

pub data_of-refused : (line : List ℕ) → (IsUtf8 line → read line ≡ None) → None ≡ data_of line
data_of-refused line h = none_either (is_utf8 line) line refl h

pub not_both : (b : Bool) → b ≡ true → b ≡ false → ⊥
not_both b is isnt = cc
