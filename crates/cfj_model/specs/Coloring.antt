-- The colours of nodes, after CIDE (Kästner, Apel, Kuhlemann, ICSE 2008), with a sign: features that are wanted, and
-- features that are not. The names `on` and `off` are those of a clause's two sides.
use Rattle.std.specs.Prelude.{ℕ, ◌^◌, Bool, true, false, ◌&&◌, ◌||◌, ◌==◌, length, bit_and, bit_or}
use Rattle.cfj_logic.specs.Selections.{has_bit}
use Rattle.cfj_logic.specs.Sides.{Sides, is_over}
use Rattle.cfj_model.specs.declared.feature_model.FeatureModel.{FeatureModel}
use Rattle.cfj_model.specs.declared.feature_model.Format.{Format}
use Rattle.cfj_model.specs.declared.feature_model.Format.TheVariants.{One, Two}

-- nothing is marked
abbrev pub no_colors : Sides
no_colors = record { on = 0; off = 0 }

-- both colours: wanted features with wanted ones, unwanted with unwanted ones
abbrev pub union : Sides → Sides → Sides
union a b = record { on = bit_or a.on b.on; off = bit_or a.off b.off }

-- there is no mark
abbrev pub is_unmarked : Sides → Bool
is_unmarked c = (c.on == 0) && (c.off == 0)

-- the features that a mark with this sign is about: those that aren't wanted where it has the `!`, else the wanted ones
abbrev pub signed_side : Bool → Sides → ℕ
signed_side true c = c.off
signed_side false c = c.on

-- the feature is marked, with this sign
abbrev pub has_mark : Bool → ℕ → Sides → Bool
has_mark off f c = has_bit (signed_side off c) f

-- the feature is marked, with either sign
abbrev pub is_marked : ℕ → Sides → Bool
is_marked f c = has_bit c.on f || has_bit c.off f

-- one more mark
abbrev pub with_mark : Bool → ℕ → Sides → Sides
with_mark true f c = record c { off = bit_or c.off (2 ^ f) }
with_mark false f c = record c { on = bit_or c.on (2 ^ f) }

-- marks may have a `!`
abbrev pub is_two : Format → Bool
is_two One = false
is_two Two = true

-- What marks may be: of so many features, and with a `!` in format Two alone.
pub record Palette : Type 0 where
  pub features : ℕ
  pub format : Format

abbrev pub palette_of : FeatureModel → Palette
palette_of m = record { features = length m.features; format = m.format }

-- All colours are features of the model, none is both wanted and not, and in format One none isn't wanted.
abbrev pub are_known : Palette → Sides → Bool
are_known p c = is_over p.features c && (bit_and c.on c.off == 0) && (is_two p.format || (c.off == 0))
