-- Clauses over features.
use Rattle.std.specs.Prelude.{ℕ, ◌^◌, Bool, ◌==◌, ◌&&◌, nat_lt}
use Rattle.cfj_logic.specs.Selections.{is_subset}

-- a clause over features: one of `on` is selected, or one of `off` isn't
pub record Sides : Type 0 where
  pub on : ℕ
  pub off : ℕ

-- the clause that no selection makes true
abbrev pub empty_clause : Sides
empty_clause = record { on = 0; off = 0 }

-- the clause has no literal
abbrev pub is_empty : Sides → Bool
is_empty c = (c.on == 0) && (c.off == 0)

-- all its features are below this number
abbrev pub is_over : ℕ → Sides → Bool
is_over features c = nat_lt c.on (2 ^ features) && nat_lt c.off (2 ^ features)

-- each literal of `d` is one of `c`
abbrev pub is_within : Sides → Sides → Bool
is_within d c = is_subset d.on c.on && is_subset d.off c.off
