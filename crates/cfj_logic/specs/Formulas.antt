-- What a formula over features means.
use Rattle.std.specs.Prelude.{ℕ, ◌+◌, Bool, true, false, not, ◌&&◌, ◌||◌, nat_lt, max, if◌then◌else◌}
use Rattle.cfj_logic.specs.Selections.{Chosen, is_on}
use Rattle.cfj_logic.specs.declared.formula.Formula.{Formula}
use Rattle.cfj_logic.specs.declared.formula.Formula.TheOpen.{Formula-F}
use Rattle.cfj_logic.specs.declared.formula.Formula.TheFolds.{fold-Formula}

-- the truth value of a formula, from those of its parts
abbrev pub truth_step : Chosen → Formula-F Bool → Bool
truth_step s Formula-F.True = true
truth_step s Formula-F.False = false
truth_step s (Formula-F.Feat f) = is_on s f
truth_step s (Formula-F.Not x) = not x
truth_step s (Formula-F.And x y) = x && y
truth_step s (Formula-F.Or x y) = x || y
truth_step s (Formula-F.Implies x y) = not x || y
truth_step s (Formula-F.Iff x y) = if x then y else not y

-- the usual truth value of a formula under a selection
abbrev pub truth : Chosen → Formula → Bool
truth s = fold-Formula Bool (truth_step s)

abbrev pub is_over_step : ℕ → Formula-F Bool → Bool
is_over_step features Formula-F.True = true
is_over_step features Formula-F.False = true
is_over_step features (Formula-F.Feat f) = nat_lt f features
is_over_step features (Formula-F.Not x) = x
is_over_step features (Formula-F.And x y) = x && y
is_over_step features (Formula-F.Or x y) = x && y
is_over_step features (Formula-F.Implies x y) = x && y
is_over_step features (Formula-F.Iff x y) = x && y

-- all features that the formula names are below this number
abbrev pub is_over : ℕ → Formula → Bool
is_over features = fold-Formula Bool (is_over_step features)

abbrev pub formula_node_count_step : Formula-F ℕ → ℕ
formula_node_count_step Formula-F.True = 1
formula_node_count_step Formula-F.False = 1
formula_node_count_step (Formula-F.Feat f) = 1
formula_node_count_step (Formula-F.Not x) = 1 + x
formula_node_count_step (Formula-F.And x y) = x + (1 + y)
formula_node_count_step (Formula-F.Or x y) = x + (1 + y)
formula_node_count_step (Formula-F.Implies x y) = x + (1 + y)
formula_node_count_step (Formula-F.Iff x y) = x + (1 + y)

-- the number of its names, constants and operators
abbrev pub formula_node_count : Formula → ℕ
formula_node_count = fold-Formula ℕ formula_node_count_step

-- how tightly a formula holds together, from 1 for `<->` to 5 for what needs no brackets anywhere, and its nesting
pub record FormulaNesting : Type 0 where
  pub level : ℕ
  pub depth : ℕ

-- the nesting of an operand, which stands in brackets where it holds less tightly than this
abbrev pub operand_depth : ℕ → FormulaNesting → ℕ
operand_depth least x = if nat_lt x.level least then 1 + x.depth else x.depth

abbrev pub formula_nesting_step : Formula-F FormulaNesting → FormulaNesting
formula_nesting_step Formula-F.True = record { level = 5; depth = 0 }
formula_nesting_step Formula-F.False = record { level = 5; depth = 0 }
formula_nesting_step (Formula-F.Feat f) = record { level = 5; depth = 0 }
formula_nesting_step (Formula-F.Not x) = record { level = 5; depth = 1 + operand_depth 5 x }
formula_nesting_step (Formula-F.And x y) = record { level = 4; depth = max (operand_depth 4 x) (operand_depth 5 y) }
formula_nesting_step (Formula-F.Or x y) = record { level = 3; depth = max (operand_depth 3 x) (operand_depth 4 y) }
formula_nesting_step (Formula-F.Implies x y) = record { level = 2; depth = max (operand_depth 3 x) (1 + operand_depth 2 y) }
formula_nesting_step (Formula-F.Iff x y) = record { level = 1; depth = max (operand_depth 1 x) (operand_depth 2 y) }

-- How many brackets, `!` and `->` are open at once in its text with the fewest brackets; an `->` is open to the end of its
-- right side.
abbrev pub formula_nest : Formula → ℕ
formula_nest f = (fold-Formula FormulaNesting formula_nesting_step f).depth
