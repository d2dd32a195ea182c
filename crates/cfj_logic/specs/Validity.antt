-- Which selections of a model's features are valid.
use Rattle.std.specs.Prelude.{◌≡◌, ℕ, true, false, List, take, slice_get, Some}
use Rattle.std.specs.List.{list_all}
use Rattle.cfj_logic.specs.Formulas.{truth}
use Rattle.cfj_logic.specs.Selections.{Chosen}
use Rattle.cfj_logic.specs.declared.formula.Formula.{Formula}

-- every constraint is true
abbrev pub IsValid : List Formula → Chosen → Type 0
IsValid constraints s = list_all (truth s) constraints ≡ true

-- the first constraint that is false stands here
pub record IsFirstFalse (constraints : List Formula) (s : Chosen) (at : ℕ) : Type 0 where
  pub constraint : Formula
  pub there : slice_get constraints at ≡ Some constraint
  pub fails : truth s constraint ≡ false
  pub before : IsValid (take at constraints) s
