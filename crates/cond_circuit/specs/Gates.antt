-- Circuits: what they are, and what their gates are worth under a selection.
use Rattle.std.specs.Prelude.{◌≡◌, ℕ, ◌<◌, ◌≤◌, Bool, true, false, not, ◌&&◌, ◌||◌, List, [], ◌∷◌, ◌++◌, length, Some, slice_get, slice_index_or}
use Rattle.cfj_logic.specs.Selections.{Chosen, is_on}
use Rattle.cond_circuit.specs.declared.part.Part.{Part}
use Rattle.cond_circuit.specs.declared.part.Part.TheVariants.{Zero, One, Feat, Not, And, Or}

-- a number of features, and the parts of the gates by their numbers
pub record Gates : Type 0 where
  pub features : ℕ
  pub parts : List Part

-- A part that may be gate g of a circuit over n features. Operands come before their gate, the smaller first, and none is a constant.
abbrev pub Stands : ℕ → ℕ → Part → Type 0
Stands n g Zero = g ≡ 0
Stands n g One = g ≡ 1
Stands n g (Feat f) = f < n
Stands n g (Not a) = (2 ≤ a) × (a < g)
Stands n g (And a b) = (2 ≤ a) × (a < b) × (b < g)
Stands n g (Or a b) = (2 ≤ a) × (a < b) × (b < g)

-- what a circuit's type keeps
pub record IsCircuit (n : ℕ) (parts : List Part) : Type 0 where
  pub few : n ≤ 128
  pub zero_is : slice_get parts 0 ≡ Some Zero
  pub one_is : slice_get parts 1 ≡ Some One
  pub stands : (g : ℕ) (p : Part) → slice_get parts g ≡ Some p → Stands n g p

-- what a part is worth, where the gates before it are worth vs
abbrev pub part_value : Chosen → List Bool → Part → Bool
part_value s vs Zero = false
part_value s vs One = true
part_value s vs (Feat f) = is_on s f
part_value s vs (Not a) = not (slice_index_or vs a false)
part_value s vs (And a b) = slice_index_or vs a false && slice_index_or vs b false
part_value s vs (Or a b) = slice_index_or vs a false || slice_index_or vs b false

-- what gates are worth, behind gates that are worth vs
abbrev pub values_behind : Chosen → List Bool → List Part → List Bool
values_behind s vs [] = vs
values_behind s vs (p ∷ ps) = values_behind s (vs ++ part_value s vs p ∷ []) ps

-- what a gate is worth under a selection
unfoldable pub value : Chosen → List Part → ℕ → Bool
value s ps g = slice_index_or (values_behind s [] ps) g false

-- gates were added, and nothing else
pub record Grown (old new : Gates) : Type 0 where
  pub features : new.features ≡ old.features
  pub more : List Part
  pub parts : new.parts ≡ old.parts ++ more

-- the gate is one of the circuit, and has this value under each selection
pub record Is (c : Gates) (g : ℕ) (v : Chosen → Bool) : Type 0 where
  pub inside : g < length c.parts
  pub worth : (s : Chosen) → value s c.parts g ≡ v s
