-- The gates that a gate reaches: itself, and the operands of those that it reaches.
use Rattle.std.specs.Prelude.{◌≡◌, ℕ, ◌+◌, ◌<◌, ◌⊎◌, ◌↔◌, Bool, true, false, IsTrue, List, length, Some, slice_get, slice_set, slice_index_or}
use Rattle.cond_circuit.specs.declared.part.Part.{Part}
use Rattle.cond_circuit.specs.declared.part.Part.TheVariants.{Zero, One, Feat, Not, And, Or}

-- the gate is an operand of the part
abbrev pub IsOperand : ℕ → Part → Type 0
IsOperand a Zero = ⊥
IsOperand a One = ⊥
IsOperand a (Feat f) = ⊥
IsOperand a (Not b) = a ≡ b
IsOperand a (And b c) = (a ≡ b) ⊎ (a ≡ c)
IsOperand a (Or b c) = (a ≡ b) ⊎ (a ≡ c)

-- the part's operands are below this gate
abbrev pub AreBelow : ℕ → Part → Type 0
AreBelow g Zero = Unit {0}
AreBelow g One = Unit {0}
AreBelow g (Feat f) = Unit {0}
AreBelow g (Not a) = a < g
AreBelow g (And a b) = (a < g) × (b < g)
AreBelow g (Or a b) = (a < g) × (b < g)

pub data Reaches (ps : List Part) (top : ℕ) : ℕ → Type 0 where
  itself : Reaches ps top top
  operand : (g a : ℕ) (p : Part) → Reaches ps top g → slice_get ps g ≡ Some p → IsOperand a p → Reaches ps top a

-- the gate is marked
abbrev pub is_marked : List Bool → ℕ → Bool
is_marked marks g = slice_index_or marks g false

-- the marks with those of the part's operands
abbrev pub with_operands : Part → List Bool → List Bool
with_operands Zero marks = marks
with_operands One marks = marks
with_operands (Feat f) marks = marks
with_operands (Not a) marks = slice_set marks a true
with_operands (And a b) marks = slice_set (slice_set marks a true) b true
with_operands (Or a b) marks = slice_set (slice_set marks a true) b true

-- the gates up to `top` are marked that it reaches
pub record AreReached (ps : List Part) (top : ℕ) (marks : List Bool) : Type 0 where
  pub size : length marks ≡ top + 1
  pub exact : (g : ℕ) → IsTrue (is_marked marks g) ↔ Reaches ps top g
