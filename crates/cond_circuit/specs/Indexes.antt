-- The map by which a gate is found again.
use Rattle.std.specs.Prelude.{◌≡◌, ℕ, List}
use Rattle.std.specs.BTreeMap.{BTreeMap, get}
use Rattle.std.specs.Ordering.{nat_cmp, ordering_then}
use Rattle.std.specs.declared.cmp.Ordering.{Ordering}
use Rattle.cond_circuit.specs.declared.part.Part.{Part}
use Rattle.cond_circuit.specs.declared.part.Part.TheVariants.{Zero, One, Feat, Not, And, Or}
use Rattle.cond_circuit.specs.Folding.{place_of}
use Rattle.cond_circuit.specs.Gates.{IsCircuit}

abbrev pub rank : Part → ℕ
rank Zero = 0
rank One = 1
rank (Feat f) = 2
rank (Not a) = 3
rank (And a b) = 4
rank (Or a b) = 5

-- by kind, and then by the operands
abbrev pub part_cmp : Part → Part → Ordering
part_cmp (Feat f) (Feat g) = nat_cmp f g
part_cmp (Not a) (Not b) = nat_cmp a b
part_cmp (And a b) (And c d) = ordering_then (nat_cmp a c) (nat_cmp b d)
part_cmp (Or a b) (Or c d) = ordering_then (nat_cmp a c) (nat_cmp b d)
part_cmp p q = nat_cmp (rank p) (rank q)

-- the map has for each part its first gate
pub record IsIndex (ps : List Part) (m : BTreeMap Part ℕ) : Type 0 where
  pub finds : (p : Part) → get part_cmp m p ≡ place_of ps p

-- what a circuit's type keeps, its map included
pub record IsIndexed (n : ℕ) (ps : List Part) (m : BTreeMap Part ℕ) : Type 0 where
  pub circuit : IsCircuit n ps
  pub index : IsIndex ps m
