-- Which gate an operation gives: one that is there, or a new one behind all others.
use Rattle.std.specs.Prelude.{ℕ, ◌<◌, min, max, Bool, true, false, ◌&&◌, ◌||◌, ◌==◌, if◌then◌else◌, List, [], ◌∷◌, ◌++◌, length, Option, Some, None, slice_index_or}
use Rattle.std.specs.List.{position_from}
use Rattle.cfj_logic.specs.declared.formula.Formula.{Formula}
use Rattle.cfj_logic.specs.declared.formula.Formula.TheOpen.{Formula-F}
use Rattle.cfj_logic.specs.declared.formula.Formula.TheFolds.{fold-Formula}
use Rattle.cond_circuit.specs.declared.part.Part.{Part}
use Rattle.cond_circuit.specs.declared.part.Part.TheVariants.{Zero, One, Feat, Not, And, Or}
use Rattle.cond_circuit.specs.declared.folding.Folded.{Folded}
use Rattle.cond_circuit.specs.declared.folding.Folded.TheVariants.{Gate, New}
use Rattle.cond_circuit.specs.Gates.{Gates, Stands}

-- `and` of two gates: of equal ones that gate, with a constant by the truth table, and else a part with the smaller operand first
abbrev pub fold_and : ℕ → ℕ → Folded
fold_and a b =
    if a == b then Gate a else (if a == 0 || b == 0 then Gate 0 else (if a == 1 then Gate b else (if b == 1 then Gate a else New (And (min a b) (max a b)))))

-- `or` of two gates, likewise
abbrev pub fold_or : ℕ → ℕ → Folded
fold_or a b =
    if a == b then Gate a else (if a == 1 || b == 1 then Gate 1 else (if a == 0 then Gate b else (if b == 0 then Gate a else New (Or (min a b) (max a b)))))

-- `not` of a gate with this part: of a constant the other one, of a `not` its operand
abbrev pub fold_not : Part → ℕ → Folded
fold_not Zero g = Gate 1
fold_not One g = Gate 0
fold_not (Not a) g = Gate a
fold_not _ g = New (Not g)

abbrev pub part_eq : Part → Part → Bool
part_eq Zero Zero = true
part_eq One One = true
part_eq (Feat a) (Feat b) = a == b
part_eq (Not a) (Not b) = a == b
part_eq (And a b) (And c d) = a == c && b == d
part_eq (Or a b) (Or c d) = a == c && b == d
part_eq _ _ = false

-- the first gate with this part
abbrev pub place_of : List Part → Part → Option ℕ
place_of ps p = position_from (part_eq p) 0 ps

-- what an operation folds to is a gate of the circuit, or may be added to it
abbrev pub IsPlaceable : Gates → Folded → Type 0
IsPlaceable c (Gate g) = g < length c.parts
IsPlaceable c (New p) = Stands c.features (length c.parts) p

abbrev pub with_part : Gates → Part → Gates
with_part c p = record { features = c.features; parts = c.parts ++ p ∷ [] }

abbrev pub placed_at : Gates → Part → Option ℕ → Gates × ℕ
placed_at c p (Some g) = (c, g)
placed_at c p None = (with_part c p, length c.parts)

-- the circuit and the gate after an operation: a part that is there is given again, and else it takes the next number
abbrev pub placed : Gates → Folded → Gates × ℕ
placed c (Gate g) = (c, g)
placed c (New p) = placed_at c p (place_of c.parts p)

abbrev pub feat_gate : ℕ → Gates → Gates × ℕ
feat_gate f c = placed c (New (Feat f))

abbrev pub not_gate : ℕ → Gates → Gates × ℕ
not_gate a c = placed c (fold_not (slice_index_or c.parts a Zero) a)

abbrev pub and_gate : ℕ → ℕ → Gates → Gates × ℕ
and_gate a b c = placed c (fold_and a b)

abbrev pub or_gate : ℕ → ℕ → Gates → Gates × ℕ
or_gate a b c = placed c (fold_or a b)

-- `or` of the first operand's `not` and the second operand
unfoldable pub implies_gate : ℕ → ℕ → Gates → Gates × ℕ
implies_gate a b c =
    let n = not_gate a c in
    or_gate n.1 b n.0

-- `or` of both operands' `and` and of the `and` of their `not`s
unfoldable pub iff_gate : ℕ → ℕ → Gates → Gates × ℕ
iff_gate a b c =
    let both = and_gate a b c in
    let left = not_gate a both.0 in
    let right = not_gate b left.0 in
    let neither = and_gate left.1 right.1 right.0 in
    or_gate both.1 neither.1 neither.0

-- a formula's gate, from those of its parts, the left one first
abbrev pub formula_step : Formula-F (Gates → Gates × ℕ) → Gates → Gates × ℕ
formula_step Formula-F.True c = (c, 1)
formula_step Formula-F.False c = (c, 0)
formula_step (Formula-F.Feat f) c = feat_gate f c
formula_step (Formula-F.Not x) c =
    let on = x c in
    not_gate on.1 on.0
formula_step (Formula-F.And x y) c =
    let left = x c in
    let right = y left.0 in
    and_gate left.1 right.1 right.0
formula_step (Formula-F.Or x y) c =
    let left = x c in
    let right = y left.0 in
    or_gate left.1 right.1 right.0
formula_step (Formula-F.Implies x y) c =
    let left = x c in
    let right = y left.0 in
    implies_gate left.1 right.1 right.0
formula_step (Formula-F.Iff x y) c =
    let left = x c in
    let right = y left.0 in
    iff_gate left.1 right.1 right.0

-- the circuit and the gate after a formula
abbrev pub formula_gate : Formula → Gates → Gates × ℕ
formula_gate = fold-Formula (Gates → Gates × ℕ) formula_step
