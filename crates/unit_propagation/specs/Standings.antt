-- What a clause comes to, literal by literal.
use Rattle.std.specs.Prelude.{◌≡◌, ℕ, Bool, true, false, not, ◌==◌, ◌&&◌, ◌⊎◌, if◌then◌else◌}
use Rattle.std.specs.Prelude.{List, [], ◌∷◌, Option, Some, None}
use Rattle.cfj_logic.specs.declared.clauses.Literal.{Literal}
use Rattle.unit_propagation.specs.declared.units.Standing.{Standing}
use Rattle.unit_propagation.specs.declared.units.Standing.TheVariants.{Open, Falsified, Unit as UnitOf}
use Rattle.cfj_words.specs.Lists.{Has}
use Rattle.cfj_logic.specs.UnitClauses.{Values, value_of, IsUnvalued, IsFalsified, IsUnit}

-- the two values are the same
abbrev pub bool_eq : Bool → Bool → Bool
bool_eq true b = b
bool_eq false b = not b

-- the two literals are the same
abbrev pub literal_eq : Literal → Literal → Bool
literal_eq l m = (l.var == m.var) && bool_eq l.on m.on

-- the standing of a clause with one more literal, whose variable has this value
abbrev pub joined : Standing → Literal → Option Bool → Standing
joined Open l v = Open
joined Falsified l (Some v) = if bool_eq v l.on then Open else Falsified
joined Falsified l None = UnitOf l
joined (UnitOf u) l (Some v) = if bool_eq v l.on then Open else UnitOf u
joined (UnitOf u) l None = if literal_eq u l then UnitOf u else Open

-- the standing of a clause whose front has this one
abbrev pub standing_from : Values → Standing → List Literal → Standing
standing_from vs s [] = s
standing_from vs s (l ∷ c) = standing_from vs (joined s l (value_of vs l.var)) c

-- a literal of the clause is true, or two have no value: it is neither falsified nor a unit clause
abbrev pub IsOpen : Values → List Literal → Type 0
IsOpen vs c =
    ((l : Literal) × Has c l × (value_of vs l.var ≡ Some l.on))
    ⊎ ((l : Literal) × (m : Literal) × Has c l × Has c m × IsUnvalued vs l × IsUnvalued vs m × (l ≡ m → ⊥))

-- each clause is open
abbrev pub AreOpen : List (List Literal) → Values → Type 0
AreOpen cs vs = (c : List Literal) → Has cs c → IsOpen vs c

-- what a standing says of the clause
abbrev pub Shows : Values → List Literal → Standing → Type 0
Shows vs c Open = IsOpen vs c
Shows vs c Falsified = IsFalsified vs c
Shows vs c (UnitOf l) = IsUnit vs c l

-- one for a variable without a value
abbrev pub unvalued : Option Bool → ℕ
unvalued None = 1
unvalued (Some b) = 0
