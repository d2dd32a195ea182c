-- No public contract cites this: it serves the proofs.
-- What the numbers of a text in the DIMACS form stand for.
use Rattle.std.specs.Prelude.{◌-◌, ◌==◌, Bool, false, if◌then◌else◌, ℤ, pos, negsuc, unsigned_abs, int_lt}
use Rattle.std.specs.Prelude.{List, [], ◌∷◌, ◌++◌}
use Rattle.cfj_logic.specs.declared.clauses.Literal.{Literal}

-- the literal of a number: its variable is the number's size less one, and it is true where the number is above 0
abbrev pub literal_of : ℤ → Literal
literal_of z = record { var = unsigned_abs z - 1; on = int_lt (pos 0) z }

-- the number is 0, which ends a clause
abbrev pub is_end : ℤ → Bool
is_end (pos n) = n == 0
is_end (negsuc n) = false

-- the clauses of numbers, of which these literals begin the first; what stands behind the last 0 is none
abbrev pub clauses_from : List Literal → List ℤ → List (List Literal)
clauses_from c [] = []
clauses_from c (z ∷ zs) = if is_end z then c ∷ clauses_from [] zs else clauses_from (c ++ literal_of z ∷ []) zs
