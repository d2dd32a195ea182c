-- The clauses of a gate, after Tseitin (On the complexity of derivation in propositional calculus, 1968).
use Rattle.std.specs.Prelude.{◌≡◌, ℕ, zero, suc, ◌+◌, ◌↔◌, Bool, true, false, ◌&&◌, if◌then◌else◌, IsTrue, List, [], ◌∷◌, ◌++◌, slice_index_or}
use Rattle.cfj_logic.specs.declared.clauses.Literal.{Literal}
use Rattle.cfj_logic.specs.declared.clauses.Clauses.{Clauses}
use Rattle.cond_circuit.specs.Gates.{Gates}
use Rattle.cond_circuit.specs.declared.part.Part.{Part}
use Rattle.cond_circuit.specs.declared.part.Part.TheVariants.{Zero, One, Feat, Not, And, Or}
use Rattle.cnf_form.specs.Reaching.{Reaches}

abbrev pub literal : ℕ → Bool → Literal
literal x on = record { var = x; on = on }

-- a gate of this part has a variable of its own
abbrev pub is_inner : Part → Bool
is_inner Zero = false
is_inner One = false
is_inner (Feat f) = false
is_inner (Not a) = true
is_inner (And a b) = true
is_inner (Or a b) = true

abbrev pub part_of : List Part → ℕ → Part
part_of ps g = slice_index_or ps g Zero

-- the gate is reached, and has a variable of its own
abbrev pub has_own : (ℕ → Bool) → List Part → ℕ → Bool
has_own reached ps g = reached g && is_inner (part_of ps g)

-- how many gates below this one have a variable of their own
abbrev pub own_below : (ℕ → Bool) → List Part → ℕ → ℕ
own_below reached ps zero = 0
own_below reached ps (suc g) = own_below reached ps g + (if has_own reached ps g then 1 else 0)

-- the variable of a gate with this part, where so many variables stand before it
abbrev pub variable : Part → ℕ → ℕ
variable (Feat f) before = f
variable _ before = before

-- the variable of a gate: its feature; else it stands behind the features and the gates below it, by number
abbrev pub variable_of : (ℕ → Bool) → Gates → ℕ → ℕ
variable_of reached c g = variable (part_of c.parts g) (c.features + own_below reached c.parts g)

-- the clauses that give variable x the value of the part, whose operands have these variables
abbrev pub part_clauses : (ℕ → ℕ) → ℕ → Part → List (List Literal)
part_clauses v x Zero = []
part_clauses v x One = []
part_clauses v x (Feat f) = []
part_clauses v x (Not a) = (literal x true ∷ (literal (v a) true ∷ [])) ∷ ((literal x false ∷ (literal (v a) false ∷ [])) ∷ [])
part_clauses v x (And a b) =
    (literal x false ∷ (literal (v a) true ∷ [])) ∷ ((literal x false ∷ (literal (v b) true ∷ [])) ∷ ((literal x true ∷ (literal (v a) false ∷ (literal (v b) false ∷ []))) ∷ []))
part_clauses v x (Or a b) =
    (literal x true ∷ (literal (v a) false ∷ [])) ∷ ((literal x true ∷ (literal (v b) false ∷ [])) ∷ ((literal x false ∷ (literal (v a) true ∷ (literal (v b) true ∷ []))) ∷ []))

-- the clauses of a gate that is reached, by its part
abbrev pub gate_clauses : (ℕ → Bool) → Gates → ℕ → List (List Literal)
gate_clauses reached c g = if reached g then part_clauses (variable_of reached c) (variable_of reached c g) (part_of c.parts g) else []

-- the clauses of the gates below this one, by number
abbrev pub clauses_below : (ℕ → Bool) → Gates → ℕ → List (List Literal)
clauses_below reached c zero = []
clauses_below reached c (suc g) = clauses_below reached c g ++ gate_clauses reached c g

-- the clauses of a gate that is no constant: variables for the features and for each gate that is reached and isn't a feature, the
-- clauses of these gates by number, and last that the gate itself is true
pub record AreClausesFor (c : Gates) (top : ℕ) (out : Clauses) : Type 0 where
  pub reached : ℕ → Bool
  pub exact : (g : ℕ) → IsTrue (reached g) ↔ Reaches c.parts top g
  pub features : out.features ≡ c.features
  pub vars : out.vars ≡ c.features + own_below reached c.parts (top + 1)
  pub list : out.list ≡ clauses_below reached c (top + 1) ++ (literal (variable_of reached c top) true ∷ []) ∷ []

-- the clauses of a gate: the empty clause alone for gate 0, which is false, none for gate 1, which is true
abbrev pub AreClausesOf : Gates → ℕ → Clauses → Type 0
AreClausesOf c zero out = out ≡ record { features = c.features; vars = c.features; list = [] ∷ [] }
AreClausesOf c (suc zero) out = out ≡ record { features = c.features; vars = c.features; list = [] }
AreClausesOf c (suc (suc g)) out = AreClausesFor c (suc (suc g)) out
