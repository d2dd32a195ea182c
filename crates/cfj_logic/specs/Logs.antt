-- Logs of clauses that follow by unit clauses, after reverse unit propagation (Goldberg and Novikov, DATE 2003).
use Rattle.std.specs.Prelude.{◌≡◌, ℕ, zero, suc, ◌+◌, ◌<◌, ◌≤◌, Bool, true, false, ◌⊎◌, if◌then◌else◌, List, [], ◌∷◌, ◌++◌, take, map, replicate, slice_get, Some, None, All, bit_and}
use Rattle.cfj_logic.specs.declared.clauses.Literal.{Literal}
use Rattle.cfj_logic.specs.declared.clauses.Clauses.{Clauses}
use Rattle.cfj_logic.specs.Selections.{has_bit, Chosen, is_on, choices}
use Rattle.cfj_logic.specs.Sides.{Sides, empty_clause, is_over, is_within}
use Rattle.cfj_words.specs.Lists.{Has}
use Rattle.cfj_logic.specs.UnitClauses.{Values, value_of, with_false, Reaches, Leads}

-- each variable of the clause is below this number
abbrev pub AreBelow : ℕ → List Literal → Type 0
AreBelow vars c = All (λ l. l.var < vars) c

-- the features are variables, there are at most 128, and each literal's variable is one
pub record AreWellFormed (clauses : Clauses) : Type 0 where
  pub few : clauses.features ≤ 128
  pub features : clauses.features ≤ clauses.vars
  pub literals : All (AreBelow clauses.vars) clauses.list

-- ---- assignments

-- a value for each variable
abbrev pub Assignment : Type 0
Assignment = ℕ → Bool

-- some literal of the clause is true
abbrev pub IsTrueIn : Assignment → List Literal → Type 0
IsTrueIn v c = (l : Literal) × Has c l × (v l.var ≡ l.on)

-- every clause is true
abbrev pub IsModel : List (List Literal) → Assignment → Type 0
IsModel cs v = (c : List Literal) → Has cs c → IsTrueIn v c

-- the selection, with values for the other variables, makes every clause true
pub record ExtendsToModel (clauses : Clauses) (s : Chosen) : Type 0 where
  pub values : Assignment
  pub features : (f : ℕ) → f < clauses.features → values f ≡ is_on s f
  pub model : IsModel clauses.list values

-- ---- clauses over features

-- the literal alone, where the test is true
abbrev pub literal_if : Bool → ℕ → Bool → List Literal
literal_if test f on = if test then (record { var = f; on = on } ∷ []) else []

-- the literals of `n` features from `f` on
abbrev pub literals_from : Sides → ℕ → ℕ → List Literal
literals_from c zero f = []
literals_from c (suc n) f = literal_if (has_bit c.on f) f true ++ (literal_if (has_bit c.off f) f false ++ literals_from c n (f + 1))

-- the literals of a clause over features
unfoldable pub literals : Sides → List Literal
literals c = literals_from c 128 0

-- the clauses, and those of a log
abbrev pub premises : Clauses → List Sides → List (List Literal)
premises clauses log = clauses.list ++ map literals log

-- ---- following

-- the values after all literals of the clause are made false, from these values on
abbrev pub assumed_from : Values → List Literal → Values
assumed_from vs [] = vs
assumed_from vs (l ∷ c) = assumed_from (with_false vs l) c

-- all literals of the clause are false, and the other variables have no value
abbrev pub assumed : ℕ → List Literal → Values
assumed vars c = assumed_from (replicate vars None) c

-- assuming all its literals false leads, by unit clauses, to a falsified clause; or an empty clause is there
abbrev pub Follows : ℕ → List (List Literal) → List Literal → Type 0
Follows vars cs c = Leads cs (assumed vars c) ⊎ Has cs []

-- the clause may be logged behind these
pub record IsEntry (clauses : Clauses) (before : List Sides) (c : Sides) : Type 0 where
  pub over : is_over clauses.features c ≡ true
  pub once : bit_and c.on c.off ≡ 0
  pub follows : Follows clauses.vars (premises clauses before) (literals c)
  pub new : (d : Sides) → Has before d → is_within d c ≡ false

-- each clause of the log is over features, holds no feature twice, follows from the clauses and the log before it, and
-- doesn't contain all literals of an earlier one
abbrev pub IsAccepted : Clauses → List Sides → Type 0
IsAccepted clauses log = (k : ℕ) (c : Sides) → slice_get log k ≡ Some c → IsEntry clauses (take k log) c

-- the log is accepted, and holds the empty clause: no assignment makes every clause true
pub record IsRefutation (clauses : Clauses) (log : List Sides) : Type 0 where
  pub accepted : IsAccepted clauses log
  pub empty : Has log empty_clause

-- ---- selections

-- the first variables have these values, the others none
abbrev pub fixed : ℕ → List Bool → Values
fixed zero p = []
fixed (suc n) [] = None ∷ fixed n []
fixed (suc n) (b ∷ p) = Some b ∷ fixed n p

-- where the feature is selected, it has to be: with those before it as they are, and it not selected, unit clauses lead to a
-- falsified clause
abbrev pub IsForcedAt : ℕ → List (List Literal) → List Bool → ℕ → Type 0
IsForcedAt vars cs p f = slice_get p f ≡ Some true → Leads cs (fixed vars (take f p ++ false ∷ []))

-- each selected feature has to be
abbrev pub AreForced : ℕ → List (List Literal) → List Bool → Type 0
AreForced vars cs p = (f : ℕ) → IsForcedAt vars cs p f

-- the log shows that this is the least selection that extends to a model
pub record IsProofOfLeast (clauses : Clauses) (log : List Sides) (s : Chosen) : Type 0 where
  pub accepted : IsAccepted clauses log
  pub extends : ExtendsToModel clauses s
  pub forced : AreForced clauses.vars (premises clauses log) (choices s)

-- unit clauses lead from these values to values of all variables that make every clause true
pub record Completes (clauses : Clauses) (vs : Values) : Type 0 where
  pub values : Assignment
  pub end : Values
  pub reached : Reaches clauses.list vs end
  pub all : (x : ℕ) → x < clauses.vars → value_of end x ≡ Some (values x)
  pub model : IsModel clauses.list values

-- fixing all features leads, for each selection, to a falsified clause or to a model
abbrev pub AreSettledByFeatures : Clauses → Type 0
AreSettledByFeatures clauses = (s : Chosen) → s.features ≡ clauses.features → Leads clauses.list (fixed clauses.vars (choices s)) ⊎ Completes clauses (fixed clauses.vars (choices s))
