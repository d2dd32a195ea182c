-- What unit clauses lead to, over clauses that are read as sets of literals (unit resolution: Davis and Putnam, JACM 7(3), 1960).
use Rattle.std.specs.Prelude.{◌≡◌, ℕ, Bool, not, ◌⊎◌, List, slice_set, get_or, Option, Some, None}
use Rattle.cfj_logic.specs.declared.clauses.Literal.{Literal}
use Rattle.cfj_words.specs.Lists.{Has}

-- by variable, the value that it has, if any
abbrev pub Values : Type 0
Values = List (Option Bool)

-- the value of a variable; none has one past the end
abbrev pub value_of : Values → ℕ → Option Bool
value_of vs x = get_or vs x None

-- the literal's variable has the other value
abbrev pub IsFalse : Values → Literal → Type 0
IsFalse vs l = value_of vs l.var ≡ Some (not l.on)

-- the literal's variable has no value
abbrev pub IsUnvalued : Values → Literal → Type 0
IsUnvalued vs l = value_of vs l.var ≡ None

-- the values after the literal is made true
abbrev pub with_true : Values → Literal → Values
with_true vs l = slice_set vs l.var (Some l.on)

-- the values after the literal is made false
abbrev pub with_false : Values → Literal → Values
with_false vs l = slice_set vs l.var (Some (not l.on))

-- all literals of the clause are false
abbrev pub IsFalsified : Values → List Literal → Type 0
IsFalsified vs c = (l : Literal) → Has c l → IsFalse vs l

-- of the clause's literals this one alone has no value, and all others are false
pub record IsUnit (vs : Values) (c : List Literal) (l : Literal) : Type 0 where
  pub has : Has c l
  pub unvalued : IsUnvalued vs l
  pub others : (m : Literal) → Has c m → (m ≡ l) ⊎ IsFalse vs m

-- making the literals of unit clauses true, one after the other, leads from the first values to the second
pub data Reaches (cs : List (List Literal)) : Values → Values → Type 0 where
  here : (vs : Values) → Reaches cs vs vs
  by_unit : (vs ws : Values) (c : List Literal) (l : Literal) → Has cs c → IsUnit vs c l → Reaches cs (with_true vs l) ws → Reaches cs vs ws

-- unit clauses lead from these values to a falsified clause
pub record Leads (cs : List (List Literal)) (vs : Values) : Type 0 where
  pub end : Values
  pub reached : Reaches cs vs end
  pub clause : List Literal
  pub has : Has cs clause
  pub falsified : IsFalsified end clause
