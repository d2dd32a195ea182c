-- What holds of the machine, whatever the tokens.
use Rattle.std.specs.Prelude.{◌≡◌, ℕ, ◌+◌, true, List, [], ◌∷◌, ◌++◌, length, Some, None, is_some}
use Rattle.cfj_model.specs.FormulaGrammar.{IffTree, spell_iff, roles_iff, value_iff}
use Rattle.cfj_logic.specs.Formulas.{formula_node_count}
use Rattle.cfj_model.specs.ProductLines.{is_constraint}
use Rattle.cfj_model.specs.Roles.{Role, other_token, Tally, tallied, AreWithin}
use Rattle.cfj_words.specs.Tokens.{Token, Id, Semicolon}
use Rattle.formula_reader.specs.Machine.{State, start, done, step, takes_name, is_done, run}
use Rattle.formula_reader.specs.Reading.{IsFormula, BeginsFormula}

-- Each formula with its semicolon is read, in its roles, to what it stands for.
abbrev pub EachIsRead : Type 0
EachIsRead = (features : List (List ℕ)) (x : IffTree) → run features (spell_iff x (Semicolon ∷ [])) start ≡ (Some (done (value_iff features x)), roles_iff 0 x (other_token ∷ []))

-- What is read to its end is a formula with its semicolon.
abbrev pub OnlyFormulasAreRead : Type 0
OnlyFormulasAreRead = (features : List (List ℕ)) (ts : List Token) (s : State) (rs : List Role) → run features ts start ≡ (Some s, rs) → is_done s ≡ true → IsFormula features ts rs s

-- What is read so far begins a formula, in the roles that were told.
abbrev pub FormulasGoOn : Type 0
FormulasGoOn = (features : List (List ℕ)) (front : List Token) (s : State) (rs : List Role) → run features front start ≡ (Some s, rs) → BeginsFormula front rs

-- With a token by which the machine can't go on no formula begins.
abbrev pub NoneGoesOnElsewhere : Type 0
NoneGoesOnElsewhere = (features : List (List ℕ)) (front : List Token) (t : Token) (s : State) (rs others : List Role) → run features front start ≡ (Some s, rs) → step features s t ≡ None → BeginsFormula (front ++ t ∷ []) others → ⊥

-- Where an identifier could stand, each can.
abbrev pub AnyNameWillDo : Type 0
AnyNameWillDo = (features : List (List ℕ)) (s : State) (w : List ℕ) → is_some (step features s (Id w)) ≡ takes_name s

-- A formula whose roles are within the limits may stand as a constraint.
abbrev pub ConstraintsAreKept : Type 0
ConstraintsAreKept = (features : List (List ℕ)) (t : Tally) (x : IffTree) (rest : List Role) → AreWithin t (roles_iff 0 x rest) → is_constraint (length features) (value_iff features x) ≡ true

-- Its nodes are those that its roles count.
abbrev pub NodesAreCounted : Type 0
NodesAreCounted = (features : List (List ℕ)) (t : Tally) (d : ℕ) (x : IffTree) → (tallied t (roles_iff d x [])).formula_nodes ≡ t.formula_nodes + formula_node_count (value_iff features x)
