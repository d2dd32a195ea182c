-- The laws of the reader: it reads exactly the expressions; what it has read is how a text begins; and what a project
-- keeps.
use Rattle.std.specs.Prelude.{◌≡◌, ℕ, ◌+◌, ◌≤◌, true, false, List, [], ◌∷◌, ◌++◌, length, Some, None}
use Rattle.cfj_model.specs.Expressions.{node_count}
use Rattle.cfj_model.specs.ExpressionGrammar.{ExprTree, spell_expr, roles_expr, value_expr}
use Rattle.cfj_model.specs.ProductLines.{most_size, is_body}
use Rattle.cfj_words.specs.Tokens.{Token, Id, Semicolon}
use Rattle.cfj_model.specs.Roles.{Role, other_token, Tally, tallied, AreWithin, are_settled}
use Rattle.fj_symbols.specs.Views.{are_read}
use Rattle.expression_reader.specs.Machine.{State, start, done, step, pending, waiting, emitted, run, is_read_whole, is_done, takes_name}
use Rattle.expression_reader.specs.Reading.{Begins, CanGoOn, IsTextOf, owed}

-- The text of each tree, over any features, is read as the expression that the tree stands for, in the tree's roles.
abbrev pub ReadsEach : Type 0
ReadsEach = (features : List (List ℕ)) (x : ExprTree) → run features (spell_expr x (Semicolon ∷ [])) start ≡ (Some (done (value_expr features 0 x).0), roles_expr 0 x (other_token ∷ []))

-- Only the text of a tree is read to its end.
abbrev pub ReadsOnly : Type 0
ReadsOnly = (features : List (List ℕ)) (ts : List Token) → is_read_whole (run features ts start).0 ≡ true → (x : ExprTree) × IsTextOf ts x

-- A text begins with the tokens that were read, in the roles that they got, where those of the tokens that wait are a
-- bracket's. These roles are settled, and there are no other settled ones.
pub record IsFront (front : List Token) (rs : List Role) : Type 0 where
  pub begins : Begins front rs
  pub settled : are_settled rs ≡ true
  pub only : (qs : List Role) → Begins front qs → are_settled qs ≡ true → qs ≡ rs

abbrev pub ReadsFronts : Type 0
ReadsFronts = (features : List (List ℕ)) (front : List Token) (s : State) (rs : List Role) → run features front start ≡ (Some s, rs) → IsFront front (rs ++ pending s)

-- Where a token can't go on, no text begins with it behind what was read.
abbrev pub StopsRightly : Type 0
StopsRightly = (features : List (List ℕ)) (front : List Token) (t : Token) (s : State) (rs : List Role) → run features front start ≡ (Some s, rs) → step features s t ≡ None → CanGoOn (front ++ t ∷ []) → ⊥

-- Each identifier can go on where some identifier could stand, and elsewhere none.
abbrev pub NamesGoOn : Type 0
NamesGoOn = (features : List (List ℕ)) (s : State) (w : List ℕ) → takes_name s ≡ true → (n : State) × (step features s (Id w) ≡ Some n)

abbrev pub NamesStop : Type 0
NamesStop = (features : List (List ℕ)) (s : State) (w : List ℕ) → takes_name s ≡ false → step features s (Id w) ≡ None

-- Behind a step those tokens wait that waited and aren't settled, and the token itself if it waits.
abbrev pub WaitsOn : Type 0
WaitsOn = (features : List (List ℕ)) (s n : State) (t : Token) → step features s t ≡ Some n → pending n ≡ waiting s t

-- The next slot is at most the number of nodes that were counted, with the one that is still to take its slot.
abbrev pub IsSlotted : State → Tally → Type 0
IsSlotted s t = s.slot + owed s.mode ≤ t.nodes

-- A step keeps this, where its roles are counted.
abbrev pub SlotsKeepUp : Type 0
SlotsKeepUp = (features : List (List ℕ)) (s n : State) (token : Token) (t : Tally) → step features s token ≡ Some n → IsSlotted s t → IsSlotted n (tallied t (emitted s token))

-- What is known behind the tokens of a body: what a project keeps of the body, over these features and in the format
-- that was met, and that its nodes were counted, before these roles and tokens.
pub record IsKept (features : List (List ℕ)) (t : Tally) (x : ExprTree) (rest : List Role) (more : List Token) : Type 0 where
  pub is : is_body (record { features = length features; format = t.format }) (value_expr features 0 x).0 ≡ true
  pub marks : List (List ℕ)
  pub small : t.size + node_count (value_expr features 0 x).0 ≤ most_size
  pub within : AreWithin (record t { marks = marks; nodes = node_count (value_expr features 0 x).0; size = t.size + node_count (value_expr features 0 x).0 }) rest
  pub read : are_read more ≡ true

-- A tree whose tokens break no rule and no limit stands for a body that a project keeps.
abbrev pub KeepsBodies : Type 0
KeepsBodies = (features : List (List ℕ)) (t : Tally) (x : ExprTree) (rest : List Role) (more : List Token) → t.nodes ≡ 0 → t.size ≤ most_size → AreWithin t (roles_expr 0 x rest) → are_read (spell_expr x more) ≡ true → IsKept features t x rest more

-- What follows a tree's text, or its roles, may go on.
abbrev pub TextsGoOn : Type 0
TextsGoOn = (x : ExprTree) (us rest : List Token) → spell_expr x us ++ rest ≡ spell_expr x (us ++ rest)

abbrev pub RolesGoOn : Type 0
RolesGoOn = (d : ℕ) (x : ExprTree) (us rest : List Role) → roles_expr d x us ++ rest ≡ roles_expr d x (us ++ rest)

-- The roles of a tree before settled ones are settled.
abbrev pub RolesAreSettled : Type 0
RolesAreSettled = (d : ℕ) (x : ExprTree) (rest : List Role) → are_settled rest ≡ true → are_settled (roles_expr d x rest) ≡ true

-- No token goes on behind the whole expression, and only `;` leads there.
abbrev pub EndsOnce : Type 0
EndsOnce = (features : List (List ℕ)) (s : State) (t : Token) → is_done s ≡ true → step features s t ≡ None

abbrev pub EndsAtSemicolon : Type 0
EndsAtSemicolon = (features : List (List ℕ)) (s n : State) (t : Token) → step features s t ≡ Some n → is_done n ≡ true → t ≡ Semicolon
