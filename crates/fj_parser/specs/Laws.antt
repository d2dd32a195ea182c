-- No public contract cites this: it serves the proofs.
-- What is known of a reader of a language.
use Rattle.std.specs.Prelude.{◌≡◌, ℕ, suc, ◌+◌, ◌≤◌, true, false, List, [], ◌∷◌, ◌++◌, length, Some, None}
use Rattle.cfj_model.specs.Languages.{Language}
use Rattle.cfj_words.specs.Names.{is_identifier}
use Rattle.cfj_words.specs.Tokens.{Token, Id, End}
use Rattle.cfj_model.specs.Roles.{Role, casts, other_token, are_settled}
use Rattle.fj_symbols.specs.Views.{are_read}
use Rattle.fj_machine.specs.Readers.{Reader, run_of}

-- Roles that follow are at first those that waited; or what waited was a cast, at most its bracket, its name and its bracket.
pub data Settles (waiting rs : List Role) : Type 0 where
  alike : (others : List Role) → rs ≡ waiting ++ others → Settles waiting rs
  as_cast : (n : ℕ) (others : List Role) → rs ≡ casts n ∷ others → 1 ≤ length waiting → length waiting ≤ 3 → Settles waiting rs

-- Behind these tokens a text of the language can end, with the roles that wait as they are.
pub record Closes {V : Type 0} (l : Language V) (front : List Token) (rs waiting : List Role) : Type 0 where
  pub tree : l.Tree
  pub more : List Token
  pub others : List Role
  pub text : front ++ more ≡ l.spell tree (End ∷ [])
  pub in_roles : l.roles tree (other_token ∷ []) ≡ rs ++ (waiting ++ others)

-- an identifier with which the reader goes on
pub record GoesByName (m : Reader) (s : m.State) : Type 0 where
  pub name : List ℕ
  pub next : m.State
  pub is : is_identifier name ≡ true
  pub goes : m.step s (Id name) ≡ Some next

-- What the grammar's functions keep: what follows a tree stands behind it, and a tree's roles are settled.
pub record IsPlainLanguage {V : Type 0} (l : Language V) : Type 0 where
  pub spells : (x : l.Tree) (a b : List Token) → l.spell x (a ++ b) ≡ l.spell x a ++ b
  pub gives : (x : l.Tree) (a b : List Role) → l.roles x (a ++ b) ≡ l.roles x a ++ b
  pub settled : (x : l.Tree) → are_settled (l.roles x []) ≡ true

-- The reader reads the texts of the language and no others, in their roles, to what they stand for.
pub record Reads {V : Type 0} (l : Language V) (m : Reader) : Type 0 where
  pub grammar : IsPlainLanguage l
  pub ended : l.Tree → m.State
  pub stands_for : m.State → V
  pub valued : (x : l.Tree) → stands_for (ended x) ≡ l.value x
  pub complete : (x : l.Tree) → run_of m (l.spell x (End ∷ [])) m.start ≡ (Some (ended x), l.roles x (other_token ∷ []))
  pub sound : (ts : List Token) (s n : m.State) (rs : List Role) → run_of m ts m.start ≡ (Some s, rs) → m.step s End ≡ Some n → (x : l.Tree) × (ts ≡ l.spell x [])
  pub closes : (ts : List Token) (s : m.State) (rs : List Role) → run_of m ts m.start ≡ (Some s, rs) → Closes l ts rs (m.pending s)
  pub first : m.pending m.start ≡ []
  pub last : (x : l.Tree) → m.pending (ended x) ≡ []
  pub each : (ts : List Token) (s n : m.State) (rs : List Role) (t : Token) → run_of m ts m.start ≡ (Some s, rs) → m.step s t ≡ Some n → length (m.emitted s t) + length (m.pending n) ≡ suc (length (m.pending s))
  pub settles : (ts : List Token) (s : m.State) (x : l.Tree) (rs : List Role) → run_of m ts s ≡ (Some (ended x), rs) → Settles (m.pending s) rs
  pub settled : (ts : List Token) (s : m.State) (rs : List Role) → run_of m ts m.start ≡ (Some s, rs) → are_settled (rs ++ m.pending s) ≡ true
  pub named : (ts : List Token) (s : m.State) (rs : List Role) → run_of m ts m.start ≡ (Some s, rs) → are_read ts ≡ true → m.takes_name s ≡ true → GoesByName m s
  pub unnamed : (s : m.State) (w : List ℕ) → is_identifier w ≡ true → m.takes_name s ≡ false → m.step s (Id w) ≡ None
