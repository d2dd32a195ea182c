-- By literal, the places of clauses.
use Rattle.std.specs.declared.alloc.Global.{Global}
use Rattle.std.specs.Prelude.{Vec, ◌≡◌, ℕ, ◌<◌, Bool, ◌⊎◌, if◌then◌else◌, List, length, slice_get, Some}
use Rattle.cfj_logic.specs.declared.clauses.Literal.{Literal}
use Rattle.cfj_words.specs.Lists.{Has}
use Rattle.unit_propagation.specs.declared.lists.Lists.{Lists}

-- the list of this number has the place
pub record IsIn (lists : List (Vec ℕ Global)) (x place : ℕ) : Type 0 where
  pub list : Vec ℕ Global
  pub there : slice_get lists x ≡ Some list
  pub has : Has list.items place

-- a list was put in the place of that of this number, which was this one
pub record Exchanges (old new : List (Vec ℕ Global)) (x : ℕ) (put taken : List ℕ) : Type 0 where
  pub out : (y k : ℕ) → IsIn old y k → ((y ≡ x → ⊥) × IsIn new y k) ⊎ ((y ≡ x) × Has taken k)
  pub back : (k : ℕ) → Has put k → IsIn new x k
  pub long : length new ≡ length old

-- the lists of the literals with this value
abbrev pub lists_of : Lists → Bool → List (Vec ℕ Global)
lists_of lists b = if b then lists.on.items else lists.off.items

-- the literal's list has the place
abbrev pub IsListed : Lists → Literal → ℕ → Type 0
IsListed lists m place = IsIn (lists_of lists m.on) m.var place

-- the literal has a list
abbrev pub IsCovered : Lists → Literal → Type 0
IsCovered lists m = m.var < length (lists_of lists m.on)

-- all lists have what they had
pub record AreMore (old new : Lists) : Type 0 where
  pub kept : (m : Literal) (place : ℕ) → IsListed old m place → IsListed new m place
  pub covered : (m : Literal) → IsCovered old m → IsCovered new m
