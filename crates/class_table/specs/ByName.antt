-- What maps from class names know of a class table.
use Rattle.std.specs.Prelude.{◌≡◌, ℕ, List, [], ◌∷◌, map, take, Some, None}
use Rattle.std.specs.Borrow.{Bor}
use Rattle.std.specs.Map.{lookup}
use Rattle.std.specs.Option.{MatchOption, option_copied, option_map_or}
use Rattle.std.specs.Str.{bytes_eq}
use Rattle.cfj_model.specs.LookUps.{Table, declared, chain, without}
use Rattle.cfj_model.specs.declared.class.Class.{Class}

-- The map has what is wanted of each name, and each name of the first so many classes.
abbrev pub Knows : {V : Type 0} → (List ℕ → V → Type 0) → Table → ℕ → List (Bor (List ℕ) × V) → Type 0
Knows wanted p n entries = (q : Bor (List ℕ)) → MatchOption (lookup (λ k. bytes_eq q.now k.now) entries) (declared (take n p) q.now ≡ None) (wanted q.now)

-- the class of this name
abbrev pub IsClassOf : Table → List ℕ → Bor Class → Type 0
IsClassOf p name class = declared p name ≡ Some class.now

-- each name has its class
abbrev pub HasClasses : Table → List (Bor (List ℕ) × Bor Class) → Type 0
HasClasses p entries = (q : Bor (List ℕ)) → option_copied (lookup (λ k. bytes_eq q.now k.now) entries) ≡ declared p q.now

-- the classes that are read
abbrev pub seen : List (Bor Class) → List Class
seen ks = map (λ k. k.now) ks

-- the classes are taken out of the table, one after another
abbrev pub without_all : List Class → Table → Table
without_all [] p = p
without_all (k ∷ ks) p = without_all ks (without k.name p)

-- each name has its chain, and names without one aren't declared
abbrev pub HasChains : Table → List (Bor (List ℕ) × List (Bor Class)) → Type 0
HasChains p entries = (q : Bor (List ℕ)) → option_map_or seen (lookup (λ k. bytes_eq q.now k.now) entries) [] ≡ chain p q.now

-- the chain of this name
abbrev pub IsChainOf : Table → List ℕ → List (Bor Class) → Type 0
IsChainOf p name classes = seen classes ≡ chain p name
