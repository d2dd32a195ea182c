-- Look-ups in a class table: a project's classes, without regard to colours.
use Rattle.std.specs.Prelude.{ℕ, zero, suc, Bool, not, ◌||◌, List, [], ◌∷◌, ◌++◌, length, filter, find, is_some, if◌then◌else◌, Option, Some, None}
use Rattle.std.specs.List.{list_any}
use Rattle.std.specs.Str.{bytes_eq}
use Rattle.cfj_model.specs.ProductLines.{object}
use Rattle.cfj_model.specs.declared.class.Class.{Class}
use Rattle.cfj_model.specs.declared.class.Field.{Field}
use Rattle.cfj_model.specs.declared.class.Method.{Method}

abbrev pub Table : Type 0
Table = List Class

abbrev pub is_called : List ℕ → Class → Bool
is_called n k = bytes_eq k.name n

-- the class of this name
abbrev pub declared : Table → List ℕ → Option Class
declared p n = find (is_called n) p

-- a name is known where it is `Object` or declared
abbrev pub is_known : Table → List ℕ → Bool
is_known p n = bytes_eq n object || is_some (declared p n)

abbrev pub without : List ℕ → Table → Table
without n p = filter (λ k. not (is_called n k)) p

abbrev pub added : (Class → List Class) → Option Class → List Class
added more None = []
added more (Some k) = k ∷ more k

-- Of the classes that aren't taken yet, the one of this name is taken, and then that of its superclass. The number bounds the
-- steps; the count of the classes is always enough.
unfoldable pub chain_in : ℕ → Table → List ℕ → List Class
chain_in zero rest n = []
chain_in (suc k) rest n = added (λ c. chain_in k (without n rest) c.parent) (declared rest n)

-- a class, its superclass, and so on, up to an undeclared name or to a class that is taken already
abbrev pub chain : Table → List ℕ → List Class
chain p n = chain_in (length p) p n

-- a class is a subtype of itself and of the superclass of each class of its chain
abbrev pub is_subtype : Table → List ℕ → List ℕ → Bool
is_subtype p c d = bytes_eq c d || list_any (λ k. bytes_eq k.parent d) (chain p c)

-- what the first of the items gives that gives something
abbrev pub first_some : {A B : Type 0} → (A → Option B) → List A → Option B
first_some of [] = None
first_some of (x ∷ xs) = if is_some (of x) then of x else first_some of xs

-- the fields of these classes, the last class first
abbrev pub fields_of : List Class → List Field
fields_of [] = []
fields_of (k ∷ ks) = fields_of ks ++ k.fields

-- all fields of a class, those of its ancestors first
abbrev pub all_fields : Table → List ℕ → List Field
all_fields p c = fields_of (chain p c)

abbrev pub field_called : List ℕ → Class → Option Field
field_called f k = find (λ d. bytes_eq d.name f) k.fields

abbrev pub method_called : List ℕ → Class → Option Method
method_called m k = find (λ d. bytes_eq d.name m) k.methods

-- the nearest declaration of a field, or of a method
abbrev pub field_of : Table → List ℕ → List ℕ → Option Field
field_of p c f = first_some (field_called f) (chain p c)

abbrev pub method_of : Table → List ℕ → List ℕ → Option Method
method_of p c m = first_some (method_called m) (chain p c)

-- the ancestors of a class
abbrev pub ancestors : Table → List ℕ → List Class
ancestors p c = without c (chain p c)
