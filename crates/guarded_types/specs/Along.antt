-- What the classes of a chain declare, each with the marks under which a variant's chain has it.
use Rattle.std.specs.Prelude.{ℕ, List, [], ◌∷◌, ◌++◌, map, filter, Option, None, Some}
use Rattle.std.specs.Borrow.{Bor}
use Rattle.std.specs.Str.{bytes_eq}
use Rattle.cfj_logic.specs.Selections.{Chosen}
use Rattle.cfj_logic.specs.Sides.{Sides}
use Rattle.cfj_model.specs.Projection.{is_present, presence_of}
use Rattle.cfj_model.specs.declared.class.Class.{Class}
use Rattle.guarded_types.specs.declared.marked.Marked.{Marked}

-- what is there under a selection: the items all of whose marks hold
abbrev pub there : {A : Type 0} → Chosen → List (Marked A) → List A
there s xs = map (λ x. x.item) (filter (λ x. is_present s x.marks) xs)

-- something that stands in what has these marks
abbrev pub behind : {A : Type 0} → Sides → Marked A → Marked A
behind up x = record { marks = presence_of up x.marks; item = x.item }

-- What each class of a chain declares, by its own marks, with the marks of the classes up to it: a variant's chain ends
-- before the first class that isn't there.
abbrev pub along : {A : Type 0} → (Class → List (Marked A)) → Sides → List Class → List (Marked A)
along own up [] = []
along own up (k ∷ ks) = map (behind (presence_of up k.colors)) (own k) ++ along own (presence_of up k.colors) ks

-- the first item
abbrev pub first : {A : Type 0} → List A → Option A
first [] = None
first (x ∷ xs) = Some x

-- an item that may be absent, as a list
abbrev pub at_most_one : {A : Type 0} → Option A → List A
at_most_one None = []
at_most_one (Some x) = x ∷ []

-- what is referred to
abbrev pub read : {A : Type 0} → List (Marked (Bor A)) → List (Marked A)
read xs = map (λ x. record { marks = x.marks; item = x.item.now }) xs

-- the types of the fields of this name that a class itself declares, each with the field's own marks
abbrev pub typed_fields : List ℕ → Class → List (Marked (List ℕ))
typed_fields f k = map (λ d. record { marks = d.colors; item = d.of }) (filter (λ d. bytes_eq d.name f) k.fields)
