-- The units of a project: its model, each class and each method by itself; what is judged in each, and its pairs.
use Rattle.std.specs.Prelude.{ℕ, Bool, not, ◌&&◌, ◌==◌, List, [], ◌∷◌, ◌++◌, map, flat_map, find, Option, Some, None}
use Rattle.std.specs.Str.{bytes_eq}
use Rattle.cfj_model.specs.Judging.{RuleAt, Pair, extends_itself, pair_of}
use Rattle.cfj_model.specs.Judging.{judged_at, judged_ctor, judged_field, judged_method}
use Rattle.cfj_model.specs.LookUps.{Table, declared, is_known}
use Rattle.cfj_model.specs.Members.{Placed, placed}
use Rattle.cfj_model.specs.ProductLines.{ProductLine}
use Rattle.cfj_model.specs.declared.class.Class.{Class}
use Rattle.cfj_model.specs.declared.class.Method.{Method}
use Rattle.cfj_model.specs.declared.site.Rule.TheVariants.{K1, K2}
use Rattle.cfj_model.specs.declared.site.Site.{Site}
use Rattle.cfj_model.specs.declared.site.Site.TheVariants as site
use Rattle.cfj_words.specs.Lists.{Has}
use Rattle.unit_facts.specs.declared.unit.Unit.{Unit}
use Rattle.unit_facts.specs.declared.unit.Unit.TheVariants as unit

-- the units of a class: its own, and its methods'
abbrev pub class_units : Class → List Unit
class_units k = unit.Class k.name ∷ map (λ m. unit.Method k.name m.name m.alt) k.methods

-- the units of a project, in order: the model's, then class by class
abbrev pub units_of : Table → List Unit
units_of p = unit.Model ∷ flat_map class_units p

-- the unit is one of the project's
abbrev pub IsUnit : ProductLine → Unit → Type 0
IsUnit q u = Has (units_of q.classes) u

-- the method has this name and alt
abbrev pub is_declaration : List ℕ → ℕ → Method → Bool
is_declaration m alt d = bytes_eq d.name m && (d.alt == alt)

-- the method of this name and alt, with those before it in its class
abbrev pub placed_method : List ℕ → ℕ → Class → Option (Placed Method)
placed_method m alt k = find (λ d. is_declaration m alt d.item) (placed k.methods)

-- what there is of something that may be absent
abbrev pub of_some : {A B : Type 0} → (A → List B) → Option A → List B
of_some of None = []
of_some of (Some x) = of x

-- what is judged of a class by itself: the class, its fields and its constructor
abbrev pub judged_own : Table → Class → List RuleAt
judged_own p k =
    judged_at (site.Class k.name) ((K1, not (is_known p k.parent)) ∷ (K2, extends_itself p k) ∷ [])
    ++ (flat_map (judged_field p k) (placed k.fields) ++ judged_ctor p k)

-- what is judged in a unit; nothing where the project hasn't got it
abbrev pub unit_judged : Table → Unit → List RuleAt
unit_judged p unit.Model = []
unit_judged p (unit.Class c) = of_some (judged_own p) (declared p c)
unit_judged p (unit.Method c m alt) = of_some (λ k. of_some (judged_method p k) (placed_method m alt k)) (declared p c)

-- the pairs of a unit
abbrev pub unit_pairs : Table → Unit → List Pair
unit_pairs p u = map pair_of (unit_judged p u)

-- the unit that a site lies in
abbrev pub unit_of : Site → Unit
unit_of site.Model = unit.Model
unit_of (site.Class c) = unit.Class c
unit_of (site.Field c f alt) = unit.Class c
unit_of (site.Ctor c) = unit.Class c
unit_of (site.CtorParam c i) = unit.Class c
unit_of (site.SuperArg c i) = unit.Class c
unit_of (site.Assign c i) = unit.Class c
unit_of (site.Method c m alt) = unit.Method c m alt
unit_of (site.Param c m alt i) = unit.Method c m alt
unit_of (site.Node c m alt n) = unit.Method c m alt
