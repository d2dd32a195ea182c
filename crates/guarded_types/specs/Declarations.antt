-- Declarations of methods, with the classes that declare them.
use Rattle.std.specs.Prelude.{ℕ, List, map, filter, Option, option_map}
use Rattle.std.specs.Str.{bytes_eq}
use Rattle.cfj_logic.specs.Selections.{Chosen}
use Rattle.cfj_model.specs.LookUps.{Table, chain, first_some, method_called}
use Rattle.cfj_model.specs.Projection.{projected_method}
use Rattle.cfj_model.specs.declared.class.Class.{Class}
use Rattle.cfj_model.specs.declared.class.Method.{Method}
use Rattle.guarded_types.specs.declared.marked.Marked.{Marked}
use Rattle.guarded_types.specs.declared.methods.Declaration.{Declaration}

-- the nearest class that declares a method of this name, by its own name, and what it declares
abbrev pub declaration_of : Table → List ℕ → List ℕ → Option (List ℕ × Method)
declaration_of p c m = first_some (λ k. option_map (λ d. (k.name, d)) (method_called m k)) (chain p c)

-- what a variant has of a declaration
abbrev pub left_of : Chosen → Declaration → List ℕ × Method
left_of s d = (d.class.now.name, projected_method s d.class.now.colors d.method.now)

-- what declarations refer to
abbrev pub read : List (Marked Declaration) → List (Marked (Class × Method))
read xs = map (λ x. record { marks = x.marks; item = (x.item.class.now, x.item.method.now) }) xs

-- the methods of this name that a class itself declares, each with the class and with the method's own marks
abbrev pub named_methods : List ℕ → Class → List (Marked (Class × Method))
named_methods m k = map (λ d. record { marks = d.colors; item = (k, d) }) (filter (λ d. bytes_eq d.name m) k.methods)
