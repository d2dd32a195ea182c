-- The facts of a project: what each key of it holds. A judgement may look at nothing else.
use Rattle.std.specs.Prelude.{◌≡◌, ℕ, Bool, List, [], ◌∷◌, map, filter, Option, Some, None, option_map, option_and_then}
use Rattle.std.specs.Str.{bytes_eq}
use Rattle.cfj_logic.specs.Sides.{Sides}
use Rattle.cfj_model.specs.LookUps.{Table, declared}
use Rattle.cfj_model.specs.Members.{Placed}
use Rattle.cfj_model.specs.ProductLines.{ProductLine}
use Rattle.cfj_model.specs.declared.class.Class.{Class}
use Rattle.cfj_model.specs.declared.class.Field.{Field}
use Rattle.cfj_model.specs.declared.class.Method.{Method}
use Rattle.cfj_model.specs.declared.class.Param.{Param}
use Rattle.cfj_model.specs.declared.feature_model.FeatureModel.{FeatureModel}
use Rattle.cfj_words.specs.Lists.{Has}
use Rattle.unit_facts.specs.Units.{placed_method}
use Rattle.unit_facts.specs.declared.unit.Key.{Key}
use Rattle.unit_facts.specs.declared.unit.Key.TheVariants as key
use Rattle.unit_facts.specs.declared.unit.Unit.{Unit}
use Rattle.unit_facts.specs.declared.unit.Unit.TheVariants as unit

-- a class as others see it: its colours, its superclass, and its fields with alts, colours, types and names
pub record Head : Type 0 where
  pub colors : Sides
  pub parent : List ℕ
  pub fields : List Field

-- what a method takes: colours, type and name, without the slot
pub record Taken : Type 0 where
  pub colors : Sides
  pub of : List ℕ
  pub name : List ℕ

-- a declaration of a method as others see it, without its body
pub record Signature : Type 0 where
  pub alt : ℕ
  pub colors : Sides
  pub result : List ℕ
  pub params : List Taken

-- what a fact holds
pub data Contents : Type 0 where
  absent : Contents
  model_is : FeatureModel → Contents
  head_is : Head → Contents
  signatures_are : List Signature → Contents
  class_is : Class → Contents
  method_is : Method → Contents

abbrev pub head_of : Class → Head
head_of k = record { colors = k.colors; parent = k.parent; fields = k.fields }

abbrev pub taken_of : Param → Taken
taken_of p = record { colors = p.colors; of = p.of; name = p.name }

abbrev pub signature_of : Method → Signature
signature_of m = record { alt = m.alt; colors = m.colors; result = m.result; params = map taken_of m.params }

-- all declarations of a name in a class, in order
abbrev pub signatures_of : List ℕ → Class → List Signature
signatures_of m k = map signature_of (filter (λ d. bytes_eq d.name m) k.methods)

-- a class without its methods
abbrev pub own_of : Class → Class
own_of k = record k { methods = [] }

-- ---- of what is declared

abbrev pub head_at : Table → List ℕ → Option Head
head_at p n = option_map head_of (declared p n)

-- none for a class that isn't declared
abbrev pub signatures_in : List ℕ → Option Class → List Signature
signatures_in m None = []
signatures_in m (Some k) = signatures_of m k

abbrev pub signatures_at : Table → List ℕ → List ℕ → List Signature
signatures_at p n m = signatures_in m (declared p n)

abbrev pub own_at : Table → List ℕ → Option Class
own_at p c = option_map own_of (declared p c)

abbrev pub method_at : Table → List ℕ → List ℕ → ℕ → Option Method
method_at p c m alt =
    option_and_then (λ k. option_map (λ (d : Placed Method). d.item) (placed_method m alt k)) (declared p c)

-- ---- the fact at a key

-- absent where there is none
abbrev pub if_some : {A : Type 0} → (A → Contents) → Option A → Contents
if_some holds None = absent
if_some holds (Some x) = holds x

-- absent where no declaration has the name
abbrev pub if_any : List Signature → Contents
if_any [] = absent
if_any (s ∷ ss) = signatures_are (s ∷ ss)

abbrev pub own_fact : Table → Unit → Contents
own_fact p unit.Model = absent
own_fact p (unit.Class c) = if_some class_is (own_at p c)
own_fact p (unit.Method c m alt) = if_some method_is (method_at p c m alt)

-- the fact of a project at a key
abbrev pub fact : ProductLine → Key → Contents
fact q key.Model = model_is q.model
fact q (key.Head c) = if_some head_is (head_at q.classes c)
fact q (key.Sig c m) = if_any (signatures_at q.classes c m)
fact q (key.Own u) = own_fact q.classes u

-- the project has these facts
abbrev pub HasFacts : ProductLine → List (Key × Contents) → Type 0
HasFacts q fs = (f : Key × Contents) → Has fs f → fact q f.0 ≡ f.1
