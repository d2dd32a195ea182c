-- The reach of a unit: the keys whose facts its judgement depends on.
use Rattle.std.specs.Prelude.{◌≡◌, ◌⊎◌, ◌↔◌, ⊤, ℕ, false, List, [], ◌∷◌, ◌++◌, map, flat_map, Some}
use Rattle.std.specs.Str.{bytes_eq}
use Rattle.std.specs.Cmp.Lexicographic.{slice_cmp}
use Rattle.std.specs.Ordering.{nat_cmp}
use Rattle.std.specs.declared.cmp.Ordering.TheVariants.{Less}
use Rattle.cfj_model.specs.LookUps.{Table}
use Rattle.cfj_model.specs.ProductLines.{ProductLine, object}
use Rattle.cfj_model.specs.Typing.{joined, method_uses, param_types}
use Rattle.cfj_model.specs.declared.class.Class.{Class}
use Rattle.cfj_model.specs.declared.class.Field.{Field}
use Rattle.cfj_model.specs.declared.class.Method.{Method}
use Rattle.cfj_model.specs.declared.expr.Expr.{Expr}
use Rattle.cfj_model.specs.declared.expr.Expr.TheOpen.{Expr-F}
use Rattle.cfj_model.specs.declared.expr.Expr.TheFolds.{fold-Expr}
use Rattle.cfj_words.specs.Lists.{Has}
use Rattle.unit_facts.specs.Facts.{Head, Signature, Taken, head_at, method_at, own_at, signatures_at}
use Rattle.unit_facts.specs.declared.unit.Key.{Key}
use Rattle.unit_facts.specs.declared.unit.Key.TheVariants as key
use Rattle.unit_facts.specs.declared.unit.Unit.{Unit}
use Rattle.unit_facts.specs.declared.unit.Unit.TheVariants as unit

-- ---- what a declaration names

-- the methods that an expression calls
abbrev pub methods_called_step : Expr-F (List (List ℕ)) (List (List ℕ)) → List (List ℕ)
methods_called_step (Expr-F.Var slot name) = []
methods_called_step (Expr-F.Get slot on field) = on
methods_called_step (Expr-F.Call slot on method args) = method ∷ (on ++ joined args)
methods_called_step (Expr-F.New slot class args) = joined args
methods_called_step (Expr-F.Cast slot class on) = on

abbrev pub methods_called_by : Expr → List (List ℕ)
methods_called_by = fold-Expr (List (List ℕ)) (List (List ℕ)) methods_called_step (λ a. a.expr)

-- the methods that a declaration is judged by: those of its own name, and those that its body calls
abbrev pub methods_asked : Method → List (List ℕ)
methods_asked d = d.name ∷ methods_called_by d.body

abbrev pub types_of_fields : List Field → List (List ℕ)
types_of_fields fs = map (λ f. f.of) fs

-- the result and the parameters of each
abbrev pub signature_types : List Signature → List (List ℕ)
signature_types gs = flat_map (λ (g : Signature). g.result ∷ map (λ (t : Taken). t.of) g.params) gs

-- ---- classes that are reached

-- the classes reached from these on, by superclasses, by field types and by signatures of the methods that are asked for
pub data Reaches (p : Table) (starts asked : List (List ℕ)) : List ℕ → Type 0 where
  start : (n : List ℕ) → Has starts n → Reaches p starts asked n
  superclass : (n : List ℕ) (h : Head) → Reaches p starts asked n → head_at p n ≡ Some h
      → Reaches p starts asked h.parent
  field_type : (n t : List ℕ) (h : Head) → Reaches p starts asked n → head_at p n ≡ Some h
      → Has (types_of_fields h.fields) t → Reaches p starts asked t
  method_type : (n t m : List ℕ) → Reaches p starts asked n → Has asked m
      → Has (signature_types (signatures_at p n m)) t → Reaches p starts asked t

-- a class, its superclass, and so on, whatever the colours
pub data IsAbove (p : Table) (c : List ℕ) : List ℕ → Type 0 where
  itself : IsAbove p c c
  further : (n : List ℕ) (h : Head) → IsAbove p c n → head_at p n ≡ Some h → IsAbove p c h.parent

-- what a method of a class reaches
abbrev pub MethodReaches : Table → List ℕ → Method → List ℕ → Type 0
MethodReaches p c d = Reaches p (c ∷ method_uses d) (methods_asked d)

-- what a class reaches: what stands above it, and what its fields and its constructor's parameters are of
abbrev pub ClassReaches : Table → List ℕ → Class → List ℕ → Type 0
ClassReaches p c k n = IsAbove p c n ⊎ Has (types_of_fields k.fields ++ param_types k.ctor.params) n

-- ---- keys

-- `Object` has no facts
abbrev pub IsNotObject : List ℕ → Type 0
IsNotObject n = bytes_eq n object ≡ false

-- the keys that a class's unit depends on
abbrev pub InClassReach : Table → List ℕ → Class → Key → Type 0
InClassReach p c k key.Model = ⊤
InClassReach p c k (key.Head n) = ClassReaches p c k n × IsNotObject n
InClassReach p c k (key.Sig n m) = ⊥
InClassReach p c k (key.Own u) = u ≡ unit.Class c

-- the keys that a method's unit depends on
abbrev pub InMethodReach : Table → List ℕ → Method → Key → Type 0
InMethodReach p c d key.Model = ⊤
InMethodReach p c d (key.Head n) = MethodReaches p c d n × IsNotObject n
InMethodReach p c d (key.Sig n m) = MethodReaches p c d n × Has (methods_asked d) m × IsNotObject n
InMethodReach p c d (key.Own u) = u ≡ unit.Method c d.name d.alt

-- The key is in the reach of the unit. A unit that the project hasn't got has none.
abbrev pub InReach : ProductLine → Unit → Key → Type 0
InReach q unit.Model k = k ≡ key.Model
InReach q (unit.Class c) k = (own : Class) × (own_at q.classes c ≡ Some own) × InClassReach q.classes c own k
InReach q (unit.Method c m alt) k =
    (d : Method) × (method_at q.classes c m alt ≡ Some d) × InMethodReach q.classes c d k

-- ---- the reach as a list

-- the name stands before the other in byte order
abbrev pub IsBefore : List ℕ → List ℕ → Type 0
IsBefore n m = slice_cmp nat_cmp n m ≡ Less

-- before all of these
abbrev pub IsBeforeAll : List ℕ → List (List ℕ) → Type 0
IsBeforeAll n ms = (m : List ℕ) → Has ms m → IsBefore n m

-- each name before those behind it
abbrev pub Rise : List (List ℕ) → Type 0
Rise [] = ⊤
Rise (n ∷ ns) = IsBeforeAll n ns × Rise ns

-- the model, the heads of these classes, these methods' signatures in each of them, and the unit itself
abbrev pub keys_of : Unit → List (List ℕ) → List (List ℕ) → List Key
keys_of u names methods =
    key.Model ∷ (map key.Head names ++ (flat_map (λ n. map (key.Sig n) methods) names ++ key.Own u ∷ []))

-- keys in order, each once
pub record AreInOrder (u : Unit) (keys : List Key) : Type 0 where
  pub names : List (List ℕ)
  pub methods : List (List ℕ)
  pub names_rise : Rise names
  pub methods_rise : Rise methods
  pub are : keys ≡ keys_of u names methods

abbrev pub IsOrdered : Unit → List Key → Type 0
IsOrdered unit.Model keys = keys ≡ key.Model ∷ []
IsOrdered (unit.Class c) keys = AreInOrder (unit.Class c) keys
IsOrdered (unit.Method c m alt) keys = AreInOrder (unit.Method c m alt) keys

-- these keys are the unit's reach: those in it and no others, in order
pub record IsReach (q : ProductLine) (u : Unit) (keys : List Key) : Type 0 where
  pub ordered : IsOrdered u keys
  pub each : (k : Key) → Has keys k ↔ InReach q u k
