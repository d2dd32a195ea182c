-- Featherweight Java (Igarashi, Pierce, Wadler, TOPLAS 23(3), 2001): its typing as the least relations closed under the rules.
use Rattle.std.specs.Prelude.{◌≡◌, ℕ, true, false, List, [], ◌∷◌, ◌++◌, map, flat_map, find, codes, Some, None}
use Rattle.std.specs.Str.{bytes_eq}
use Rattle.cfj_model.specs.ProductLines.{object, are_distinct}
use Rattle.cfj_model.specs.LookUps.{Table, declared, method_called, is_known}
use Rattle.cfj_words.specs.Lists.{Has}
use Rattle.cfj_model.specs.declared.class.Class.{Class}
use Rattle.cfj_model.specs.declared.class.Field.{Field}
use Rattle.cfj_model.specs.declared.class.Method.{Method}
use Rattle.cfj_model.specs.declared.class.Param.{Param}
use Rattle.cfj_model.specs.declared.expr.Arg.{Arg}
use Rattle.cfj_model.specs.declared.expr.Expr.{Expr}
use Rattle.cfj_model.specs.declared.expr.Expr.TheVariants as e
use Rattle.cfj_model.specs.declared.expr.Expr.TheOpen.{Expr-F}
use Rattle.cfj_model.specs.declared.expr.Expr.TheFolds.{fold-Expr}

-- `class C extends D` is declared
abbrev pub Extends : Table → List ℕ → List ℕ → Type 0
Extends p c d = (k : Class) × (declared p c ≡ Some k) × (k.parent ≡ d)

-- subtyping, C <: D
pub data IsSubtype (p : Table) : List ℕ → List ℕ → Type 0 where
  s_refl : (c : List ℕ) → IsSubtype p c c
  s_extends : (c d : List ℕ) → Extends p c d → IsSubtype p c d
  s_trans : (c d f : List ℕ) → IsSubtype p c d → IsSubtype p d f → IsSubtype p c f

-- fields(C): those of the superclass, then its own
pub data HasFields (p : Table) : List ℕ → List Field → Type 0 where
  f_object : HasFields p object []
  f_class : (c : List ℕ) (k : Class) (above : List Field) → declared p c ≡ Some k → HasFields p k.parent above → HasFields p c (above ++ k.fields)

-- the types of parameters
abbrev pub param_types : List Param → List (List ℕ)
param_types ps = map (λ p. p.of) ps

-- mtype(m, C): the parameter types and the result of a declaration of m in C, or, where C has none, in the nearest ancestor with one
pub data HasMethodType (p : Table) (m : List ℕ) : List ℕ → List (List ℕ) → List ℕ → Type 0 where
  mt_class : (c : List ℕ) (k : Class) (d : Method) → declared p c ≡ Some k → Has k.methods d → d.name ≡ m
      → HasMethodType p m c (param_types d.params) d.result
  mt_super : (c : List ℕ) (k : Class) (ts : List (List ℕ)) (r : List ℕ) → declared p c ≡ Some k → method_called m k ≡ None
      → HasMethodType p m k.parent ts r → HasMethodType p m c ts r

-- what a body may name: `this`, by its class, and the parameters
pub record Environment : Type 0 where
  pub class : List ℕ
  pub params : List Param

abbrev pub this : List ℕ
this = codes "this"

-- the type that the environment gives a variable
abbrev pub GivesType : Environment → List ℕ → List ℕ → Type 0
GivesType g x t = (y : Param) × (find (λ q. bytes_eq q.name x) g.params ≡ Some y) × (y.of ≡ t)

-- C is the type of the field f among these
abbrev pub TypesField : List Field → List ℕ → List ℕ → Type 0
TypesField fs f t = (d : Field) × Has fs d × (d.name ≡ f) × (d.of ≡ t)

mutual
  -- the typing of expressions, Γ ⊢ e : C, without the rule for casts between unrelated classes
  pub data HasType (p : Table) (g : Environment) : Expr → List ℕ → Type 0 where
    t_this : (slot : ℕ) → HasType p g (e.Var slot this) g.class
    t_var : (slot : ℕ) (x t : List ℕ) → bytes_eq x this ≡ false → GivesType g x t → HasType p g (e.Var slot x) t
    t_field : (slot : ℕ) (on : Expr) (f c t : List ℕ) (fs : List Field) → HasType p g on c → HasFields p c fs → TypesField fs f t
        → HasType p g (e.Get slot on f) t
    t_invk : (slot : ℕ) (on : Expr) (m c : List ℕ) (args : List Arg) (ts : List (List ℕ)) (r : List ℕ) → HasType p g on c
        → HasMethodType p m c ts r → HaveTypesBelow p g args ts → HasType p g (e.Call slot on m args) r
    t_new : (slot : ℕ) (c : List ℕ) (args : List Arg) (fs : List Field) → HasFields p c fs
        → HaveTypesBelow p g args (map (λ f. f.of) fs) → HasType p g (e.New slot c args) c
    t_ucast : (slot : ℕ) (c d : List ℕ) (on : Expr) → HasType p g on d → IsSubtype p d c → HasType p g (e.Cast slot c on) c
    t_dcast : (slot : ℕ) (c d : List ℕ) (on : Expr) → HasType p g on d → IsSubtype p c d → HasType p g (e.Cast slot c on) c

  -- arguments have types that are subtypes of these
  pub data HaveTypesBelow (p : Table) (g : Environment) : List Arg → List (List ℕ) → Type 0 where
    no_types : HaveTypesBelow p g [] []
    one_more : (a : Arg) (args : List Arg) (c t : List ℕ) (ts : List (List ℕ)) → HasType p g a.expr c → IsSubtype p c t
        → HaveTypesBelow p g args ts → HaveTypesBelow p g (a ∷ args) (t ∷ ts)

-- a method of class C is OK
pub record IsMethodOk (p : Table) (k : Class) (m : Method) : Type 0 where
  pub type : List ℕ
  pub typed : HasType p (record { class = k.name; params = m.params }) m.body type
  pub below : IsSubtype p type m.result
  pub overrides : (ts : List (List ℕ)) (r : List ℕ) → HasMethodType p m.name k.parent ts r → (ts ≡ param_types m.params) × (r ≡ m.result)

-- a type and a name
abbrev pub param_pair : Param → List ℕ × List ℕ
param_pair p = (p.of, p.name)

abbrev pub field_pair : Field → List ℕ × List ℕ
field_pair f = (f.of, f.name)

-- a class is OK: its constructor takes all fields, passes those of the superclass on and assigns its own
pub record IsClassOk (p : Table) (k : Class) : Type 0 where
  pub above : List Field
  pub inherited : HasFields p k.parent above
  pub takes : map param_pair k.ctor.params ≡ map field_pair (above ++ k.fields)
  pub sends : map (λ s. s.name) k.ctor.sends ≡ map (λ f. f.name) above
  pub assigns : map (λ a. a.name) k.ctor.assigns ≡ map (λ f. f.name) k.fields
  pub methods : (m : Method) → Has k.methods m → IsMethodOk p k m

-- lists, one behind another
abbrev pub joined : {A : Type 0} → List (List A) → List A
joined xss = flat_map (λ xs. xs) xss

-- the classes that an expression makes or casts to
abbrev pub classes_named_step : Expr-F (List (List ℕ)) (List (List ℕ)) → List (List ℕ)
classes_named_step (Expr-F.Var slot name) = []
classes_named_step (Expr-F.Get slot on field) = on
classes_named_step (Expr-F.Call slot on method args) = on ++ joined args
classes_named_step (Expr-F.New slot class args) = class ∷ joined args
classes_named_step (Expr-F.Cast slot class on) = class ∷ on

abbrev pub classes_named_by : Expr → List (List ℕ)
classes_named_by = fold-Expr (List (List ℕ)) (List (List ℕ)) classes_named_step (λ a. a.expr)

-- every class name that a method uses
abbrev pub method_uses : Method → List (List ℕ)
method_uses m = m.result ∷ (param_types m.params ++ classes_named_by m.body)

-- every class name that a class uses
abbrev pub class_uses : Class → List (List ℕ)
class_uses k = k.parent ∷ (map (λ f. f.of) k.fields ++ (param_types k.ctor.params ++ joined (map method_uses k.methods)))

-- the table is OK
pub record IsTableOk (p : Table) : Type 0 where
  pub known : (k : Class) → Has p k → (n : List ℕ) → Has (class_uses k) n → is_known p n ≡ true
  pub acyclic : (c d : List ℕ) → Extends p c d → IsSubtype p d c → ⊥
  pub apart : (k a : Class) → Has p k → Has p a → IsSubtype p k.name a.name → bytes_eq k.name a.name ≡ false
      → (f g : Field) → Has k.fields f → Has a.fields g → bytes_eq f.name g.name ≡ false
  pub fields_alone : (k : Class) → Has p k → are_distinct (map (λ f. f.name) k.fields) ≡ true
  pub methods_alone : (k : Class) → Has p k → are_distinct (map (λ m. m.name) k.methods) ≡ true

-- a program is well typed: its table and every class are OK
pub record IsWellTyped (p : Table) : Type 0 where
  pub table : IsTableOk p
  pub classes : (k : Class) → Has p k → IsClassOk p k
