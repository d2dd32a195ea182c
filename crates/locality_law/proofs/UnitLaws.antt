-- The locality law, unit by unit.
use Rattle.std.proofs.Common.{◌≡◌, ◌⊎◌, inl, inr, ℕ, ◌==◌, Bool, true, false, cond, List, [], ◌∷◌, map, Some, option_map, refl, sym, ◌∙◌, ap, ap₂, subst}
use Rattle.std.specs.List.{find, flat_map}
use Rattle.std.specs.Option.{option_and_then}
use Rattle.std.specs.Str.{bytes_eq}
use Rattle.std.proofs.lemmas.Bool.{and_from, eq-eqb}
use Rattle.cfj_model.specs.LookUps.{Table, declared}
use Rattle.cfj_model.specs.Members.{Placed, method_alts_rise}
use Rattle.cfj_model.specs.ProductLines.{IsProject, ProductLine}
use Rattle.cfj_model.specs.declared.class.Class.{Class}
use Rattle.cfj_model.specs.declared.class.Method.{Method}
use Rattle.cfj_words.specs.Lists.{Has}
use Rattle.class_table.proofs.Members.{find_distinct, has_cases, has_none, is_name, unlike}
use Rattle.unit_facts.specs.Facts.{method_at, own_at, own_of}
use Rattle.unit_facts.specs.Judgements.{IsLocal}
use Rattle.unit_facts.specs.Units.{class_units, is_declaration, placed_method, units_of}
use Rattle.unit_facts.specs.declared.unit.Key.TheVariants as key
use Rattle.unit_facts.specs.declared.unit.Unit.{Unit}
use Rattle.unit_facts.specs.declared.unit.Unit.TheVariants as unit
use Rattle.locality_law.proofs.ClassLaw.{class_law}
use Rattle.locality_law.proofs.Items.{IsAlone, flat_has, map_has}
use Rattle.locality_law.proofs.MethodLaw.{method_law}
use Rattle.locality_law.proofs.Methods.{method_found, rise_alone}
use Rattle.locality_law.proofs.SeenVariants.{AreNamedApart}
use Rattle.locality_law.proofs.Told.{kept_class}

-- ---- units that are there

pub alone_found : {A : Type 0} (test : A → Bool) (xs : List A) → IsAlone test xs → (x : A) → Has xs x → test x ≡ true → find test xs ≡ Some x
alone_found test [] alone x h t = absurd (has_none x h)
alone_found {A} test (y ∷ ys) alone x h t = go (alone_found test ys alone.1 x) (has_cases y ys x h) (test y) refl
  where
    go : (Has ys x → test x ≡ true → find test ys ≡ Some x) → (y ≡ x) ⊎ Has ys x → (b : Bool) → test y ≡ b → cond b (Some y) (find test ys) ≡ Some x
    go ih (inl s) true e = ap (λ w. Some w) s
    go ih (inl s) false e = absurd (let none : ⊥ = cc (sym t ∙ ap test (sym s) ∙ e) in none)
    go ih (inr h) true e = absurd (unlike (sym (alone.0 e) ∙ ih h t))
    go ih (inr h) false e = ih h t

pub class_declared : (p : Table) → AreNamedApart p → (k : Class) → Has p k → declared p k.name ≡ Some k
class_declared p apart k h = find_distinct (λ (k : Class). k.name) p apart k h k.name refl

pub declaration_found : (k : Class) → method_alts_rise k.methods ≡ true → (d : Method) → Has k.methods d → find (is_declaration d.name d.alt) k.methods ≡ Some d
declaration_found k rise d h =
    alone_found (is_declaration d.name d.alt) k.methods (rise_alone d.name d.alt k.methods rise) d h (and_from (bytes_eq d.name d.name) (d.alt == d.alt) (is_name d.name d.name refl) (eq-eqb d.alt d.alt refl))

-- the class that a unit is of
class_with : (p : Table) (u : Unit) → Has (units_of p) u → (u ≡ unit.Model → ⊥) → (k : Class) × Has p k × Has (class_units k) u
class_with p u h never = go (has_cases unit.Model (flat_map class_units p) u h)
  where
    go : (unit.Model ≡ u) ⊎ Has (flat_map class_units p) u → (k : Class) × Has p k × Has (class_units k) u
    go (inl s) = absurd (never (sym s))
    go (inr there) = flat_has class_units p u there

pub own_of_unit : (p : Table) → AreNamedApart p → (c : List ℕ) → Has (units_of p) (unit.Class c) → (own : Class) × (own_at p c ≡ Some own)
own_of_unit p apart c h = go (has_cases (unit.Class home.0.name) (map method_unit home.0.methods) (unit.Class c) home.2)
  where
    home : (k : Class) × Has p k × Has (class_units k) (unit.Class c)
    home = class_with p (unit.Class c) h (λ s. let none : ⊥ = cc s in none)

    method_unit : Method → Unit
    method_unit m = unit.Method home.0.name m.name m.alt

    go : (unit.Class home.0.name ≡ unit.Class c) ⊎ Has (map method_unit home.0.methods) (unit.Class c) → (own : Class) × (own_at p c ≡ Some own)
    go (inl s) =
        let named : home.0.name ≡ c = cc s in
        (own_of home.0, ap (option_map own_of) (subst (λ n. declared p n ≡ Some home.0) named (class_declared p apart home.0 home.1)))
    go (inr there) = let r = map_has method_unit home.0.methods (unit.Class c) there in absurd (let none : ⊥ = cc r.2 in none)

pub method_of_unit : (q : ProductLine) → IsProject q → (c m : List ℕ) (alt : ℕ) → Has (units_of q.classes) (unit.Method c m alt) → (d : Method) × (method_at q.classes c m alt ≡ Some d)
method_of_unit q project c m alt h = go (has_cases (unit.Class home.0.name) (map method_unit home.0.methods) (unit.Method c m alt) home.2)
  where
    home : (k : Class) × Has q.classes k × Has (class_units k) (unit.Method c m alt)
    home = class_with q.classes (unit.Method c m alt) h (λ s. let none : ⊥ = cc s in none)

    method_unit : Method → Unit
    method_unit m = unit.Method home.0.name m.name m.alt

    at : (d : Method) → Has home.0.methods d → method_at q.classes home.0.name d.name d.alt ≡ Some d
    at d there =
        ap (option_and_then (λ k. option_map (λ (w : Placed Method). w.item) (placed_method d.name d.alt k))) (class_declared q.classes project.classes_distinct home.0 home.1)
        ∙ method_found d.name d.alt home.0
        ∙ declaration_found home.0 (kept_class q project home.0 home.1).rise d there

    go : (unit.Class home.0.name ≡ unit.Method c m alt) ⊎ Has (map method_unit home.0.methods) (unit.Method c m alt) → (d : Method) × (method_at q.classes c m alt ≡ Some d)
    go (inl s) = absurd (let none : ⊥ = cc s in none)
    go (inr there) =
        let r = map_has method_unit home.0.methods (unit.Method c m alt) there in
        let class : home.0.name ≡ c = cc r.2 in
        let name : r.0.name ≡ m = cc r.2 in
        let number : r.0.alt ≡ alt = cc r.2 in
        (r.0, sym (ap (λ w. method_at q.classes w m alt) class) ∙ sym (ap₂ (λ w a. method_at q.classes home.0.name w a) name number) ∙ at r.0 r.1)

-- ---- the law

pub local : IsLocal
local q r project other unit.Model h same = record {
  model = let e = same key.Model refl in cc e;
  there = λ k is. is;
  back = λ k is. is;
  pairs = refl;
  judged = λ s. refl;
}
local q r project other (unit.Class c) h same = let own = own_of_unit q.classes project.classes_distinct c h in class_law q r project other c own.0 own.1 same
local q r project other (unit.Method c m alt) h same = let d = method_of_unit q project c m alt h in method_law q r project other c m alt d.0 d.1 same
