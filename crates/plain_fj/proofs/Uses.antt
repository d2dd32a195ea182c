-- Lists of names that are the same, and the names that a class uses.
use Rattle.std.proofs.Common.{◌≡◌, ℕ, Bool, true, ◌&&◌, List, [], ◌∷◌, ◌++◌, map, refl, sym, ◌∙◌, ap, ap₂}
use Rattle.std.specs.List.{list_all}
use Rattle.std.specs.Str.{bytes_eq}
use Rattle.std.proofs.lemmas.Bool.{and_parts, and_from}
use Rattle.std.proofs.lemmas.List.Folds.{list_all-append, list_all-map}
use Rattle.cfj_words.specs.Lists.{Has}
use Rattle.cfj_model.specs.LookUps.{Table, is_known}
use Rattle.cfj_model.specs.Judging.{are_same}
use Rattle.cfj_model.specs.Typing.{param_types, param_pair, field_pair, classes_named_by, method_uses, class_uses, joined}
use Rattle.cfj_model.specs.declared.class.Class.{Class}
use Rattle.cfj_model.specs.declared.class.Field.{Field}
use Rattle.cfj_model.specs.declared.class.Method.{Method}
use Rattle.cfj_model.specs.declared.class.Param.{Param}
use Rattle.class_table.proofs.Members.{not_true, name_is, is_name, has_all, all_has, all_flat_map}
use Rattle.plain_fj.proofs.Quiet.{are_known_params}

-- ---- lists of names

pub same_is : (xs ys : List (List ℕ)) → are_same xs ys ≡ true → xs ≡ ys
same_is [] [] h = refl
same_is [] (y ∷ ys) h = absurd (not_true (sym h))
same_is (x ∷ xs) [] h = absurd (not_true (sym h))
same_is (x ∷ xs) (y ∷ ys) h = let parts = and_parts (bytes_eq x y) (are_same xs ys) h in ap₂ (λ a b. a ∷ b) (name_is x y parts.0) (same_is xs ys parts.1)

is_same : (xs : List (List ℕ)) → are_same xs xs ≡ true
is_same [] = refl
is_same (x ∷ xs) = and_from (bytes_eq x x) (are_same xs xs) (is_name x x refl) (is_same xs)

pub is_same_as : (xs ys : List (List ℕ)) → xs ≡ ys → are_same xs ys ≡ true
is_same_as xs ys e = ap (are_same xs) (sym e) ∙ is_same xs

-- equal types and names are equal pairs
pub pairs_same : (ps : List Param) (fs : List Field) → map (λ (p : Param). p.of) ps ≡ map (λ (f : Field). f.of) fs → map (λ (p : Param). p.name) ps ≡ map (λ (f : Field). f.name) fs
    → map param_pair ps ≡ map field_pair fs
pairs_same [] [] a b = refl
pairs_same [] (f ∷ fs) a b = absurd (let no : ⊥ = cc a in no)
pairs_same (p ∷ ps) [] a b = absurd (let no : ⊥ = cc a in no)
pairs_same (p ∷ ps) (f ∷ fs) a b =
    let of : p.of ≡ f.of = cc a in
    let name : p.name ≡ f.name = cc b in
    let ofs : map (λ (p : Param). p.of) ps ≡ map (λ (f : Field). f.of) fs = cc a in
    let names : map (λ (p : Param). p.name) ps ≡ map (λ (f : Field). f.name) fs = cc b in
    ap₂ (λ x xs. x ∷ xs) (ap₂ (λ x y. (x, y)) of name) (pairs_same ps fs ofs names)

pub types_same : (ps : List Param) (fs : List Field) → map param_pair ps ≡ map field_pair fs → map (λ (p : Param). p.of) ps ≡ map (λ (f : Field). f.of) fs
types_same [] [] e = refl
types_same [] (f ∷ fs) e = absurd (let no : ⊥ = cc e in no)
types_same (p ∷ ps) [] e = absurd (let no : ⊥ = cc e in no)
types_same (p ∷ ps) (f ∷ fs) e =
    let pair : param_pair p ≡ field_pair f = cc e in
    let rest : map param_pair ps ≡ map field_pair fs = cc e in
    ap₂ (λ x xs. x ∷ xs) (ap (λ (z : List ℕ × List ℕ). z.0) pair) (types_same ps fs rest)

pub names_same : (ps : List Param) (fs : List Field) → map param_pair ps ≡ map field_pair fs → map (λ (p : Param). p.name) ps ≡ map (λ (f : Field). f.name) fs
names_same [] [] e = refl
names_same [] (f ∷ fs) e = absurd (let no : ⊥ = cc e in no)
names_same (p ∷ ps) [] e = absurd (let no : ⊥ = cc e in no)
names_same (p ∷ ps) (f ∷ fs) e =
    let pair : param_pair p ≡ field_pair f = cc e in
    let rest : map param_pair ps ≡ map field_pair fs = cc e in
    ap₂ (λ x xs. x ∷ xs) (ap (λ (z : List ℕ × List ℕ). z.1) pair) (names_same ps fs rest)

-- ---- the names that a class uses

-- all names that a class uses are known
pub record UsesKnown (p : Table) (k : Class) : Type 0 where
  pub parent : is_known p k.parent ≡ true
  pub fields : list_all (λ (f : Field). is_known p f.of) k.fields ≡ true
  pub ctor : are_known_params p k.ctor.params ≡ true
  pub results : (m : Method) → Has k.methods m → is_known p m.result ≡ true
  pub params : (m : Method) → Has k.methods m → are_known_params p m.params ≡ true
  pub bodies : (m : Method) → Has k.methods m → list_all (is_known p) (classes_named_by m.body) ≡ true

params_known : (p : Table) (qs : List Param) → list_all (is_known p) (param_types qs) ≡ are_known_params p qs
params_known p qs = list_all-map (is_known p) (λ (q : Param). q.of) qs

methods_known : (p : Table) (ms : List Method) → list_all (is_known p) (joined (map method_uses ms)) ≡ list_all (λ m. list_all (is_known p) (method_uses m)) ms
methods_known p ms =
    all_flat_map (is_known p) (λ (xs : List (List ℕ)). xs) (map method_uses ms) ∙ list_all-map (λ (xs : List (List ℕ)). list_all (is_known p) xs) method_uses ms

method_known : (p : Table) (m : Method) → list_all (is_known p) (method_uses m) ≡ (is_known p m.result && (are_known_params p m.params && list_all (is_known p) (classes_named_by m.body)))
method_known p m =
    ap (λ b. is_known p m.result && b)
    (list_all-append (is_known p) (param_types m.params) (classes_named_by m.body) ∙ ap (λ b. b && list_all (is_known p) (classes_named_by m.body)) (params_known p m.params))

class_known : (p : Table) (k : Class) → list_all (is_known p) (class_uses k)
    ≡ (is_known p k.parent && (list_all (λ (f : Field). is_known p f.of) k.fields && (are_known_params p k.ctor.params && list_all (λ m. list_all (is_known p) (method_uses m)) k.methods)))
class_known p k =
    ap (λ b. is_known p k.parent && b)
    (list_all-append (is_known p) (map (λ (f : Field). f.of) k.fields) (param_types k.ctor.params ++ joined (map method_uses k.methods))
    ∙ ap₂ (λ a b. a && b) (list_all-map (is_known p) (λ (f : Field). f.of) k.fields)
    (list_all-append (is_known p) (param_types k.ctor.params) (joined (map method_uses k.methods))
    ∙ ap₂ (λ a b. a && b) (params_known p k.ctor.params) (methods_known p k.methods)))

pub uses_known : (p : Table) (k : Class) → list_all (is_known p) (class_uses k) ≡ true → UsesKnown p k
uses_known p k h =
    record { parent = a.0; fields = b.0; ctor = c.0; results = λ m i. (of m i).0; params = λ m i. (rest m i).0; bodies = λ m i. (rest m i).1 }
  where
    fs : Bool
    fs = list_all (λ (f : Field). is_known p f.of) k.fields

    cs : Bool
    cs = are_known_params p k.ctor.params

    ms : Bool
    ms = list_all (λ m. list_all (is_known p) (method_uses m)) k.methods

    a : (is_known p k.parent ≡ true) × ((fs && (cs && ms)) ≡ true)
    a = and_parts (is_known p k.parent) (fs && (cs && ms)) (sym (class_known p k) ∙ h)

    b : (fs ≡ true) × ((cs && ms) ≡ true)
    b = and_parts fs (cs && ms) a.1

    c : (cs ≡ true) × (ms ≡ true)
    c = and_parts cs ms b.1

    of : (m : Method) → Has k.methods m → (is_known p m.result ≡ true) × ((are_known_params p m.params && list_all (is_known p) (classes_named_by m.body)) ≡ true)
    of m i =
        and_parts (is_known p m.result) (are_known_params p m.params && list_all (is_known p) (classes_named_by m.body))
        (sym (method_known p m) ∙ all_has (λ m. list_all (is_known p) (method_uses m)) k.methods c.1 m i)

    rest : (m : Method) → Has k.methods m → (are_known_params p m.params ≡ true) × (list_all (is_known p) (classes_named_by m.body) ≡ true)
    rest m i = and_parts (are_known_params p m.params) (list_all (is_known p) (classes_named_by m.body)) (of m i).1

pub known_uses : (p : Table) (k : Class) → UsesKnown p k → list_all (is_known p) (class_uses k) ≡ true
known_uses p k u =
    class_known p k
    ∙ and_from (is_known p k.parent) (list_all (λ (f : Field). is_known p f.of) k.fields && (are_known_params p k.ctor.params && list_all (λ m. list_all (is_known p) (method_uses m)) k.methods)) u.parent
    (and_from (list_all (λ (f : Field). is_known p f.of) k.fields) (are_known_params p k.ctor.params && list_all (λ m. list_all (is_known p) (method_uses m)) k.methods) u.fields
    (and_from (are_known_params p k.ctor.params) (list_all (λ m. list_all (is_known p) (method_uses m)) k.methods) u.ctor (has_all (λ m. list_all (is_known p) (method_uses m)) k.methods each)))
  where
    each : (m : Method) → Has k.methods m → list_all (is_known p) (method_uses m) ≡ true
    each m i =
        method_known p m
        ∙ and_from (is_known p m.result) (are_known_params p m.params && list_all (is_known p) (classes_named_by m.body)) (u.results m i)
        (and_from (are_known_params p m.params) (list_all (is_known p) (classes_named_by m.body)) (u.params m i) (u.bodies m i))
