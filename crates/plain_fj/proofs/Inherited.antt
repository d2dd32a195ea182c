-- Fields and method types by rules are those of the chain, where no class extends itself.
use Rattle.std.proofs.Common.{◌≡◌, ℕ, ◌⊎◌, inl, inr, Bool, true, false, not, ◌||◌, cond, List, [], ◌∷◌, ◌++◌, map, Option, None, Some, is_some, refl, sym, ◌∙◌, ap, subst}
use Rattle.std.specs.Str.{bytes_eq}
use Rattle.std.proofs.lemmas.Bool.{or_cases}
use Rattle.cfj_model.specs.ProductLines.{object, are_distinct}
use Rattle.cfj_words.specs.Lists.{Has}
use Rattle.cfj_model.specs.LookUps.{Table, is_called, without, ancestors, declared, is_known, chain, first_some, fields_of, all_fields, field_called, field_of, method_called, method_of}
use Rattle.cfj_model.specs.Typing.{IsSubtype, s_refl, s_extends, s_trans, HasFields, f_object, f_class, HasMethodType, mt_class, mt_super, param_types, TypesField}
use Rattle.cfj_model.specs.declared.class.Class.{Class}
use Rattle.cfj_model.specs.declared.class.Field.{Field}
use Rattle.cfj_model.specs.declared.class.Method.{Method}
use Rattle.class_table.proofs.Members.{unlike, not_true, name_is, is_name, find_has, none_find, has_none, has_cases, has_rest, has_left, has_right, has_either, find_distinct, differs_name, filter_all}
use Rattle.class_table.proofs.Without.{declared_name, declared_has}
use Rattle.plain_fj.proofs.Chains.{IsAcyclic, Walk, stop, go_on, chain_walks, chain_of_none, chain_of_class}

-- What a class table has, both where it is well typed and where no rule breaks.
pub record IsSound (p : Table) : Type 0 where
  pub object_free : declared p object ≡ None
  pub found : (k : Class) → Has p k → declared p k.name ≡ Some k
  pub acyclic : IsAcyclic p
  pub parents : (k : Class) → Has p k → is_known p k.parent ≡ true
  pub field_types : (k : Class) → Has p k → (f : Field) → Has k.fields f → is_known p f.of ≡ true
  pub results : (k : Class) → Has p k → (m : Method) → Has k.methods m → is_known p m.result ≡ true
  pub fields_distinct : (k : Class) → Has p k → are_distinct (map (λ (f : Field). f.name) k.fields) ≡ true
  pub methods_distinct : (k : Class) → Has p k → are_distinct (map (λ (m : Method). m.name) k.methods) ≡ true
  pub apart : (k a : Class) → Has p k → Has p a → IsSubtype p k.name a.name → bytes_eq k.name a.name ≡ false
      → (f g : Field) → Has k.fields f → Has a.fields g → bytes_eq f.name g.name ≡ false

-- ---- known names

pub known_class : (p : Table) (c : List ℕ) (k : Class) → declared p c ≡ Some k → is_known p c ≡ true
known_class p c k q = go (bytes_eq c object)
  where
    go : (b : Bool) → b || is_some (declared p c) ≡ true
    go true = refl
    go false = ap is_some q

-- a known name that isn't declared is `Object`
known_object : (p : Table) (c : List ℕ) → is_known p c ≡ true → declared p c ≡ None → c ≡ object
known_object p c t q = go (or_cases (bytes_eq c object) (is_some (declared p c)) t)
  where
    go : (bytes_eq c object ≡ true) ⊎ (is_some (declared p c) ≡ true) → c ≡ object
    go (inl e) = name_is c object e
    go (inr e) = absurd (not_true (sym e ∙ ap is_some q))

-- what is above a known name is known
pub known_above : (p : Table) → IsSound p → (c d : List ℕ) → IsSubtype p c d → is_known p c ≡ true → is_known p d ≡ true
known_above p sound _ _ (s_refl c) t = t
known_above p sound _ _ (s_extends c d x) t = ap (is_known p) (sym x.2) ∙ sound.parents x.0 (declared_has p c x.0 x.1)
known_above p sound _ _ (s_trans c d f a b) t = known_above p sound d f b (known_above p sound c d a t)

-- and so is what is below it
pub known_below : (p : Table) → (c d : List ℕ) → IsSubtype p c d → is_known p d ≡ true → is_known p c ≡ true
known_below p _ _ (s_refl c) t = t
known_below p _ _ (s_extends c d x) t = known_class p c x.0 x.1
known_below p _ _ (s_trans c d f a b) t = known_below p c d a (known_below p d f b t)

-- ---- walks

-- a class of a walk is declared, and above its first name
walk_has : (p : Table) (c : List ℕ) (ks : List Class) → Walk p c ks → (j : Class) → Has ks j → (declared p j.name ≡ Some j) × IsSubtype p c j.name
walk_has p _ _ (stop c q) j h = absurd (has_none j h)
walk_has p _ _ (go_on c k ks q w) j h = go (walk_has p k.parent ks w j) (has_cases k ks j h)
  where
    go : (Has ks j → (declared p j.name ≡ Some j) × IsSubtype p k.parent j.name) → (k ≡ j) ⊎ Has ks j → (declared p j.name ≡ Some j) × IsSubtype p c j.name
    go ih (inl s) =
        let n : j.name ≡ c = ap (λ (w : Class). w.name) (sym s) ∙ declared_name p c k q in
        (ap (declared p) n ∙ q ∙ ap Some s, subst (IsSubtype p c) (sym n) (s_refl c))
    go ih (inr h) = let r = ih h in (r.0, s_trans c k.parent j.name (s_extends c k.parent (k, q, refl)) r.1)

-- a class of a walk behind the first has another name
walk_apart : (p : Table) (c : List ℕ) (k : Class) (ks : List Class) → IsAcyclic p → declared p c ≡ Some k → Walk p k.parent ks → (j : Class) → Has ks j → k.name ≡ j.name → ⊥
walk_apart p c k ks acyclic q w j h s =
    let r = walk_has p k.parent ks w j h in
    let n : j.name ≡ c = sym s ∙ declared_name p c k q in
    acyclic c k.parent (k, q, refl) (subst (IsSubtype p k.parent) n r.1)

-- ---- the first that is there

pub first_has : {A B : Type 0} (of : A → Option B) (xs : List A) (y : B) → first_some of xs ≡ Some y → (x : A) × Has xs x × (of x ≡ Some y)
first_has of [] y e = absurd (unlike e)
first_has {A = A} {B = B} of (x ∷ xs) y e = go (first_has of xs y) (of x) refl e
  where
    go : (first_some of xs ≡ Some y → (z : A) × Has xs z × (of z ≡ Some y)) → (o : Option B) → of x ≡ o → cond (is_some o) o (first_some of xs) ≡ Some y
        → (z : A) × Has (x ∷ xs) z × (of z ≡ Some y)
    go ih (Some z) q e = (x, (0, refl), q ∙ e)
    go ih None q e = let r = ih e in (r.0, has_rest x xs r.0 r.1, r.2)

first_here : {A B : Type 0} (of : A → Option B) (x : A) (xs : List A) (y : B) → of x ≡ Some y → first_some of (x ∷ xs) ≡ Some y
first_here of x xs y q = ap (λ o. cond (is_some o) o (first_some of xs)) q

first_later : {A B : Type 0} (of : A → Option B) (x : A) (xs : List A) → of x ≡ None → first_some of (x ∷ xs) ≡ first_some of xs
first_later of x xs q = ap (λ o. cond (is_some o) o (first_some of xs)) q

-- ---- fields

-- Fields by the rules are those of the chain.
pub fields_are : (p : Table) → declared p object ≡ None → IsAcyclic p → (c : List ℕ) (fs : List Field) → HasFields p c fs → fs ≡ all_fields p c
fields_are p free acyclic _ _ f_object = sym (ap fields_of (chain_of_none p object acyclic free))
fields_are p free acyclic _ _ (f_class c k above q h) = ap (λ z. z ++ k.fields) (fields_are p free acyclic k.parent above h) ∙ sym (ap fields_of (chain_of_class p c k acyclic q))

fields_walked : (p : Table) → ((k : Class) → Has p k → is_known p k.parent ≡ true) → (c : List ℕ) (ks : List Class) → Walk p c ks → is_known p c ≡ true
    → HasFields p c (fields_of ks)
fields_walked p parents _ _ (stop c q) t = subst (λ n. HasFields p n []) (sym (known_object p c t q)) f_object
fields_walked p parents _ _ (go_on c k ks q w) t = f_class c k (fields_of ks) q (fields_walked p parents k.parent ks w (parents k (declared_has p c k q)))

-- A known class has the fields of its chain.
pub are_fields : (p : Table) → IsSound p → (c : List ℕ) → is_known p c ≡ true → HasFields p c (all_fields p c)
are_fields p sound c t = fields_walked p sound.parents c (chain p c) (chain_walks p c sound.acyclic) t

-- what has fields is known
pub fields_known : (p : Table) (c : List ℕ) (fs : List Field) → HasFields p c fs → is_known p c ≡ true
fields_known p _ _ f_object = refl
fields_known p _ _ (f_class c k above q h) = known_class p c k q

-- a class's fields are those of its superclass and its own
pub own_fields : (p : Table) → IsAcyclic p → (k : Class) → declared p k.name ≡ Some k → all_fields p k.name ≡ all_fields p k.parent ++ k.fields
own_fields p acyclic k q = ap fields_of (chain_of_class p k.name k acyclic q)

fields_of_has : (ks : List Class) (d : Field) → Has (fields_of ks) d → (k : Class) × Has ks k × Has k.fields d
fields_of_has [] d h = absurd (has_none d h)
fields_of_has (k ∷ ks) d h = go (fields_of_has ks d) (has_either (fields_of ks) k.fields d h)
  where
    go : (Has (fields_of ks) d → (j : Class) × Has ks j × Has j.fields d) → Has (fields_of ks) d ⊎ Has k.fields d → (j : Class) × Has (k ∷ ks) j × Has j.fields d
    go ih (inl h) = let r = ih h in (r.0, has_rest k ks r.0 r.1, r.2)
    go ih (inr h) = (k, (0, refl), h)

has_fields_of : (ks : List Class) (k : Class) (d : Field) → Has ks k → Has k.fields d → Has (fields_of ks) d
has_fields_of [] k d h f = absurd (has_none k h)
has_fields_of (j ∷ ks) k d h f = go (has_fields_of ks k d) (has_cases j ks k h)
  where
    go : (Has ks k → Has k.fields d → Has (fields_of ks) d) → (j ≡ k) ⊎ Has ks k → Has (fields_of ks ++ j.fields) d
    go ih (inl s) = has_right (fields_of ks) j.fields d (subst (λ (w : Class). Has w.fields d) (sym s) f)
    go ih (inr h) = has_left (fields_of ks) j.fields d (ih h f)

-- the fields of a known class have known types
pub field_known : (p : Table) → IsSound p → (c : List ℕ) (d : Field) → Has (all_fields p c) d → is_known p d.of ≡ true
field_known p sound c d h =
    let r = fields_of_has (chain p c) d h in
    let w = walk_has p c (chain p c) (chain_walks p c sound.acyclic) r.0 r.1 in
    sound.field_types r.0 (declared_has p r.0.name r.0 w.0) d r.2

-- The nearest field is one of all.
pub nearest_has : (p : Table) (c f : List ℕ) (d : Field) → field_of p c f ≡ Some d → Has (all_fields p c) d × (d.name ≡ f)
nearest_has p c f d e =
    let r = first_has (field_called f) (chain p c) d e in
    let h = find_has (λ (y : Field). bytes_eq y.name f) r.0.fields d r.2 in
    (has_fields_of (chain p c) r.0 d r.1 h.0, name_is d.name f h.1)

field_walked : (p : Table) → IsSound p → (f : List ℕ) (d : Field) → d.name ≡ f → (c : List ℕ) (ks : List Class) → Walk p c ks → Has (fields_of ks) d
    → first_some (field_called f) ks ≡ Some d
field_walked p sound f d n _ _ (stop c q) h = absurd (has_none d h)
field_walked p sound f d n _ _ (go_on c k ks q w) h = go (field_walked p sound f d n k.parent ks w) (has_either (fields_of ks) k.fields d h)
  where
    here : Has p k
    here = declared_has p c k q

    go : (Has (fields_of ks) d → first_some (field_called f) ks ≡ Some d) → Has (fields_of ks) d ⊎ Has k.fields d → first_some (field_called f) (k ∷ ks) ≡ Some d
    go ih (inr h) = first_here (field_called f) k ks d (find_distinct (λ (y : Field). y.name) k.fields (sound.fields_distinct k here) d h f n)
    go ih (inl h) = first_later (field_called f) k ks (none_find (λ (y : Field). bytes_eq y.name f) k.fields apart) ∙ ih h
      where
        apart : (y : Field) → Has k.fields y → bytes_eq y.name f ≡ false
        apart y own =
            let r = fields_of_has ks d h in
            let j = walk_has p k.parent ks w r.0 r.1 in
            let differ = differs_name k.name r.0.name (walk_apart p c k ks sound.acyclic q w r.0 r.1) in
            let up : IsSubtype p k.name r.0.name =
            s_trans k.name k.parent r.0.name (s_extends k.name k.parent (k, sound.found k here, refl)) j.1 in
            ap (bytes_eq y.name) (sym n) ∙ sound.apart k r.0 here (declared_has p r.0.name r.0 j.0) up differ y d own r.2

-- Of all fields the one that is named is the nearest.
pub typed_field : (p : Table) → IsSound p → (c f t : List ℕ) → TypesField (all_fields p c) f t → (d : Field) × (field_of p c f ≡ Some d) × (d.of ≡ t)
typed_field p sound c f t (d, h, n, e) = (d, field_walked p sound f d n c (chain p c) (chain_walks p c sound.acyclic) h, e)

-- ---- methods

-- A method's type by the rules is that of the nearest declaration.
pub method_is : (p : Table) → IsSound p → (m c : List ℕ) (ts : List (List ℕ)) (r : List ℕ) → HasMethodType p m c ts r
    → (d : Method) × (method_of p c m ≡ Some d) × (param_types d.params ≡ ts) × (d.result ≡ r)
method_is p sound m _ _ _ (mt_class c k d q h n) =
    let f = find_distinct (λ (y : Method). y.name) k.methods (sound.methods_distinct k (declared_has p c k q)) d h m n in
    (d, ap (first_some (method_called m)) (chain_of_class p c k sound.acyclic q) ∙ first_here (method_called m) k (chain p k.parent) d f, refl, refl)
method_is p sound m _ _ _ (mt_super c k ts r q f h) =
    let s = method_is p sound m k.parent ts r h in
    (s.0, ap (first_some (method_called m)) (chain_of_class p c k sound.acyclic q) ∙ first_later (method_called m) k (chain p k.parent) f ∙ s.1, s.2, s.3)

method_walked : (p : Table) (m : List ℕ) (d : Method) (c : List ℕ) (ks : List Class) → Walk p c ks → first_some (method_called m) ks ≡ Some d
    → HasMethodType p m c (param_types d.params) d.result
method_walked p m d _ _ (stop c q) e = absurd (unlike e)
method_walked p m d _ _ (go_on c k ks q w) e = go (method_walked p m d k.parent ks w) (method_called m k) refl e
  where
    go : (first_some (method_called m) ks ≡ Some d → HasMethodType p m k.parent (param_types d.params) d.result) → (o : Option Method) → method_called m k ≡ o
        → cond (is_some o) o (first_some (method_called m) ks) ≡ Some d → HasMethodType p m c (param_types d.params) d.result
    go ih (Some x) f e =
        let h = find_has (λ (y : Method). bytes_eq y.name m) k.methods d (f ∙ e) in
        mt_class c k d q h.0 (name_is d.name m h.1)
    go ih None f e = mt_super c k (param_types d.params) d.result q f (ih e)

pub is_method : (p : Table) → IsAcyclic p → (m c : List ℕ) (d : Method) → method_of p c m ≡ Some d → HasMethodType p m c (param_types d.params) d.result
is_method p acyclic m c d e = method_walked p m d c (chain p c) (chain_walks p c acyclic) e

-- a method that is found has a known result
pub result_known : (p : Table) → IsSound p → (m c : List ℕ) (d : Method) → method_of p c m ≡ Some d → is_known p d.result ≡ true
result_known p sound m c d e =
    let r = first_has (method_called m) (chain p c) d e in
    let w = walk_has p c (chain p c) (chain_walks p c sound.acyclic) r.0 r.1 in
    sound.results r.0 (declared_has p r.0.name r.0 w.0) d (find_has (λ (y : Method). bytes_eq y.name m) r.0.methods d r.2).0

-- the ancestors of a class are the chain of its superclass
pub ancestors_are : (p : Table) → IsAcyclic p → (k : Class) → declared p k.name ≡ Some k → ancestors p k.name ≡ chain p k.parent
ancestors_are p acyclic k q =
    ap (without k.name) (chain_of_class p k.name k acyclic q)
    ∙ ap (λ b. cond (not b) (k ∷ without k.name (chain p k.parent)) (without k.name (chain p k.parent))) (is_name k.name k.name refl)
    ∙ filter_all (λ a. not (is_called k.name a)) (chain p k.parent) other
  where
    other : (a : Class) → Has (chain p k.parent) a → not (is_called k.name a) ≡ true
    other a h = ap not (differs_name a.name k.name (λ s. walk_apart p k.name k (chain p k.parent) acyclic q (chain_walks p k.parent acyclic) a h (sym s)))
