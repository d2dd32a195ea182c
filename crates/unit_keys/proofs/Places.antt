-- The classes and the methods that are found, by their places.
use Rattle.std.proofs.Common.{◌≡◌, ℕ, zero, suc, ◌<◌, Bool, true, false, cond, List, [], ◌∷◌, length, map, filter, slice_get, nat_lt, Option, None, Some, option_map, refl, sym, subst, ◌∙◌, ap, ltb-true, arith}
use Rattle.std.specs.List.{find, position, position_or_len}
use Rattle.std.specs.Str.{bytes_eq}
use Rattle.std.proofs.lemmas.Bool.{lt-ltb}
use Rattle.std.proofs.lemmas.List.Folds.{find_at}
use Rattle.std.proofs.lemmas.Option.{slice_get_within}
use Rattle.cfj_model.specs.LookUps.{Table, declared, is_called}
use Rattle.cfj_model.specs.Members.{Placed}
use Rattle.cfj_model.specs.declared.class.Class.{Class}
use Rattle.cfj_model.specs.declared.class.Method.{Method}
use Rattle.cfj_words.specs.Lists.{Has}
use Rattle.class_table.proofs.Members.{find_has, find_none, has_filter, has_map, has_none, name_is, not_true, unlike}
use Rattle.locality_law.proofs.Methods.{method_found}
use Rattle.unit_facts.specs.Facts.{Signature, absent, if_any, if_some, method_is, signature_of, signatures_are, signatures_of}
use Rattle.unit_facts.specs.Units.{is_declaration, placed_method}
use Rattle.unit_keys.specs.Parts.{at_place}

pub some_within : {A : Type 0} (xs : List A) (k : ℕ) → k < length xs → (x : A) × (slice_get xs k ≡ Some x)
some_within [] k l = absurd (omega (arith, l))
some_within (x ∷ xs) zero l = (x, refl)
some_within (x ∷ xs) (suc k) l = some_within xs k (omega (arith, l))

-- what stands at the first place that passes
pub record IsFound {A : Type 0} (p : A → Bool) (xs : List A) (i : ℕ) : Type 0 where
  pub item : A
  pub within : i < length xs
  pub here : slice_get xs i ≡ Some item
  pub found : find p xs ≡ Some item

pub at_first : {A : Type 0} (p : A → Bool) (xs : List A) (i : ℕ) → position p xs ≡ Some i → IsFound p xs i
at_first {A} p xs i e = go (nat_lt n (length xs)) refl e
  where
    n : ℕ
    n = position_or_len p xs

    go : (b : Bool) → nat_lt n (length xs) ≡ b → cond b (Some n) None ≡ Some i → IsFound p xs i
    go false q e = absurd (unlike e)
    go true q e =
        let s : n ≡ i = cc e in
        let l : n < length xs = ltb-true n (length xs) q in
        let x = some_within xs n l in
        let f : find p xs ≡ Some x.0 = find_at p xs ∙ x.1 in
        record { item = x.0; within = subst (λ w. w < length xs) s l; here = ap (slice_get xs) (sym s) ∙ x.1; found = f }

pub nowhere : {A : Type 0} (p : A → Bool) (xs : List A) → position p xs ≡ None → find p xs ≡ None
nowhere {A} p xs e = go (find p xs) refl
  where
    n : ℕ
    n = position_or_len p xs

    none : (x : A) → find p xs ≡ Some x → (b : Bool) → nat_lt n (length xs) ≡ b → cond b (Some n) None ≡ None → ⊥
    none x f true q e = cc e
    none x f false q e = not_true (sym (lt-ltb n (length xs) (slice_get_within xs n x (sym (find_at p xs) ∙ f))) ∙ q)

    go : (o : Option A) → find p xs ≡ o → o ≡ None
    go None f = refl
    go (Some x) f = absurd (none x f (nat_lt n (length xs)) refl e)

-- ---- classes

pub class_at : (p : Table) (n : List ℕ) (i : ℕ) (k : Class) → position (is_called n) p ≡ Some i → slice_get p i ≡ Some k → Some k ≡ declared p n
class_at p n i k e here = let f = at_first (is_called n) p i e in sym here ∙ f.here ∙ sym f.found

-- ---- methods

filter_none : {A : Type 0} (p : A → Bool) (xs : List A) → ((x : A) → Has xs x → p x ≡ false) → filter p xs ≡ []
filter_none p [] each = refl
filter_none p (x ∷ xs) each = ap (λ b. cond b (x ∷ filter p xs) (filter p xs)) (each x (0, refl)) ∙ filter_none p xs (λ y h. each y (suc h.0, h.1))

any_some : (gs : List Signature) (g : Signature) → Has gs g → if_any gs ≡ signatures_are gs
any_some [] g h = absurd (has_none g h)
any_some (x ∷ gs) g h = refl

abbrev is_named : List ℕ → Method → Bool
is_named m d = bytes_eq d.name m

-- the signatures of the name of the first method that has it
pub signatures_found : (m : List ℕ) (k : Class) (i : ℕ) → position (λ (d : Method). bytes_eq d.name m) k.methods ≡ Some i
    → at_place (λ d. signatures_are (signatures_of d.name k)) k i ≡ if_any (signatures_of m k)
signatures_found m k i e =
    let f = at_first (is_named m) k.methods i e in
    let has = find_has (is_named m) k.methods f.item f.found in
    let there = has_filter (is_named m) k.methods f.item has.0 has.1 in
    ap (if_some (λ (d : Method). signatures_are (signatures_of d.name k))) f.here
    ∙ ap (λ n. signatures_are (signatures_of n k)) (name_is f.item.name m has.1)
    ∙ sym (any_some (signatures_of m k) (signature_of f.item) (has_map signature_of (filter (is_named m) k.methods) f.item there))

pub signatures_lacking : (m : List ℕ) (k : Class) → position (λ (d : Method). bytes_eq d.name m) k.methods ≡ None → absent ≡ if_any (signatures_of m k)
signatures_lacking m k e =
    let f = nowhere (is_named m) k.methods e in
    sym (ap (λ ds. if_any (map signature_of ds)) (filter_none (is_named m) k.methods (find_none (is_named m) k.methods f)))

-- the method of a name and an alt
pub method_here : (m : List ℕ) (alt : ℕ) (k : Class) (i : ℕ) → position (is_declaration m alt) k.methods ≡ Some i
    → at_place method_is k i ≡ if_some method_is (option_map (λ (d : Placed Method). d.item) (placed_method m alt k))
method_here m alt k i e =
    let f = at_first (is_declaration m alt) k.methods i e in
    ap (if_some method_is) (f.here ∙ sym f.found ∙ sym (method_found m alt k))

pub method_lacking : (m : List ℕ) (alt : ℕ) (k : Class) → position (is_declaration m alt) k.methods ≡ None
    → absent ≡ if_some method_is (option_map (λ (d : Placed Method). d.item) (placed_method m alt k))
method_lacking m alt k e = ap (if_some method_is) (sym (nowhere (is_declaration m alt) k.methods e) ∙ sym (method_found m alt k))
