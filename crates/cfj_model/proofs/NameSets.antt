-- The names of classes as a set in their order.
use Rattle.std.proofs.Common.{◌≡◌, ℕ, zero, suc, ◌+◌, Bool, true, false, not, ◌||◌, cond, List, [], ◌∷◌, ◌++◌, map, take, slice_get, slice_set, nat_lt, length, None, Some, refl, sym, ◌∙◌, ap, add-one}
use Rattle.std.specs.List.{list_any, position, position_or_len}
use Rattle.std.specs.Str.{bytes_eq}
use Rattle.std.proofs.lemmas.Bool.{and_parts}
use Rattle.std.proofs.lemmas.List.{length-map}
use Rattle.std.proofs.lemmas.Bool.Decides.{same_from_decides}
use Rattle.std.proofs.lemmas.Slice.Eq.{bytes_eq-Decides}
use Rattle.indexmap.specs.IndexSet.{insert_key}
use Rattle.cfj_words.specs.Names.{is_among}
use Rattle.cfj_model.specs.ProductLines.{are_new, are_distinct}
use Rattle.cfj_model.specs.declared.class.Class.{Class}

bytes_eq-sym : (a b : List ℕ) → bytes_eq a b ≡ bytes_eq b a
bytes_eq-sym a b =
    let d = bytes_eq-Decides b a in
    same_from_decides (bytes_eq a b) (bytes_eq b a) (bytes_eq-Decides a b) (λ h. sym (d.0 h), λ e. d.1 (sym e))

among : (names : List (List ℕ)) (name : List ℕ) → list_any (bytes_eq name) names ≡ is_among names name
among [] name = refl
among (n ∷ ns) name = ap (λ b. b || list_any (bytes_eq name) ns) (bytes_eq-sym name n) ∙ ap (λ b. bytes_eq n name || b) (among ns name)

pub append_nil : {A : Type 0} (xs : List A) → xs ++ [] ≡ xs
append_nil [] = refl
append_nil (x ∷ xs) = ap (λ z. x ∷ z) (append_nil xs)

pub append_one : {A : Type 0} (xs : List A) (x : A) (ys : List A) → (xs ++ x ∷ []) ++ ys ≡ xs ++ x ∷ ys
append_one [] x ys = refl
append_one (w ∷ xs) x ys = ap (λ z. w ∷ z) (append_one xs x ys)

-- the name of a place isn't among those before it
new_at : (before : List (List ℕ)) (ks : List Class) (place : ℕ) (k : Class) → are_new before (map (λ c. c.name) ks) ≡ true → slice_get ks place ≡ Some k
    → is_among (before ++ map (λ c. c.name) (take place ks)) k.name ≡ false
new_at before [] place k new at = absurd (cc at)
new_at before (x ∷ xs) zero k new at =
    let same : x ≡ k = cc at in
    let first = (and_parts (not (is_among before x.name)) (are_new (before ++ x.name ∷ []) (map (λ c. c.name) xs)) new).0 in
    ap (λ ns. is_among ns k.name) (append_nil before) ∙ ap (λ (c : Class). is_among before c.name) (sym same) ∙ not_in (is_among before x.name) first
  where
    not_in : (b : Bool) → not b ≡ true → b ≡ false
    not_in true h = sym h
    not_in false h = refl
new_at before (x ∷ xs) (suc place) k new at =
    let rest = (and_parts (not (is_among before x.name)) (are_new (before ++ x.name ∷ []) (map (λ c. c.name) xs)) new).1 in
    ap (λ ns. is_among ns k.name) (sym (append_one before x.name (map (λ c. c.name) (take place xs)))) ∙ new_at (before ++ x.name ∷ []) xs place k rest at

take_more : (ks : List Class) (place : ℕ) (k : Class) → slice_get ks place ≡ Some k → map (λ c. c.name) (take (suc place) ks) ≡ map (λ c. c.name) (take place ks) ++ k.name ∷ []
take_more [] place k at = absurd (cc at)
take_more (x ∷ xs) zero k at = let same : x ≡ k = cc at in ap (λ (c : Class). c.name ∷ []) same
take_more (x ∷ xs) (suc place) k at = ap (λ ns. x.name ∷ ns) (take_more xs place k at)

-- one more name joins those before it
pub one_more : (ks : List Class) (place : ℕ) (k : Class) → are_distinct (map (λ c. c.name) ks) ≡ true → slice_get ks place ≡ Some k
    → insert_key bytes_eq (map (λ c. c.name) (take place ks)) k.name ≡ map (λ c. c.name) (take (place + 1) ks)
one_more ks place k distinct at =
    let names = map (λ (c : Class). c.name) (take place ks) in
    let apart : list_any (bytes_eq k.name) names ≡ false = among names k.name ∙ new_at [] ks place k distinct at in
    ap (λ b. cond b names (names ++ k.name ∷ [])) apart ∙ sym (take_more ks place k at) ∙ ap (λ n. map (λ c. c.name) (take n ks)) (sym (add-one place))

-- how many classes stand before the first of a name
before_name : (name : List ℕ) (ks : List Class) → position_or_len (bytes_eq name) (map (λ k. k.name) ks) ≡ position_or_len (λ k. bytes_eq k.name name) ks
before_name name [] = refl
before_name name (k ∷ ks) = ap (λ b. cond (not b) (1 + position_or_len (bytes_eq name) (map (λ c. c.name) ks)) 0) (bytes_eq-sym name k.name) ∙ ap (λ n. cond (not (bytes_eq k.name name)) (1 + n) 0) (before_name name ks)

-- a class is found by its name among the names
pub place_of_name : (name : List ℕ) (ks : List Class) → position (bytes_eq name) (map (λ k. k.name) ks) ≡ position (λ k. bytes_eq k.name name) ks
place_of_name name ks =
    ap (λ n. cond (nat_lt n (length (map (λ (k : Class). k.name) ks))) (Some n) None) (before_name name ks)
    ∙ ap (λ n. cond (nat_lt (position_or_len (λ (k : Class). bytes_eq k.name name) ks) n) (Some (position_or_len (λ (k : Class). bytes_eq k.name name) ks)) None) (length-map ks (λ k. k.name))

-- a class in place of one of its name leaves the names as they were
pub same_names : (ks : List Class) (place : ℕ) (old new : Class) → slice_get ks place ≡ Some old → old.name ≡ new.name → map (λ k. k.name) (slice_set ks place new) ≡ map (λ k. k.name) ks
same_names [] place old new at same = absurd (cc at)
same_names (k ∷ ks) zero old new at same =
    let first : k ≡ old = cc at in
    ap (λ n. n ∷ map (λ (c : Class). c.name) ks) (sym same ∙ ap (λ (c : Class). c.name) (sym first))
same_names (k ∷ ks) (suc place) old new at same = ap (λ ns. k.name ∷ ns) (same_names ks place old new at same)

pub name_is : (m n : List ℕ) → bytes_eq m n ≡ true → m ≡ n
name_is m n = (bytes_eq-Decides m n).0
