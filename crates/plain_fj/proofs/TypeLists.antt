-- Lists of types that are collected, and compared place by place.
use Rattle.std.proofs.Common.{◌≡◌, ℕ, zero, suc, ◌+◌, ◌<◌, ◌≤◌, List, [], ◌∷◌, ◌++◌, length, map, take, drop, slice_index_or, Bor, refl, sym, ◌∙◌, ap, ap₂, arith, add-one}
use Rattle.std.proofs.lemmas.List.{append_assoc}
use Rattle.std.proofs.Math.Seq.{take-length}
use Rattle.cfj_model.specs.LookUps.{fields_of}
use Rattle.cfj_model.specs.declared.class.Class.{Class}
use Rattle.cfj_model.specs.declared.class.Field.{Field}
use Rattle.class_table.specs.ByName.{seen}
use Rattle.plain_fj.specs.Found.{names}

-- ---- lists by places

pub take_more : {A : Type 0} (xs : List A) (i : ℕ) (x : A) → i < length xs → x ≡ slice_index_or xs i x → take (i + 1) xs ≡ take i xs ++ x ∷ []
take_more {A = A} xs i x lt at = ap (λ n. take n xs) (add-one i) ∙ go xs i lt at
  where
    go : (xs : List A) (i : ℕ) → i < length xs → x ≡ slice_index_or xs i x → take (suc i) xs ≡ take i xs ++ x ∷ []
    go [] i lt at = absurd (omega arith)
    go (y ∷ ys) zero lt at = ap (λ z. z ∷ []) (sym at)
    go (y ∷ ys) (suc i) lt at = ap (λ zs. y ∷ zs) (go ys i (omega arith) at)

pub drop_at : {A : Type 0} (xs : List A) (i : ℕ) (x : A) → i < length xs → x ≡ slice_index_or xs i x → drop i xs ≡ x ∷ drop (i + 1) xs
drop_at {A = A} xs i x lt at = go xs i lt at ∙ ap (λ n. x ∷ drop n xs) (sym (add-one i))
  where
    go : (xs : List A) (i : ℕ) → i < length xs → x ≡ slice_index_or xs i x → drop i xs ≡ x ∷ drop (suc i) xs
    go [] i lt at = absurd (omega arith)
    go (y ∷ ys) zero lt at = ap (λ z. z ∷ ys) (sym at)
    go (y ∷ ys) (suc i) lt at = go ys i (omega arith) at

pub drop_past : {A : Type 0} (xs : List A) (i : ℕ) → length xs ≤ i → drop i xs ≡ []
drop_past [] zero le = refl
drop_past [] (suc i) le = refl
drop_past (x ∷ xs) zero le = absurd (omega arith)
drop_past (x ∷ xs) (suc i) le = drop_past xs i (omega arith)

pub take_all : {A : Type 0} (xs : List A) (i : ℕ) → i ≡ length xs → take i xs ≡ xs
take_all xs i e = ap (λ n. take n xs) e ∙ take-length xs

map_push : {A B : Type 0} (f : A → B) (xs : List A) (x : A) → map f (xs ++ x ∷ []) ≡ map f xs ++ f x ∷ []
map_push f [] x = refl
map_push f (y ∷ ys) x = ap (λ zs. f y ∷ zs) (map_push f ys x)

map_append : {A B : Type 0} (f : A → B) (xs ys : List A) → map f (xs ++ ys) ≡ map f xs ++ map f ys
map_append f [] ys = refl
map_append f (x ∷ xs) ys = ap (λ zs. f x ∷ zs) (map_append f xs ys)

-- ---- types that are collected

pub names_push : (ms ns : List (Bor (List ℕ))) (b : Bor (List ℕ)) → ms ≡ ns ++ b ∷ [] → names ms ≡ names ns ++ b.now ∷ []
names_push ms ns b e = ap names e ∙ map_push (λ n. n.now) ns b

-- one more
pub names_more : {A : Type 0} (f : A → List ℕ) (before : List (List ℕ)) (xs : List A) (i : ℕ) (x : A) (ms ns : List (Bor (List ℕ))) (b : Bor (List ℕ)) → ms ≡ ns ++ b ∷ [] → b.now ≡ f x
    → names ns ≡ before ++ map f (take i xs) → i < length xs → x ≡ slice_index_or xs i x → names ms ≡ before ++ map f (take (i + 1) xs)
names_more f before xs i x ms ns b pushed is so_far lt at =
    names_push ms ns b pushed ∙ ap₂ (λ z w. z ++ w ∷ []) so_far is ∙ append_assoc before (map f (take i xs)) (f x ∷ [])
    ∙ ap (λ z. before ++ z) (sym (map_push f (take i xs) x) ∙ ap (map f) (sym (take_more xs i x lt at)))

pub names_all : {A : Type 0} (f : A → List ℕ) (before : List (List ℕ)) (xs : List A) (i : ℕ) (ns : List (Bor (List ℕ))) → names ns ≡ before ++ map f (take i xs) → i ≡ length xs
    → names ns ≡ before ++ map f xs
names_all f before xs i ns so_far e = so_far ∙ ap (λ z. before ++ map f z) (take_all xs i e)

abbrev pub own_types : List Field → List (List ℕ)
own_types fs = map (λ f. f.of) fs

-- the fields of one more class of a chain, from its end on
pub chain_more : (ks : List (Bor Class)) (left less : ℕ) (k : Bor Class) (ms ns : List (List ℕ)) → ns ≡ own_types (fields_of (seen (drop left ks))) → left ≡ suc less → less < length ks
    → k ≡ slice_index_or ks less k → ms ≡ ns ++ own_types k.now.fields → ms ≡ own_types (fields_of (seen (drop less ks)))
chain_more ks left less k ms ns so_far e lt at more =
    more
    ∙ ap (λ z. z ++ own_types k.now.fields) (so_far ∙ ap (λ n. own_types (fields_of (seen (drop n ks)))) (e ∙ sym (add-one less)))
    ∙ sym (map_append (λ (f : Field). f.of) (fields_of (seen (drop (less + 1) ks))) k.now.fields)
    ∙ ap (λ z. own_types (fields_of (seen z))) (sym (drop_at ks less k lt at))
