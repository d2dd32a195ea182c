-- Items of lists, and tests over them.
use Rattle.std.proofs.Common.{◌≡◌, ℕ, zero, suc, ◌+◌, ◌⊎◌, inl, inr, Bool, true, false, not, ◌&&◌, ◌||◌, cond, List, [], ◌∷◌, ◌++◌, map, drop, slice_get, Option, None, Some, option_map, refl, sym, ◌∙◌, ap, add-one}
use Rattle.std.specs.List.{list_all, list_any, find, filter, flat_map}
use Rattle.std.specs.Str.{bytes_eq}
use Rattle.std.proofs.lemmas.Bool.{and_parts, and_from, or_cases, or_parts, or_left, or_right, not-true}
use Rattle.std.proofs.lemmas.Slice.Eq.{bytes_eq-Decides}
use Rattle.std.proofs.lemmas.List.Folds.{list_all-append, list_any-append}
use Rattle.cfj_model.specs.ProductLines.{are_new, are_distinct}
use Rattle.cfj_words.specs.Names.{is_among}
use Rattle.cfj_words.specs.Lists.{Has}

pub unlike : {A : Type 0} {x : A} → None ≡ Some x → ⊥
unlike e = cc e

pub not_true : true ≡ false → ⊥
not_true e = cc e

-- ---- names

pub name_is : (x y : List ℕ) → bytes_eq x y ≡ true → x ≡ y
name_is x y e = (bytes_eq-Decides x y).0 e

pub is_name : (x y : List ℕ) → x ≡ y → bytes_eq x y ≡ true
is_name x y e = (bytes_eq-Decides x y).1 e

pub name_differs : (x y : List ℕ) → bytes_eq x y ≡ false → x ≡ y → ⊥
name_differs x y e s = not_true (sym (is_name x y s) ∙ e)

pub differs_name : (x y : List ℕ) → (x ≡ y → ⊥) → bytes_eq x y ≡ false
differs_name x y ne = go (bytes_eq x y) refl
  where
    go : (b : Bool) → bytes_eq x y ≡ b → b ≡ false
    go true q = absurd (ne (name_is x y q))
    go false q = refl

pub differs_back : (x y : List ℕ) → bytes_eq x y ≡ false → bytes_eq y x ≡ false
differs_back x y h = differs_name y x (λ s. name_differs x y h (sym s))

-- two names are one or not
pub names_tell : (x y : List ℕ) → (x ≡ y) ⊎ (x ≡ y → ⊥)
names_tell x y = go (bytes_eq x y) refl
  where
    go : (b : Bool) → bytes_eq x y ≡ b → (x ≡ y) ⊎ (x ≡ y → ⊥)
    go true q = inl (name_is x y q)
    go false q = inr (name_differs x y q)

-- ---- items

pub has_none : {A : Type 0} (x : A) → Has [] x → ⊥
has_none x h = unlike h.1

pub has_rest : {A : Type 0} (y : A) (xs : List A) (x : A) → Has xs x → Has (y ∷ xs) x
has_rest y xs x h = (suc h.0, h.1)

pub has_cases : {A : Type 0} (y : A) (xs : List A) (x : A) → Has (y ∷ xs) x → (y ≡ x) ⊎ Has xs x
has_cases y xs x (zero, e) = inl (cc e)
has_cases y xs x (suc k, e) = inr (k, e)

pub has_right : {A : Type 0} (xs ys : List A) (x : A) → Has ys x → Has (xs ++ ys) x
has_right [] ys x h = h
has_right (z ∷ xs) ys x h = has_rest z (xs ++ ys) x (has_right xs ys x h)

pub has_left : {A : Type 0} (xs ys : List A) (x : A) → Has xs x → Has (xs ++ ys) x
has_left [] ys x h = absurd (has_none x h)
has_left (z ∷ xs) ys x (zero, e) = (zero, e)
has_left (z ∷ xs) ys x (suc k, e) = has_rest z (xs ++ ys) x (has_left xs ys x (k, e))

pub has_either : {A : Type 0} (xs ys : List A) (x : A) → Has (xs ++ ys) x → Has xs x ⊎ Has ys x
has_either [] ys x h = inr h
has_either (z ∷ xs) ys x (zero, e) = inl (zero, e)
has_either (z ∷ xs) ys x (suc k, e) = under (has_either xs ys x (k, e))
  where
    under : Has xs x ⊎ Has ys x → Has (z ∷ xs) x ⊎ Has ys x
    under (inl h) = inl (suc h.0, h.1)
    under (inr h) = inr h

pub has_map : {A B : Type 0} (f : A → B) (xs : List A) (x : A) → Has xs x → Has (map f xs) (f x)
has_map f [] x h = absurd (has_none x h)
has_map f (z ∷ xs) x (zero, e) = (zero, (let s : z ≡ x = cc e in ap (λ w. Some (f w)) s))
has_map f (z ∷ xs) x (suc k, e) = has_rest (f z) (map f xs) (f x) (has_map f xs x (k, e))

-- an item, and those behind it
pub drop_get : {A : Type 0} (xs : List A) (i : ℕ) (x : A) → slice_get xs i ≡ Some x → drop i xs ≡ x ∷ drop (i + 1) xs
drop_get {A = A} xs i x at = go xs i at ∙ ap (λ n. x ∷ drop n xs) (sym (add-one i))
  where
    go : (xs : List A) (i : ℕ) → slice_get xs i ≡ Some x → drop i xs ≡ x ∷ drop (suc i) xs
    go [] i at = absurd (unlike at)
    go (y ∷ ys) zero at = let same : y ≡ x = cc at in ap (λ z. z ∷ ys) same
    go (y ∷ ys) (suc i) at = go ys i at

-- ---- tests

pub all_has : {A : Type 0} (f : A → Bool) (xs : List A) → list_all f xs ≡ true → (x : A) → Has xs x → f x ≡ true
all_has f [] e x h = absurd (has_none x h)
all_has f (y ∷ xs) e x (zero, s) = let d : y ≡ x = cc s in ap f (sym d) ∙ (and_parts (f y) (list_all f xs) e).0
all_has f (y ∷ xs) e x (suc k, s) = all_has f xs (and_parts (f y) (list_all f xs) e).1 x (k, s)

pub has_all : {A : Type 0} (f : A → Bool) (xs : List A) → ((x : A) → Has xs x → f x ≡ true) → list_all f xs ≡ true
has_all f [] each = refl
has_all f (y ∷ xs) each = and_from (f y) (list_all f xs) (each y (0, refl)) (has_all f xs (λ x h. each x (has_rest y xs x h)))

pub any_has : {A : Type 0} (f : A → Bool) (xs : List A) → list_any f xs ≡ true → (x : A) × Has xs x × (f x ≡ true)
any_has f [] e = absurd (not_true (sym e))
any_has {A = A} f (y ∷ xs) e = go (any_has f xs) (or_cases (f y) (list_any f xs) e)
  where
    go : (list_any f xs ≡ true → (x : A) × Has xs x × (f x ≡ true)) → (f y ≡ true) ⊎ (list_any f xs ≡ true) → (x : A) × Has (y ∷ xs) x × (f x ≡ true)
    go ih (inl t) = (y, (0, refl), t)
    go ih (inr t) = let r = ih t in (r.0, has_rest y xs r.0 r.1, r.2)

pub has_any : {A : Type 0} (f : A → Bool) (xs : List A) (x : A) → Has xs x → f x ≡ true → list_any f xs ≡ true
has_any f [] x h t = absurd (has_none x h)
has_any f (y ∷ xs) x (zero, s) t = let d : y ≡ x = cc s in or_left (f y) (list_any f xs) (ap f d ∙ t)
has_any f (y ∷ xs) x (suc k, s) t = or_right (f y) (list_any f xs) (has_any f xs x (k, s) t)

pub find_has : {A : Type 0} (f : A → Bool) (xs : List A) (x : A) → find f xs ≡ Some x → Has xs x × (f x ≡ true)
find_has f [] x e = absurd (unlike e)
find_has {A = A} f (y ∷ xs) x e = go (find_has f xs x) (f y) refl e
  where
    go : (find f xs ≡ Some x → Has xs x × (f x ≡ true)) → (b : Bool) → f y ≡ b → cond b (Some y) (find f xs) ≡ Some x → Has (y ∷ xs) x × (f x ≡ true)
    go ih true q e = let s : y ≡ x = cc e in ((0, ap Some s), ap f (sym s) ∙ q)
    go ih false q e = let r = ih e in (has_rest y xs x r.0, r.1)

pub find_none : {A : Type 0} (f : A → Bool) (xs : List A) → find f xs ≡ None → (x : A) → Has xs x → f x ≡ false
find_none f [] e x h = absurd (has_none x h)
find_none {A = A} f (y ∷ xs) e x h = go (find_none f xs) (f y) refl e (has_cases y xs x h)
  where
    go : (find f xs ≡ None → (x : A) → Has xs x → f x ≡ false) → (b : Bool) → f y ≡ b → cond b (Some y) (find f xs) ≡ None → (y ≡ x) ⊎ Has xs x → f x ≡ false
    go ih true q e h = absurd (unlike (sym e))
    go ih false q e (inl s) = ap f (sym s) ∙ q
    go ih false q e (inr h) = ih e x h

pub none_find : {A : Type 0} (f : A → Bool) (xs : List A) → ((x : A) → Has xs x → f x ≡ false) → find f xs ≡ None
none_find f [] each = refl
none_find f (y ∷ xs) each = ap (λ b. cond b (Some y) (find f xs)) (each y (0, refl)) ∙ none_find f xs (λ x h. each x (has_rest y xs x h))

pub all_flat_map : {A B : Type 0} (f : B → Bool) (g : A → List B) (xs : List A) → list_all f (flat_map g xs) ≡ list_all (λ x. list_all f (g x)) xs
all_flat_map f g [] = refl
all_flat_map f g (x ∷ xs) = list_all-append f (g x) (flat_map g xs) ∙ ap (λ b. list_all f (g x) && b) (all_flat_map f g xs)

-- ---- distinct names

-- a name that isn't among those before isn't one of them
new_behind : (before ns : List (List ℕ)) → are_new before ns ≡ true → (n : List ℕ) → Has ns n → is_among before n ≡ false
new_behind before [] e n h = absurd (has_none n h)
new_behind before (m ∷ ns) e n (zero, s) =
    let d : m ≡ n = cc s in
    ap (is_among before) (sym d) ∙ not-true (is_among before m) (and_parts (not (is_among before m)) (are_new (before ++ m ∷ []) ns) e).0
new_behind before (m ∷ ns) e n (suc k, s) =
    let later = new_behind (before ++ m ∷ []) ns (and_parts (not (is_among before m)) (are_new (before ++ m ∷ []) ns) e).1 n (k, s) in
    (or_parts (is_among before n) (is_among (m ∷ []) n) (sym (list_any-append (λ x. bytes_eq x n) before (m ∷ [])) ∙ later)).0

find_new : {A : Type 0} (key : A → List ℕ) (before : List (List ℕ)) (xs : List A) → are_new before (map key xs) ≡ true → (x : A) → Has xs x → (n : List ℕ) → key x ≡ n
    → find (λ y. bytes_eq (key y) n) xs ≡ Some x
find_new key before [] e x h n s = absurd (has_none x h)
find_new {A = A} key before (y ∷ ys) e x h n s = go (λ h. find_new key (before ++ key y ∷ []) ys apart x h n s) (has_cases y ys x h)
  where
    apart : are_new (before ++ key y ∷ []) (map key ys) ≡ true
    apart = (and_parts (not (is_among before (key y))) (are_new (before ++ key y ∷ []) (map key ys)) e).1

    go : (Has ys x → find (λ z. bytes_eq (key z) n) ys ≡ Some x) → (y ≡ x) ⊎ Has ys x → cond (bytes_eq (key y) n) (Some y) (find (λ z. bytes_eq (key z) n) ys) ≡ Some x
    go ih (inl t) = ap (λ b. cond b (Some y) (find (λ z. bytes_eq (key z) n) ys)) (is_name (key y) n (ap key t ∙ s)) ∙ ap Some t
    go ih (inr h) = ap (λ b. cond b (Some y) (find (λ z. bytes_eq (key z) n) ys)) (differs_name (key y) n not_here) ∙ ih h
      where
        not_here : key y ≡ n → ⊥
        not_here t =
            let f = new_behind (before ++ key y ∷ []) (map key ys) apart (key x) (has_map key ys x h) in
            let g = or_parts (is_among before (key x)) (is_among (key y ∷ []) (key x)) (sym (list_any-append (λ z. bytes_eq z (key x)) before (key y ∷ [])) ∙ f) in
            name_differs (key y) (key x) (or_parts (bytes_eq (key y) (key x)) false g.1).0 (t ∙ sym s)

-- of items with distinct names the one with this name is found
pub find_distinct : {A : Type 0} (key : A → List ℕ) (xs : List A) → are_distinct (map key xs) ≡ true → (x : A) → Has xs x → (n : List ℕ) → key x ≡ n
    → find (λ y. bytes_eq (key y) n) xs ≡ Some x
find_distinct key xs e x h n s = find_new key [] xs e x h n s

-- what a mapped option holds comes from what the option holds
pub mapped : {A B : Type 0} (f : A → B) (o : Option A) (y : B) → option_map f o ≡ Some y → (x : A) × (o ≡ Some x) × (f x ≡ y)
mapped f None y e = absurd (unlike e)
mapped f (Some x) y e = (x, refl, (cc e))

-- tests that agree at each item
pub all_same : {A : Type 0} (f g : A → Bool) → ((x : A) → f x ≡ g x) → (xs : List A) → list_all f xs ≡ list_all g xs
all_same f g same [] = refl
all_same f g same (x ∷ xs) = ap (λ b. b && list_all f xs) (same x) ∙ ap (λ b. g x && b) (all_same f g same xs)

pub none_has : {A : Type 0} (f : A → Bool) (xs : List A) → list_any f xs ≡ false → (x : A) → Has xs x → f x ≡ false
none_has f xs e x h = go (f x) refl
  where
    go : (b : Bool) → f x ≡ b → b ≡ false
    go true q = absurd (not_true (sym (has_any f xs x h q) ∙ e))
    go false q = refl

pub has_no : {A : Type 0} (f : A → Bool) (xs : List A) → ((x : A) → Has xs x → f x ≡ false) → list_any f xs ≡ false
has_no f [] each = refl
has_no f (y ∷ xs) each = ap (λ b. b || list_any f xs) (each y (0, refl)) ∙ has_no f xs (λ x h. each x (has_rest y xs x h))

pub has_filter : {A : Type 0} (f : A → Bool) (xs : List A) (x : A) → Has xs x → f x ≡ true → Has (filter f xs) x
has_filter f [] x h t = absurd (has_none x h)
has_filter {A = A} f (y ∷ xs) x h t = go (has_filter f xs x) (f y) refl (has_cases y xs x h)
  where
    go : (Has xs x → f x ≡ true → Has (filter f xs) x) → (b : Bool) → f y ≡ b → (y ≡ x) ⊎ Has xs x → Has (cond b (y ∷ filter f xs) (filter f xs)) x
    go ih true q (inl s) = (0, ap Some s)
    go ih true q (inr h) = has_rest y (filter f xs) x (ih h t)
    go ih false q (inl s) = absurd (not_true (sym t ∙ ap f (sym s) ∙ q))
    go ih false q (inr h) = ih h t

pub filter_has : {A : Type 0} (f : A → Bool) (xs : List A) (x : A) → Has (filter f xs) x → Has xs x × (f x ≡ true)
filter_has f [] x h = absurd (has_none x h)
filter_has {A = A} f (y ∷ xs) x h = go (filter_has f xs x) (f y) refl h
  where
    go : (Has (filter f xs) x → Has xs x × (f x ≡ true)) → (b : Bool) → f y ≡ b → Has (cond b (y ∷ filter f xs) (filter f xs)) x → Has (y ∷ xs) x × (f x ≡ true)
    go ih false q h = let r = ih h in (has_rest y xs x r.0, r.1)
    go ih true q h = at (has_cases y (filter f xs) x h)
      where
        at : (y ≡ x) ⊎ Has (filter f xs) x → Has (y ∷ xs) x × (f x ≡ true)
        at (inl s) = ((0, ap Some s), ap f (sym s) ∙ q)
        at (inr h) = let r = ih h in (has_rest y xs x r.0, r.1)

pub filter_all : {A : Type 0} (f : A → Bool) (xs : List A) → ((x : A) → Has xs x → f x ≡ true) → filter f xs ≡ xs
filter_all f [] each = refl
filter_all f (y ∷ xs) each =
    ap (λ b. cond b (y ∷ filter f xs) (filter f xs)) (each y (0, refl)) ∙ ap (λ zs. y ∷ zs) (filter_all f xs (λ x h. each x (has_rest y xs x h)))
