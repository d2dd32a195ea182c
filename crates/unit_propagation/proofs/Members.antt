-- The items of lists.
use Rattle.std.proofs.Common.{◌≡◌, ◌≢◌, ℕ, zero, suc, ◌+◌, ◌-◌, ◌<◌, ◌≤◌, ◌⊎◌, inl, inr, Bool, true, false, ◌||◌, List, [], ◌∷◌, ◌++◌, length, get_or, map, take, slice_set, eqb, Some, slice_get, refl, sym, ◌∙◌, ap, subst, arith, ◌&&◌}
use Rattle.std.specs.Prelude.{All}
use Rattle.std.proofs.lemmas.Bool.Decides.{eqb_tells}
use Rattle.std.proofs.lemmas.List.{take_more}
use Rattle.std.proofs.lemmas.Option.{slice_get_within, slice_get_read, get_or_from_slice_get, slice_get-get_or}
use Rattle.std.proofs.Math.Seq.{take-length}
use Rattle.std.specs.List.{list_any}
use Rattle.cfj_words.specs.Lists.{Has}

pub has_left : {A : Type 0} (xs ys : List A) (x : A) → Has xs x → Has (xs ++ ys) x
has_left [] ys x h = absurd (let no : ⊥ = cc h.1 in no)
has_left (z ∷ xs) ys x (zero, e) = (zero, e)
has_left (z ∷ xs) ys x (suc k, e) = let r = has_left xs ys x (k, e) in (suc r.0, r.1)

pub has_right : {A : Type 0} (xs ys : List A) (x : A) → Has ys x → Has (xs ++ ys) x
has_right [] ys x h = h
has_right (z ∷ xs) ys x h = let r = has_right xs ys x h in (suc r.0, r.1)

pub has_split : {A : Type 0} (xs ys : List A) (x : A) → Has (xs ++ ys) x → Has xs x ⊎ Has ys x
has_split [] ys x h = inr h
has_split (z ∷ xs) ys x (zero, e) = inl (zero, e)
has_split (z ∷ xs) ys x (suc k, e) = under (has_split xs ys x (k, e))
  where
    under : Has xs x ⊎ Has ys x → Has (z ∷ xs) x ⊎ Has ys x
    under (inl h) = inl (suc h.0, h.1)
    under (inr h) = inr h

pub has_one : {A : Type 0} (y x : A) → Has (y ∷ []) x → x ≡ y
has_one y x (zero, e) = cc e
has_one y x (suc k, e) = absurd (let no : ⊥ = cc e in no)

pub has_none : {A : Type 0} (x : A) → Has [] x → ⊥
has_none x h = let no : ⊥ = cc h.1 in no

pub has_map : {A B : Type 0} (f : A → B) (xs : List A) (x : A) → Has xs x → Has (map f xs) (f x)
has_map f [] x h = absurd (has_none x h)
has_map f (z ∷ xs) x (zero, e) = (zero, (let s : z ≡ x = cc e in ap (λ w. Some (f w)) s))
has_map f (z ∷ xs) x (suc k, e) = let r = has_map f xs x (k, e) in (suc r.0, r.1)

-- the item that a list has, where its image has one
pub has_source : {A B : Type 0} (f : A → B) (xs : List A) (y : B) → Has (map f xs) y → (x : A) × Has xs x × (f x ≡ y)
has_source f [] y h = absurd (has_none y h)
has_source f (z ∷ xs) y (zero, e) = (z, (zero, refl), (cc e))
has_source f (z ∷ xs) y (suc k, e) = let r = has_source f xs y (k, e) in (r.0, (suc r.1.0, r.1.1), r.2)

-- what is true of all items is true of one that the list has
pub all_has : {A : Type 0} (P : A → Type 0) (xs : List A) (x : A) → All P xs → Has xs x → P x
all_has P xs x all h = subst P (get_or_from_slice_get xs h.0 x x h.1) (all h.0 x (slice_get_within xs h.0 x h.1))

pub lt_or_ge : (a b : ℕ) → (a < b) ⊎ (b ≤ a)
lt_or_ge a b = grind arith

-- what is true of each item that the list has is true of all
pub all_from : {A : Type 0} (P : A → Type 0) (xs : List A) → ((x : A) → Has xs x → P x) → All P xs
all_from P xs each k d lt = each (get_or xs k d) (k, slice_get-get_or xs k d lt)

-- ---- tests

pub both_true : (a b : Bool) → a && b ≡ true → (a ≡ true) × (b ≡ true)
both_true true b e = (refl, e)
both_true false b e = absurd (let no : ⊥ = cc e in no)

or_cases : (a b : Bool) → a || b ≡ true → (a ≡ true) ⊎ (b ≡ true)
or_cases true b e = inl refl
or_cases false b e = inr e

or_neither : (a b : Bool) → a || b ≡ false → (a ≡ false) × (b ≡ false)
or_neither true b e = absurd (let no : ⊥ = cc e in no)
or_neither false b e = (refl, e)

pub any_has : {A : Type 0} (p : A → Bool) (xs : List A) → list_any p xs ≡ true → (x : A) × Has xs x × (p x ≡ true)
any_has p [] e = absurd (let no : ⊥ = cc e in no)
any_has {A = A} p (y ∷ xs) e = go (λ t. any_has p xs t) (or_cases (p y) (list_any p xs) e)
  where
    go : (list_any p xs ≡ true → (x : A) × Has xs x × (p x ≡ true)) → (p y ≡ true) ⊎ (list_any p xs ≡ true) → (x : A) × Has (y ∷ xs) x × (p x ≡ true)
    go ih (inl t) = (y, (0, refl), t)
    go ih (inr t) = let r = ih t in (r.0, (suc r.1.0, r.1.1), r.2)

pub none_has : {A : Type 0} (p : A → Bool) (xs : List A) (x : A) → list_any p xs ≡ false → Has xs x → p x ≡ false
none_has p [] x e h = absurd (has_none x h)
none_has p (y ∷ xs) x e (zero, s) = let d : y ≡ x = cc s in ap p (sym d) ∙ (or_neither (p y) (list_any p xs) e).0
none_has p (y ∷ xs) x e (suc k, s) = none_has p xs x (or_neither (p y) (list_any p xs) e).1 (k, s)

pub has_any : {A : Type 0} (p : A → Bool) (xs : List A) (x : A) → Has xs x → p x ≡ true → list_any p xs ≡ true
has_any p xs x h t = go (list_any p xs) refl
  where
    go : (b : Bool) → list_any p xs ≡ b → list_any p xs ≡ true
    go true e = e
    go false e = absurd (let no : true ≡ false = sym t ∙ none_has p xs x e h in cc no)

-- ---- fronts

pub length_one : {A : Type 0} (xs : List A) (x : A) → length (xs ++ x ∷ []) ≡ length xs + 1
length_one [] x = refl
length_one (y ∷ xs) x = let ih = length_one xs x in omega (arith, ih)

pub slice_get_left : {A : Type 0} (xs ys : List A) (k : ℕ) → k < length xs → slice_get (xs ++ ys) k ≡ slice_get xs k
slice_get_left [] ys k lt = absurd (omega arith)
slice_get_left (x ∷ xs) ys zero lt = refl
slice_get_left (x ∷ xs) ys (suc k) lt = slice_get_left xs ys k (omega arith)

pub slice_get_end : {A : Type 0} (xs : List A) (y : A) → slice_get (xs ++ y ∷ []) (length xs) ≡ Some y
slice_get_end [] y = refl
slice_get_end (x ∷ xs) y = slice_get_end xs y

pub all_taken : {A : Type 0} (xs : List A) (i : ℕ) → i ≡ length xs → take i xs ≡ xs
all_taken xs i e = ap (λ k. take k xs) e ∙ take-length xs

pub take_next : {A : Type 0} (xs : List A) (i : ℕ) (x : A) → i < length xs → x ≡ get_or xs i x → take (i + 1) xs ≡ take i xs ++ x ∷ []
take_next xs i x lt is = take_more xs i x lt ∙ ap (λ w. take i xs ++ w ∷ []) (sym is)

pub front_split : {A : Type 0} (xs : List A) (n : ℕ) (x : A) → 0 < n → n ≤ length xs → x ≡ get_or xs (n - 1) x → take n xs ≡ take (n - 1) xs ++ x ∷ []
front_split xs n x some le is = let e : (n - 1) + 1 ≡ n = omega arith in subst (λ k. take k xs ≡ take (n - 1) xs ++ x ∷ []) e (take_next xs (n - 1) x (omega arith) is)

pub slice_get_taken : {A : Type 0} (xs : List A) (n k : ℕ) → k < n → slice_get (take n xs) k ≡ slice_get xs k
slice_get_taken xs zero k lt = absurd (omega arith)
slice_get_taken [] (suc n) k lt = refl
slice_get_taken (x ∷ xs) (suc n) zero lt = refl
slice_get_taken (x ∷ xs) (suc n) (suc k) lt = slice_get_taken xs n k (omega arith)

pub take_taken : {A : Type 0} (xs : List A) (i n : ℕ) → i ≤ n → take i (take n xs) ≡ take i xs
take_taken xs zero n le = refl
take_taken xs (suc i) zero le = absurd (omega arith)
take_taken [] (suc i) (suc n) le = refl
take_taken (x ∷ xs) (suc i) (suc n) le = ap (λ w. x ∷ w) (take_taken xs i n (omega arith))

-- what is true of a front's items and of the next one is true of the next front's
pub taken_next : {A : Type 0} (P : A → Type 0) (xs : List A) (i : ℕ) (d : A) → i < length xs → ((m : A) → Has (take i xs) m → P m) → P (get_or xs i d) → (m : A) → Has (take (i + 1) xs) m → P m
taken_next P xs i d lt old now m h = go (has_split (take i xs) (get_or xs i d ∷ []) m (subst (λ w. Has w m) (take_more xs i d lt) h))
  where
    go : Has (take i xs) m ⊎ Has (get_or xs i d ∷ []) m → P m
    go (inl k) = old m k
    go (inr k) = subst P (sym (has_one (get_or xs i d) m k)) now

-- ---- items that are read and set

pub read_has : {A : Type 0} (xs : List A) (i : ℕ) (x : A) → i < length xs → x ≡ get_or xs i x → Has xs x
read_has xs i x lt is = (i, slice_get_read xs (length xs) i x refl lt is)

pub same_or_other : (j i : ℕ) → (j ≡ i) ⊎ (j ≡ i → ⊥)
same_or_other j i = go (eqb_tells j i)
  where
    go : ((eqb j i ≡ true) × (j ≡ i)) ⊎ ((eqb j i ≡ false) × (j ≢ i)) → (j ≡ i) ⊎ (j ≡ i → ⊥)
    go (inl s) = inl s.1
    go (inr s) = inr s.1

-- two items at one place
pub one_item : {A : Type 0} (xs : List A) (k : ℕ) (x y : A) → slice_get xs k ≡ Some x → slice_get xs k ≡ Some y → x ≡ y
one_item xs k x y d e = let s : Some x ≡ Some y = sym d ∙ e in cc s

pub get_set_same : {A : Type 0} (xs : List A) (i : ℕ) (x : A) → i < length xs → slice_get (slice_set xs i x) i ≡ Some x
get_set_same [] i x lt = absurd (omega arith)
get_set_same (y ∷ xs) zero x lt = refl
get_set_same (y ∷ xs) (suc i) x lt = get_set_same xs i x (omega arith)

pub get_set_other : {A : Type 0} (xs : List A) (i j : ℕ) (x : A) → (j ≡ i → ⊥) → slice_get (slice_set xs i x) j ≡ slice_get xs j
get_set_other [] i j x ne = refl
get_set_other (y ∷ xs) zero zero x ne = absurd (ne refl)
get_set_other (y ∷ xs) zero (suc j) x ne = refl
get_set_other (y ∷ xs) (suc i) zero x ne = refl
get_set_other (y ∷ xs) (suc i) (suc j) x ne = get_set_other xs i j x (λ e. ne (ap suc e))

pub take_set : {A : Type 0} (xs : List A) (i : ℕ) (x : A) → take i (slice_set xs i x) ≡ take i xs
take_set xs zero x = refl
take_set [] (suc i) x = refl
take_set (y ∷ xs) (suc i) x = ap (λ w. y ∷ w) (take_set xs i x)
