-- Lists that are made item by item.
use Rattle.std.proofs.Common.{◌≡◌, ℕ, zero, suc, ◌+◌, ◌≤◌, List, [], ◌∷◌, ◌++◌, length, take, slice_get, Some, sym, ◌∙◌, ap, add-one, append-nil, append_assoc}
use Rattle.std.specs.List.{flat_map}
use Rattle.std.proofs.lemmas.List.{take_all}

-- one more item is taken
pub take_next : {A : Type 0} (xs : List A) (i : ℕ) (x : A) → slice_get xs i ≡ Some x → take (i + 1) xs ≡ take i xs ++ x ∷ []
take_next {A = A} xs i x at = ap (λ n. take n xs) (add-one i) ∙ go xs i at
  where
    go : (xs : List A) (i : ℕ) → slice_get xs i ≡ Some x → take (suc i) xs ≡ take i xs ++ x ∷ []
    go [] i at = absurd (cc at)
    go (y ∷ ys) zero at = let same : y ≡ x = cc at in ap (λ z. z ∷ []) same
    go (y ∷ ys) (suc i) at = ap (λ z. y ∷ z) (go ys i at)

flat_push : {A B : Type 0} (of : A → List B) (xs : List A) (x : A) → flat_map of (xs ++ x ∷ []) ≡ flat_map of xs ++ of x
flat_push of [] x = append-nil (of x)
flat_push of (y ∷ xs) x = ap (λ z. of y ++ z) (flat_push of xs x) ∙ sym (append_assoc (of y) (flat_map of xs) (of x))

-- what the items so far give, and what one more gives
pub flat_next : {A B : Type 0} (of : A → List B) (xs : List A) (i : ℕ) (x : A) (a b c : List B) → b ≡ a ++ flat_map of (take i xs) → slice_get xs i ≡ Some x → c ≡ b ++ of x
    → c ≡ a ++ flat_map of (take (i + 1) xs)
flat_next of xs i x a b c so_far at grows =
    grows ∙ ap (λ z. z ++ of x) so_far ∙ append_assoc a (flat_map of (take i xs)) (of x) ∙ ap (λ z. a ++ z) (sym (ap (flat_map of) (take_next xs i x at) ∙ flat_push of (take i xs) x))

-- all items are taken
pub flat_all : {A B : Type 0} (of : A → List B) (xs : List A) (i : ℕ) (a b : List B) → b ≡ a ++ flat_map of (take i xs) → length xs ≤ i → b ≡ a ++ flat_map of xs
flat_all of xs i a b so_far all = so_far ∙ ap (λ z. a ++ flat_map of z) (take_all i xs all)
