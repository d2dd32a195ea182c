-- Lists whose items are all items of another.
use Rattle.std.proofs.Common.{◌≡◌, ◌⊎◌, inl, inr, Bool, true, false, if◌then◌else◌, List, [], ◌∷◌, ◌++◌, map, sym, subst}
use Rattle.std.specs.List.{filter, flat_map}
use Rattle.cfj_words.specs.Lists.{Has}
use Rattle.feature_views.proofs.Kept.{kept}
use Rattle.class_table.proofs.Members.{has_either, has_left, has_right}

-- each item of the first list is one of the second
abbrev pub AreAmong : {A : Type 0} → List A → List A → Type 0
AreAmong {A} xs ys = (x : A) → Has xs x → Has ys x

pub among_as : {A : Type 0} (xs ys us vs : List A) → xs ≡ us → ys ≡ vs → AreAmong us vs → AreAmong xs ys
among_as xs ys us vs is was h x here = subst (λ zs. Has zs x) (sym was) (h x (subst (λ zs. Has zs x) is here))

pub among_append : {A : Type 0} (xs ys us vs : List A) → AreAmong xs ys → AreAmong us vs → AreAmong (xs ++ us) (ys ++ vs)
among_append {A} xs ys us vs front back x h = go (has_either xs us x h)
  where
    go : Has xs x ⊎ Has us x → Has (ys ++ vs) x
    go (inl here) = has_left ys vs x (front x here)
    go (inr here) = has_right ys vs x (back x here)

-- the same behind the same items
pub among_behind : {A : Type 0} (own xs ys : List A) → AreAmong xs ys → AreAmong (own ++ xs) (own ++ ys)
among_behind own xs ys h = among_append own own xs ys (λ x here. here) h

-- What is made of items that are kept gives no more than the items did.
pub among_kept : {A B C : Type 0} (made : A → B) (keeps : A → Bool) (f : A → List C) (g : B → List C) → ((x : A) → AreAmong (g (made x)) (f x)) → (xs : List A) → AreAmong (flat_map g (kept made keeps xs)) (flat_map f xs)
among_kept made keeps f g h [] = λ x here. here
among_kept made keeps f g h (x ∷ xs) =
    let rest = among_kept made keeps f g h xs in
    elim (keeps x) as (λ b. AreAmong (flat_map g (map made (if b then x ∷ filter keeps xs else filter keeps xs))) (flat_map f (x ∷ xs))) [
      | true ↦ among_append (g (made x)) (f x) (flat_map g (kept made keeps xs)) (flat_map f xs) (h x) rest
      | false ↦ λ y here. has_right (f x) (flat_map f xs) y (rest y here)
    ]
