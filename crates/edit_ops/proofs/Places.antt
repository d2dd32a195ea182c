-- The first item that passes a test, by its place.
use Rattle.std.proofs.Common.{◌≡◌, ℕ, ◌<◌, ◌≤◌, ◌⊎◌, inl, inr, Bool, true, false, cond, List, length, Option, Some, None, is_some, get_or, slice_get, nat_lt, position, find, refl, sym, ◌∙◌, ap, subst, arith}
use Rattle.std.specs.List.{position_or_len}
use Rattle.std.proofs.lemmas.Bool.{ltb-false, ltb-true}
use Rattle.std.proofs.lemmas.List.Folds.{find_at}
use Rattle.std.proofs.lemmas.Option.{slice_get_cases, slice_get_past}

module _ {A : Type 0} (test : A → Bool) (xs : List A) where
  abbrev place : ℕ
  place = position_or_len test xs

  pub first_place : (n : ℕ) → position test xs ≡ Some n → place ≡ n
  first_place n is = by (nat_lt place (length xs)) is
    where
      by : (b : Bool) → cond b (Some place) None ≡ Some n → place ≡ n
      by true here = cc here
      by false here = absurd (cc here)

  pub no_place : position test xs ≡ None → length xs ≤ place
  no_place is = by (nat_lt place (length xs)) refl is
    where
      by : (b : Bool) → nat_lt place (length xs) ≡ b → cond b (Some place) None ≡ None → length xs ≤ place
      by true past here = absurd (cc here)
      by false past here = ltb-false place (length xs) past

  -- it stands at its place
  pub found_at : (n : ℕ) (x : A) → position test xs ≡ Some n → slice_get xs n ≡ Some x → Some x ≡ find test xs
  found_at n x is at = by (nat_lt place (length xs)) is
    where
      by : (b : Bool) → cond b (Some place) None ≡ Some n → Some x ≡ find test xs
      by true here = let same : place ≡ n = cc here in sym (find_at test xs ∙ ap (slice_get xs) same ∙ at)
      by false here = absurd (cc here)

  -- and where there is no place there is no item
  pub found_none : position test xs ≡ None → None ≡ find test xs
  found_none is = by (nat_lt place (length xs)) refl is
    where
      by : (b : Bool) → nat_lt place (length xs) ≡ b → cond b (Some place) None ≡ None → None ≡ find test xs
      by true past here = absurd (cc here)
      by false past here = sym (find_at test xs ∙ slice_get_past xs place (ltb-false place (length xs) past))

  -- there is a place exactly where there is an item
  pub found_both : is_some (position test xs) ≡ is_some (find test xs)
  found_both = by (position test xs) refl
    where
      by : (o : Option ℕ) → position test xs ≡ o → is_some o ≡ is_some (find test xs)
      by None is = ap is_some (found_none is)
      by (Some n) is = there (slice_get_cases xs n).1
        where
          past : (b : Bool) → nat_lt place (length xs) ≡ b → cond b (Some place) None ≡ Some n → n < length xs
          past true h e = let same : place ≡ n = cc e in subst (λ m. m < length xs) same (ltb-true place (length xs) h)
          past false h e = absurd (cc e)

          there : ((x : A) × (n < length xs) × (slice_get xs n ≡ Some x) × (get_or xs n x ≡ x)) ⊎ ((length xs ≤ n) × (slice_get xs n ≡ None)) → true ≡ is_some (find test xs)
          there (inl (x, within, at, same)) = ap is_some (found_at n x is at)
          there (inr (none, at)) = absurd (let within = past (nat_lt place (length xs)) refl is in let no : ⊥ = omega (arith, within, none) in no)
