-- What a list that keeps some of its items, each changed, has of the list that it came from.
use Rattle.std.proofs.Common.{◌≡◌, refl, sym, ap, ◌∙◌, ℕ, ◌+◌, ◌≤◌, Bool, true, false, not, ◌||◌, nat_le, nat_lt, List, [], ◌∷◌, ◌++◌, length, map, drop, cond, if◌then◌else◌, slice_get, Some, arith}
use Rattle.std.specs.List.{filter, list_all, sum_by}
use Rattle.std.specs.Str.{bytes_eq}
use Rattle.std.proofs.lemmas.Bool.{leb-true, le-leb, and_parts, and_from}
use Rattle.std.proofs.lemmas.List.{append_assoc, drop_more}
use Rattle.std.proofs.lemmas.Option.{get_or_from_slice_get, slice_get_within}
use Rattle.std.proofs.lemmas.List.Sums.{sum_by-cons}
use Rattle.std.proofs.lemmas.List.Folds.{list_any-append}
use Rattle.cfj_model.specs.Members.{alts_rise}
use Rattle.cfj_model.specs.ProductLines.{are_new, are_distinct, rise_from}
use Rattle.cfj_words.specs.Names.{is_among}

pub at_most : (n m most : ℕ) → n ≤ m → nat_le m most ≡ true → nat_le n most ≡ true
at_most n m most le e = let within = leb-true m most e in le-leb n most (omega arith)

-- fewer names before have no name that those lack
abbrev IsPart : List (List ℕ) → List (List ℕ) → Type 0
IsPart fewer names = (n : List ℕ) → is_among fewer n ≡ true → is_among names n ≡ true

not_before : (a b : Bool) → (a ≡ true → b ≡ true) → not b ≡ true → not a ≡ true
not_before false b h e = refl
not_before true true h e = e
not_before true false h e = h refl

either_more : (a b c : Bool) → (a ≡ true → b ≡ true) → (a || c) ≡ true → (b || c) ≡ true
either_more true true c h e = refl
either_more true false c h e = absurd (let no : ⊥ = cc (h refl) in no)
either_more false true c h e = refl
either_more false false c h e = e

either_left : (b c : Bool) → b ≡ true → (b || c) ≡ true
either_left true c e = refl
either_left false c e = absurd (let no : ⊥ = cc e in no)

part_behind : (fewer names : List (List ℕ)) (x : List ℕ) → IsPart fewer names → IsPart (fewer ++ x ∷ []) (names ++ x ∷ [])
part_behind fewer names x h n e =
    list_any-append (λ m. bytes_eq m n) names (x ∷ [])
    ∙ either_more (is_among fewer n) (is_among names n) (is_among (x ∷ []) n) (h n) (sym (list_any-append (λ m. bytes_eq m n) fewer (x ∷ [])) ∙ e)

part_past : (fewer names : List (List ℕ)) (x : List ℕ) → IsPart fewer names → IsPart fewer (names ++ x ∷ [])
part_past fewer names x h n e = list_any-append (λ m. bytes_eq m n) names (x ∷ []) ∙ either_left (is_among names n) (is_among (x ∷ []) n) (h n e)

drop_there : {A : Type 0} (xs : List A) (i : ℕ) (x : A) → slice_get xs i ≡ Some x → drop i xs ≡ x ∷ drop (i + 1) xs
drop_there xs i x here = drop_more xs i x (slice_get_within xs i x here) ∙ ap (λ y. y ∷ drop (i + 1) xs) (get_or_from_slice_get xs i x x here)

both_less : (a b c d : ℕ) → a ≤ b → c ≤ d → a + c ≤ b + d
both_less a b c d h k = omega arith

less_with : (b c d : ℕ) → c ≤ d → c ≤ b + d
less_with b c d k = omega arith

module _ {A B : Type 0} (made : A → B) (keeps : A → Bool) where
  -- the items that are kept, each made into another
  abbrev pub kept : List A → List B
  kept xs = map made (filter keeps xs)

  -- the same, where it is known whether the first one is kept
  abbrev kept_by : Bool → A → List A → List B
  kept_by b x xs = map made (cond b (x ∷ filter keeps xs) (filter keeps xs))

  -- the loop's next item is kept, or passed over
  pub kept_taken : (xs : List A) (i : ℕ) (x : A) (y : B) (before after all : List B) → slice_get xs i ≡ Some x → keeps x ≡ true → y ≡ made x
      → after ≡ before ++ y ∷ [] → before ++ kept (drop i xs) ≡ all → after ++ kept (drop (i + 1) xs) ≡ all
  kept_taken xs i x y before after all here passes same push e =
      let rest = drop_there xs i x here in
      ap (λ w. w ++ kept (drop (i + 1) xs)) push
      ∙ append_assoc before (y ∷ []) (kept (drop (i + 1) xs))
      ∙ ap (λ w. before ++ w ∷ kept (drop (i + 1) xs)) same
      ∙ ap (λ b. before ++ kept_by b x (drop (i + 1) xs)) (sym passes)
      ∙ ap (λ w. before ++ kept w) (sym rest)
      ∙ e

  pub kept_passed : (xs : List A) (i : ℕ) (x : A) (before all : List B) → slice_get xs i ≡ Some x → keeps x ≡ false → before ++ kept (drop i xs) ≡ all
      → before ++ kept (drop (i + 1) xs) ≡ all
  kept_passed xs i x before all here passes e =
      let rest = drop_there xs i x here in
      ap (λ b. before ++ kept_by b x (drop (i + 1) xs)) (sym passes) ∙ ap (λ w. before ++ kept w) (sym rest) ∙ e

  pub length_kept : (xs : List A) → length (kept xs) ≤ length xs
  length_kept [] = omega arith
  length_kept (x ∷ xs) =
      let less = length_kept xs in
      elim (keeps x) as (λ b. length (kept_by b x xs) ≤ length (x ∷ xs)) [ true ↦ omega arith | false ↦ omega arith ]

  pub few_kept : (most : ℕ) (xs : List A) → nat_le (length xs) most ≡ true → nat_le (length (kept xs)) most ≡ true
  few_kept most xs e = at_most (length (kept xs)) (length xs) most (length_kept xs) e

  pub sum_kept : (f : A → ℕ) (g : B → ℕ) → ((x : A) → g (made x) ≤ f x) → (xs : List A) → sum_by g (kept xs) ≤ sum_by f xs
  sum_kept f g h [] = omega arith
  sum_kept f g h (x ∷ xs) =
      let less = sum_kept f g h xs in
      let here = h x in
      elim (keeps x) as (λ b. sum_by g (kept_by b x xs) ≤ sum_by f (x ∷ xs)) [
        | true ↦ rw (sum_by-cons g (made x) (kept xs), sum_by-cons f x xs) (both_less (g (made x)) (f x) (sum_by g (kept xs)) (sum_by f xs) here less)
        | false ↦ rw (sum_by-cons f x xs) (less_with (f x) (sum_by g (kept xs)) (sum_by f xs) less)
      ]

  pub small_kept : (f : A → ℕ) (g : B → ℕ) → ((x : A) → g (made x) ≤ f x) → (most : ℕ) (xs : List A) → nat_le (sum_by f xs) most ≡ true
      → nat_le (sum_by g (kept xs)) most ≡ true
  small_kept f g h most xs e = at_most (sum_by g (kept xs)) (sum_by f xs) most (sum_kept f g h xs) e

  new_kept : (name : B → List ℕ) (xs : List A) (fewer names : List (List ℕ)) → IsPart fewer names → are_new names (map (λ x. name (made x)) xs) ≡ true
      → are_new fewer (map name (kept xs)) ≡ true
  new_kept name [] fewer names h e = refl
  new_kept name (x ∷ xs) fewer names h e =
      let n = name (made x) in
      let parts = and_parts (not (is_among names n)) (are_new (names ++ n ∷ []) (map (λ y. name (made y)) xs)) e in
      elim (keeps x) as (λ b. are_new fewer (map name (kept_by b x xs)) ≡ true) [
        | true ↦ and_from (not (is_among fewer n)) (are_new (fewer ++ n ∷ []) (map name (kept xs)))
            (not_before (is_among fewer n) (is_among names n) (h n) parts.0)
            (new_kept name xs (fewer ++ n ∷ []) (names ++ n ∷ []) (part_behind fewer names n h) parts.1)
        | false ↦ new_kept name xs fewer (names ++ n ∷ []) (part_past fewer names n h) parts.1
      ]

  -- distinct names stay distinct
  pub distinct_kept : (name : B → List ℕ) (xs : List A) → are_distinct (map (λ x. name (made x)) xs) ≡ true → are_distinct (map name (kept xs)) ≡ true
  distinct_kept name xs e = new_kept name xs [] [] (λ n none. none) e

  -- what each item's pair of a name and an alt has, that of each kept item has
  pairs_kept : (named : B → List ℕ × ℕ) (p : List ℕ × ℕ → Bool) (xs : List A) → list_all p (map (λ x. named (made x)) xs) ≡ true
      → list_all p (map named (kept xs)) ≡ true
  pairs_kept named p [] e = refl
  pairs_kept named p (x ∷ xs) e =
      let here = p (named (made x)) in
      let parts = and_parts here (list_all p (map (λ y. named (made y)) xs)) e in
      let rest = pairs_kept named p xs parts.1 in
      elim (keeps x) as (λ b. list_all p (map named (kept_by b x xs)) ≡ true) [
        | true ↦ and_from here (list_all p (map named (kept xs))) parts.0 rest
        | false ↦ rest
      ]

  -- alts that rise among the items of one name still rise
  pub alts_kept : (named : B → List ℕ × ℕ) (xs : List A) → alts_rise (map (λ x. named (made x)) xs) ≡ true → alts_rise (map named (kept xs)) ≡ true
  alts_kept named [] e = refl
  alts_kept named (x ∷ xs) e =
      let m = named (made x) in
      let after : List ℕ × ℕ → Bool = λ n. not (bytes_eq n.0 m.0) || nat_lt m.1 n.1 in
      let parts = and_parts (list_all after (map (λ y. named (made y)) xs)) (alts_rise (map (λ y. named (made y)) xs)) e in
      let rest = alts_kept named xs parts.1 in
      elim (keeps x) as (λ b. alts_rise (map named (kept_by b x xs)) ≡ true) [
        | true ↦ and_from (list_all after (map named (kept xs))) (alts_rise (map named (kept xs))) (pairs_kept named after xs parts.0) rest
        | false ↦ rest
      ]

  rise_above : (slot : B → ℕ) (xs : List A) (low least : ℕ) → low ≤ least → rise_from least (map (λ x. slot (made x)) xs) ≡ true
      → rise_from low (map slot (kept xs)) ≡ true
  rise_above slot [] low least le e = refl
  rise_above slot (x ∷ xs) low least le e =
      let n = slot (made x) in
      let parts = and_parts (nat_le least n) (rise_from (n + 1) (map (λ y. slot (made y)) xs)) e in
      let up = leb-true least n parts.0 in
      elim (keeps x) as (λ b. rise_from low (map slot (kept_by b x xs)) ≡ true) [
        | true ↦ and_from (nat_le low n) (rise_from (n + 1) (map slot (kept xs))) (le-leb low n (omega arith)) (rise_above slot xs (n + 1) (n + 1) (omega arith) parts.1)
        | false ↦ rise_above slot xs low (n + 1) (omega arith) parts.1
      ]

  -- slots that rise still rise
  pub rise_kept : (slot : B → ℕ) (xs : List A) → rise_from 0 (map (λ x. slot (made x)) xs) ≡ true → rise_from 0 (map slot (kept xs)) ≡ true
  rise_kept slot xs e = rise_above slot xs 0 0 (omega arith) e

  -- what each item has, and what is made of it keeps, each kept item has
  pub all_kept : (p : A → Bool) (q : B → Bool) → ((x : A) → p x ≡ true → q (made x) ≡ true) → (xs : List A) → list_all p xs ≡ true → list_all q (kept xs) ≡ true
  all_kept p q h [] e = refl
  all_kept p q h (x ∷ xs) e =
      let parts = and_parts (p x) (list_all p xs) e in
      let rest = all_kept p q h xs parts.1 in
      elim (keeps x) as (λ b. list_all q (kept_by b x xs) ≡ true) [
        | true ↦ and_from (q (made x)) (list_all q (kept xs)) (h x parts.0) rest
        | false ↦ rest
      ]

  pub all_made : (q : B → Bool) → ((x : A) → q (made x) ≡ true) → (xs : List A) → list_all q (kept xs) ≡ true
  all_made q h [] = refl
  all_made q h (x ∷ xs) =
      let rest = all_made q h xs in
      elim (keeps x) as (λ b. list_all q (kept_by b x xs) ≡ true) [
        | true ↦ and_from (q (made x)) (list_all q (kept xs)) (h x) rest
        | false ↦ rest
      ]

-- what is kept of a list of views, by what they are views of
pub kept_of_map : {A B C : Type 0} (made : A → B) (keeps : A → Bool) (view : C → A) (xs : List C)
    → map made (filter keeps (map view xs)) ≡ map (λ x. made (view x)) (filter (λ x. keeps (view x)) xs)
kept_of_map made keeps view [] = refl
kept_of_map made keeps view (x ∷ xs) = go (keeps (view x)) (kept_of_map made keeps view xs)
  where
    go : (b : Bool) → map made (filter keeps (map view xs)) ≡ map (λ y. made (view y)) (filter (λ y. keeps (view y)) xs) →
        map made (if b then view x ∷ filter keeps (map view xs) else filter keeps (map view xs)) ≡ map (λ y. made (view y)) (if b then x ∷ filter (λ y. keeps (view y)) xs else filter (λ y. keeps (view y)) xs)
    go true e = ap (λ w. made (view x) ∷ w) e
    go false e = e
