-- Items of lists: something holds of each; what is joined, mapped or kept, and what is found there.
use Rattle.std.proofs.Common.{◌≡◌, ◌⊎◌, inl, inr, ℕ, Bool, true, false, not, cond, List, [], ◌∷◌, ◌++◌, map, Option, None, Some, refl, sym, ◌∙◌, ap, subst}
use Rattle.std.specs.List.{find, filter, flat_map}
use Rattle.std.specs.Prelude.{⊤}
use Rattle.std.specs.Option.{option_and_then}
use Rattle.std.specs.Str.{bytes_eq}
use Rattle.std.proofs.lemmas.Bool.{and_parts, not-true, or_parts}
use Rattle.std.proofs.lemmas.List.Folds.{list_any-append}
use Rattle.cfj_model.specs.ProductLines.{are_new, are_distinct}
use Rattle.cfj_words.specs.Lists.{Has}
use Rattle.cfj_words.specs.Names.{is_among}
use Rattle.class_table.proofs.Members.{differs_back, has_cases, has_either, has_left, has_map, has_none, has_rest, has_right, name_is, none_find}

-- ---- of each item

abbrev pub Each : {A : Type 0} → (A → Type 0) → List A → Type 0
Each P [] = ⊤
Each P (x ∷ xs) = P x × Each P xs

pub each_of : {A : Type 0} (P : A → Type 0) (xs : List A) → ((x : A) → Has xs x → P x) → Each P xs
each_of P [] h = tt
each_of P (x ∷ xs) h = (h x (0, refl), each_of P xs (λ y here. h y (has_rest x xs y here)))

pub each_has : {A : Type 0} (P : A → Type 0) (xs : List A) → Each P xs → (x : A) → Has xs x → P x
each_has P [] e x h = absurd (has_none x h)
each_has P (y ∷ xs) e x h = go (each_has P xs e.1 x) (has_cases y xs x h)
  where
    go : (Has xs x → P x) → (y ≡ x) ⊎ Has xs x → P x
    go ih (inl s) = subst P s e.0
    go ih (inr here) = ih here

pub each_left : {A : Type 0} (P : A → Type 0) (xs ys : List A) → Each P (xs ++ ys) → Each P xs
each_left P [] ys e = tt
each_left P (x ∷ xs) ys e = (e.0, each_left P xs ys e.1)

pub each_right : {A : Type 0} (P : A → Type 0) (xs ys : List A) → Each P (xs ++ ys) → Each P ys
each_right P [] ys e = e
each_right P (x ∷ xs) ys e = each_right P xs ys e.1

pub each_both : {A : Type 0} (P : A → Type 0) (xs ys : List A) → Each P xs → Each P ys → Each P (xs ++ ys)
each_both P [] ys d e = e
each_both P (x ∷ xs) ys d e = (d.0, each_both P xs ys d.1 e)

-- ---- mapped and joined

pub map_has : {A B : Type 0} (f : A → B) (xs : List A) (y : B) → Has (map f xs) y → (x : A) × Has xs x × (f x ≡ y)
map_has f [] y h = absurd (has_none y h)
map_has {A} f (x ∷ xs) y h = go (map_has f xs y) (has_cases (f x) (map f xs) y h)
  where
    go : (Has (map f xs) y → (z : A) × Has xs z × (f z ≡ y)) → (f x ≡ y) ⊎ Has (map f xs) y → (z : A) × Has (x ∷ xs) z × (f z ≡ y)
    go ih (inl s) = (x, (0, refl), s)
    go ih (inr here) = let r = ih here in (r.0, has_rest x xs r.0 r.1, r.2)

pub flat_has : {A B : Type 0} (f : A → List B) (xs : List A) (y : B) → Has (flat_map f xs) y → (x : A) × Has xs x × Has (f x) y
flat_has f [] y h = absurd (has_none y h)
flat_has {A} f (x ∷ xs) y h = go (flat_has f xs y) (has_either (f x) (flat_map f xs) y h)
  where
    go : (Has (flat_map f xs) y → (z : A) × Has xs z × Has (f z) y) → Has (f x) y ⊎ Has (flat_map f xs) y → (z : A) × Has (x ∷ xs) z × Has (f z) y
    go ih (inl here) = (x, (0, refl), here)
    go ih (inr there) = let r = ih there in (r.0, has_rest x xs r.0 r.1, r.2)

pub has_flat : {A B : Type 0} (f : A → List B) (xs : List A) (x : A) (y : B) → Has xs x → Has (f x) y → Has (flat_map f xs) y
has_flat f [] x y h i = absurd (has_none x h)
has_flat f (z ∷ xs) x y h i = go (has_flat f xs x y) (has_cases z xs x h)
  where
    go : (Has xs x → Has (f x) y → Has (flat_map f xs) y) → (z ≡ x) ⊎ Has xs x → Has (f z ++ flat_map f xs) y
    go ih (inl s) = has_left (f z) (flat_map f xs) y (subst (λ w. Has (f w) y) (sym s) i)
    go ih (inr here) = has_right (f z) (flat_map f xs) y (ih here i)

-- lists that are made of items that agree
pub flat_same : {A B : Type 0} (f g : A → List B) → ((x : A) → f x ≡ g x) → (xs : List A) → flat_map f xs ≡ flat_map g xs
flat_same f g same [] = refl
flat_same f g same (x ∷ xs) = ap (λ w. w ++ flat_map f xs) (same x) ∙ ap (λ w. g x ++ w) (flat_same f g same xs)

pub flat_each : {A B : Type 0} (f g : A → List B) (xs : List A) → Each (λ x. f x ≡ g x) xs → flat_map f xs ≡ flat_map g xs
flat_each f g [] e = refl
flat_each f g (x ∷ xs) e = ap (λ w. w ++ flat_map f xs) e.0 ∙ ap (λ w. g x ++ w) (flat_each f g xs e.1)

-- ---- found once

-- a test tells its item from those behind it
abbrev pub IsAlone : {A : Type 0} → (A → Bool) → List A → Type 0
IsAlone test [] = ⊤
IsAlone test (x ∷ xs) = (test x ≡ true → find test xs ≡ None) × IsAlone test xs

-- a name that is new behind others is none of them
fresh : (before ns : List (List ℕ)) → are_new before ns ≡ true → (n : List ℕ) → Has ns n → is_among before n ≡ false
fresh before [] e n h = absurd (has_none n h)
fresh before (m ∷ ns) e n h = go (fresh (before ++ m ∷ []) ns parts.1 n) (has_cases m ns n h)
  where
    parts : (not (is_among before m) ≡ true) × (are_new (before ++ m ∷ []) ns ≡ true)
    parts = and_parts (not (is_among before m)) (are_new (before ++ m ∷ []) ns) e

    go : (Has ns n → is_among (before ++ m ∷ []) n ≡ false) → (m ≡ n) ⊎ Has ns n → is_among before n ≡ false
    go ih (inl s) = ap (is_among before) (sym s) ∙ not-true (is_among before m) parts.0
    go ih (inr here) = (or_parts (is_among before n) (is_among (m ∷ []) n) (sym (list_any-append (λ x. bytes_eq x n) before (m ∷ [])) ∙ ih here)).0

-- distinct names tell items apart
alone_new : {A : Type 0} (key : A → List ℕ) (n : List ℕ) (before : List (List ℕ)) (xs : List A) → are_new before (map key xs) ≡ true → IsAlone (λ x. bytes_eq (key x) n) xs
alone_new key n before [] e = tt
alone_new {A} key n before (x ∷ xs) e = (λ here. none_find (λ y. bytes_eq (key y) n) xs (λ y h. differs_back n (key y) (unlike_first here y h)), alone_new key n (before ++ key x ∷ []) xs rest)
  where
    rest : are_new (before ++ key x ∷ []) (map key xs) ≡ true
    rest = (and_parts _ (are_new (before ++ key x ∷ []) (map key xs)) e).1

    unlike_first : bytes_eq (key x) n ≡ true → (y : A) → Has xs y → bytes_eq n (key y) ≡ false
    unlike_first here y h =
        let f = fresh (before ++ key x ∷ []) (map key xs) rest (key y) (has_map key xs y h) in
        let g = or_parts (is_among before (key y)) (is_among (key x ∷ []) (key y)) (sym (list_any-append (λ z. bytes_eq z (key y)) before (key x ∷ [])) ∙ f) in
        subst (λ w. bytes_eq w (key y) ≡ false) (name_is (key x) n here) (or_parts (bytes_eq (key x) (key y)) false g.1).0

pub distinct_alone : {A : Type 0} (key : A → List ℕ) (n : List ℕ) (xs : List A) → are_distinct (map key xs) ≡ true → IsAlone (λ x. bytes_eq (key x) n) xs
distinct_alone key n xs e = alone_new key n [] xs e

module _ {A B : Type 0} (made : A → B) (keeps : A → Bool) where
  -- what is left of an item
  abbrev pub left_of : A → Option B
  left_of x = cond (keeps x) (Some (made x)) None

  -- what is found among the items that are kept is what is left of what was found
  pub find_kept : (test : A → Bool) (like : B → Bool) → ((x : A) → like (made x) ≡ test x) → (xs : List A) → IsAlone test xs
      → find like (map made (filter keeps xs)) ≡ option_and_then left_of (find test xs)
  find_kept test like same [] alone = refl
  find_kept test like same (x ∷ xs) alone = go (keeps x) refl (test x) refl (find_kept test like same xs alone.1)
    where
      rest : Option B
      rest = find like (map made (filter keeps xs))

      go : (k : Bool) → keeps x ≡ k → (t : Bool) → test x ≡ t → rest ≡ option_and_then left_of (find test xs)
          → find like (map made (cond k (x ∷ filter keeps xs) (filter keeps xs))) ≡ option_and_then left_of (cond t (Some x) (find test xs))
      go true q true r ih = ap (λ b. cond b (Some (made x)) rest) (same x ∙ r) ∙ sym (ap (λ b. cond b (Some (made x)) None) q)
      go true q false r ih = ap (λ b. cond b (Some (made x)) rest) (same x ∙ r) ∙ ih
      go false q true r ih = ih ∙ ap (option_and_then left_of) (alone.0 r) ∙ sym (ap (λ b. cond b (Some (made x)) None) q)
      go false q false r ih = ih
