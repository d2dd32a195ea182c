-- The texts of a list, one item at a time.
use Rattle.std.proofs.Common.{◌≡◌, refl, sym, ap, ◌∙◌, ℕ, ◌+◌, ◌<◌, Bool, true, false, if◌then◌else◌, List, [], ◌∷◌, ◌++◌, length, take, drop, slice_index_or, codes, map, append-nil}
use Rattle.std.specs.List.{filter}
use Rattle.std.proofs.lemmas.List.{append_assoc, take-append-drop, take_more, drop_more}
use Rattle.std.proofs.lemmas.List.Elements.{filter-append}
use Rattle.cfj_model.specs.Print.{texts, texts_behind, joined}

-- what stands between the items of a list so far and the next one
abbrev pub separator : {A : Type 0} → List A → List ℕ
separator [] = []
separator (x ∷ xs) = codes ", "

separator_behind : {A : Type 0} (xs : List A) (x : A) → codes ", " ≡ separator (xs ++ x ∷ [])
separator_behind [] x = refl
separator_behind (y ∷ ys) x = refl

split_there : {A : Type 0} (xs : List A) (i : ℕ) (d : A) → i < length xs → xs ≡ take i xs ++ slice_index_or xs i d ∷ drop (i + 1) xs
split_there xs i d h = sym (take-append-drop i xs) ∙ ap (λ w. take i xs ++ w) (drop_more xs i d h)

pub separator_after : {A : Type 0} (xs : List A) (i : ℕ) (d : A) → i < length xs → codes ", " ≡ separator (take (i + 1) xs)
separator_after xs i d h = separator_behind (take i xs) (slice_index_or xs i d) ∙ ap separator (sym (take_more xs i d h))

-- all items of a list are kept by a test that each passes
pub all_kept : {A : Type 0} (xs : List A) → filter (λ _. true) xs ≡ xs
all_kept [] = refl
all_kept (x ∷ xs) = ap (λ w. x ∷ w) (all_kept xs)

-- the items that a test keeps, where the one at a place is known
module _ {A : Type 0} (keeps : A → Bool) where
  kept_one : (x : A) → keeps x ≡ true → (xs : List A) → filter keeps (x ∷ xs) ≡ x ∷ filter keeps xs
  kept_one x e xs = ap (λ b. if b then x ∷ filter keeps xs else filter keeps xs) e

  kept_none : (x : A) → keeps x ≡ false → (xs : List A) → filter keeps (x ∷ xs) ≡ filter keeps xs
  kept_none x e xs = ap (λ b. if b then x ∷ filter keeps xs else filter keeps xs) e

  module _ (xs : List A) (i : ℕ) (x : A) (lt : i < length xs) (here : x ≡ slice_index_or xs i x) where
    kept_to : filter keeps (take (i + 1) xs) ≡ filter keeps (take i xs) ++ filter keeps (x ∷ [])
    kept_to =
        ap (filter keeps) (take_more xs i x lt)
        ∙ filter-append keeps (take i xs) (slice_index_or xs i x ∷ [])
        ∙ ap (λ w. filter keeps (take i xs) ++ filter keeps (w ∷ [])) (sym here)

    pub kept_more : keeps x ≡ true → filter keeps (take (i + 1) xs) ≡ filter keeps (take i xs) ++ x ∷ []
    kept_more e = kept_to ∙ ap (λ w. filter keeps (take i xs) ++ w) (kept_one x e [])

    pub kept_same : keeps x ≡ false → filter keeps (take (i + 1) xs) ≡ filter keeps (take i xs)
    kept_same e = kept_to ∙ ap (λ w. filter keeps (take i xs) ++ w) (kept_none x e []) ∙ append-nil (filter keeps (take i xs))

    pub kept_there : keeps x ≡ true → filter keeps xs ≡ filter keeps (take i xs) ++ x ∷ filter keeps (drop (i + 1) xs)
    kept_there e =
        ap (filter keeps) (split_there xs i x lt)
        ∙ filter-append keeps (take i xs) (slice_index_or xs i x ∷ drop (i + 1) xs)
        ∙ ap (λ w. filter keeps (take i xs) ++ filter keeps (w ∷ drop (i + 1) xs)) (sym here)
        ∙ ap (λ w. filter keeps (take i xs) ++ w) (kept_one x e (drop (i + 1) xs))

    pub kept_separator : keeps x ≡ true → codes ", " ≡ separator (filter keeps (take (i + 1) xs))
    kept_separator e = separator_behind (filter keeps (take i xs)) x ∙ ap separator (sym (kept_more e))

module _ {A : Type 0} (text : A → List ℕ) where
  texts-append : (xs ys : List A) → texts text (xs ++ ys) ≡ texts text xs ++ texts text ys
  texts-append [] ys = refl
  texts-append (x ∷ xs) ys = ap (λ w. text x ++ w) (texts-append xs ys) ∙ sym (append_assoc (text x) (texts text xs) (texts text ys))

  behind-append : (xs ys : List A) → texts_behind text (xs ++ ys) ≡ texts_behind text xs ++ texts_behind text ys
  behind-append [] ys = refl
  behind-append (x ∷ xs) ys = ap (λ w. codes ", " ++ (text x ++ w)) (behind-append xs ys) ∙ ap (λ w. codes ", " ++ w) (sym (append_assoc (text x) (texts_behind text xs) (texts_behind text ys)))

  joined-append : (xs : List A) (y : A) (ys : List A) → joined text (xs ++ y ∷ ys) ≡ joined text xs ++ ((separator xs ++ text y) ++ texts_behind text ys)
  joined-append [] y ys = refl
  joined-append (x ∷ xs) y ys =
      ap (λ w. text x ++ w) (behind-append xs (y ∷ ys)) ∙ sym (append_assoc (text x) (texts_behind text xs) (codes ", " ++ (text y ++ texts_behind text ys)))

  -- an item behind others prints as a piece
  pub texts_one : (before more : List A) (x : A) → more ≡ before ++ x ∷ [] → texts text more ≡ texts text before ++ text x
  texts_one before more x e =
      ap (texts text) e
      ∙ texts-append before (x ∷ [])
      ∙ ap (λ w. texts text before ++ w) (append-nil (text x))

  pub texts_whole : (before rest all : List A) (x : A) → all ≡ before ++ x ∷ rest → texts text all ≡ texts text before ++ (text x ++ texts text rest)
  texts_whole before rest all x e = ap (texts text) e ∙ texts-append before (x ∷ rest)

  pub joined_one : (before more : List A) (x : A) (between : List ℕ) → between ≡ separator before → more ≡ before ++ x ∷ [] → joined text more ≡ joined text before ++ (between ++ text x)
  joined_one before more x between s e =
      ap (joined text) e
      ∙ joined-append before x []
      ∙ ap (λ w. joined text before ++ w) (append-nil (separator before ++ text x) ∙ ap (λ w. w ++ text x) (sym s))

  pub joined_whole : (before rest all : List A) (x : A) (between : List ℕ) → between ≡ separator before → all ≡ before ++ x ∷ rest → joined text all ≡ joined text before ++ ((between ++ text x) ++ texts_behind text rest)
  joined_whole before rest all x between s e =
      ap (joined text) e
      ∙ joined-append before x rest
      ∙ ap (λ w. joined text before ++ ((w ++ text x) ++ texts_behind text rest)) (sym s)

  -- the item at a place
  pub texts_more : (xs : List A) (i : ℕ) (d : A) (piece : List ℕ) → i < length xs → piece ≡ text (slice_index_or xs i d) → texts text (take (i + 1) xs) ≡ texts text (take i xs) ++ piece
  texts_more xs i d piece h e =
      texts_one (take i xs) (take (i + 1) xs) (slice_index_or xs i d) (take_more xs i d h)
      ∙ ap (λ w. texts text (take i xs) ++ w) (sym e)

  pub texts_there : (xs : List A) (i : ℕ) (d : A) (piece : List ℕ) → i < length xs → piece ≡ text (slice_index_or xs i d) → texts text xs ≡ texts text (take i xs) ++ (piece ++ texts text (drop (i + 1) xs))
  texts_there xs i d piece h e =
      texts_whole (take i xs) (drop (i + 1) xs) xs (slice_index_or xs i d) (split_there xs i d h)
      ∙ ap (λ w. texts text (take i xs) ++ (w ++ texts text (drop (i + 1) xs))) (sym e)

  pub joined_more : (xs : List A) (i : ℕ) (d : A) (between piece : List ℕ) → i < length xs → between ≡ separator (take i xs) → piece ≡ text (slice_index_or xs i d) → joined text (take (i + 1) xs) ≡ joined text (take i xs) ++ (between ++ piece)
  joined_more xs i d between piece h s e =
      joined_one (take i xs) (take (i + 1) xs) (slice_index_or xs i d) between s (take_more xs i d h)
      ∙ ap (λ w. joined text (take i xs) ++ (between ++ w)) (sym e)

  pub joined_there : (xs : List A) (i : ℕ) (d : A) (between piece : List ℕ) → i < length xs → between ≡ separator (take i xs) → piece ≡ text (slice_index_or xs i d) → joined text xs ≡ joined text (take i xs) ++ ((between ++ piece) ++ texts_behind text (drop (i + 1) xs))
  joined_there xs i d between piece h s e =
      joined_whole (take i xs) (drop (i + 1) xs) xs (slice_index_or xs i d) between s (split_there xs i d h)
      ∙ ap (λ w. joined text (take i xs) ++ ((between ++ w) ++ texts_behind text (drop (i + 1) xs))) (sym e)

  -- a list's text, by what its items are views of
  pub texts-map : {B : Type 0} (view : B → A) (xs : List B) → texts text (map view xs) ≡ texts (λ x. text (view x)) xs
  texts-map view [] = refl
  texts-map view (x ∷ xs) = ap (λ w. text (view x) ++ w) (texts-map view xs)

  behind-map : {B : Type 0} (view : B → A) (xs : List B) → texts_behind text (map view xs) ≡ texts_behind (λ x. text (view x)) xs
  behind-map view [] = refl
  behind-map view (x ∷ xs) = ap (λ w. codes ", " ++ (text (view x) ++ w)) (behind-map view xs)

  pub joined-map : {B : Type 0} (view : B → A) (xs : List B) → joined text (map view xs) ≡ joined (λ x. text (view x)) xs
  joined-map view [] = refl
  joined-map view (x ∷ xs) = ap (λ w. text (view x) ++ w) (behind-map view xs)

-- the item at a place, among those that a test keeps
module _ {A : Type 0} (text : A → List ℕ) (keeps : A → Bool) (xs : List A) (i : ℕ) (x : A) (lt : i < length xs) (here : x ≡ slice_index_or xs i x) (passes : keeps x ≡ true) where
  pub kept_texts_more : texts text (filter keeps (take (i + 1) xs)) ≡ texts text (filter keeps (take i xs)) ++ text x
  kept_texts_more = texts_one text (filter keeps (take i xs)) (filter keeps (take (i + 1) xs)) x (kept_more keeps xs i x lt here passes)

  pub kept_texts_there : texts text (filter keeps xs) ≡ texts text (filter keeps (take i xs)) ++ (text x ++ texts text (filter keeps (drop (i + 1) xs)))
  kept_texts_there =
      texts_whole text (filter keeps (take i xs)) (filter keeps (drop (i + 1) xs)) (filter keeps xs) x (kept_there keeps xs i x lt here passes)

  pub kept_joined_more : (between : List ℕ) → between ≡ separator (filter keeps (take i xs)) → joined text (filter keeps (take (i + 1) xs)) ≡ joined text (filter keeps (take i xs)) ++ (between ++ text x)
  kept_joined_more between s =
      joined_one text (filter keeps (take i xs)) (filter keeps (take (i + 1) xs)) x between s (kept_more keeps xs i x lt here passes)

  pub kept_joined_there : (between : List ℕ) → between ≡ separator (filter keeps (take i xs)) → joined text (filter keeps xs) ≡ joined text (filter keeps (take i xs)) ++ ((between ++ text x) ++ texts_behind text (filter keeps (drop (i + 1) xs)))
  kept_joined_there between s =
      joined_whole text (filter keeps (take i xs)) (filter keeps (drop (i + 1) xs)) (filter keeps xs) x between s (kept_there keeps xs i x lt here passes)
