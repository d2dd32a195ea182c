-- Lists that grow by what breaks of others, whatever breaks there.
use Rattle.std.proofs.Common.{◌≡◌, ℕ, ◌+◌, ◌≤◌, List, [], ◌∷◌, ◌++◌, length, map, drop, sym, ◌∙◌, ap}
use Rattle.std.specs.List.{flat_map}
use Rattle.std.proofs.lemmas.List.{append_assoc, append-nil}
use Rattle.plain_fj.proofs.TypeLists.{drop_past}

-- over what an item is seen as, and what breaks of a list
module _ {B X P : Type 0} (seen : B → P) (broken : List X → List P) (append : (xs ys : List X) → broken (xs ++ ys) ≡ broken xs ++ broken ys) where
  -- what breaks of these comes behind
  abbrev Grows : List B → List B → List X → Type 0
  Grows a b xs = map seen b ≡ map seen a ++ broken xs

  -- by the first, and then
  pub grows_then : (a b c : List B) (xs ys : List X) → Grows a b xs → Grows b c ys → Grows a c (xs ++ ys)
  grows_then a b c xs ys first next =
      next ∙ ap (λ z. z ++ broken ys) first ∙ append_assoc (map seen a) (broken xs) (broken ys) ∙ ap (λ z. map seen a ++ z) (sym (append xs ys))

  pub grows_as : (a b : List B) (xs ys : List X) → broken xs ≡ broken ys → Grows a b xs → Grows a b ys
  grows_as a b xs ys same grows = grows ∙ ap (λ z. map seen a ++ z) same

  -- one item after another
  module _ {A : Type 0} (of : A → List X) (xs : List A) (i : ℕ) (a b : List B) where
    -- with what breaks of the items from the place on, all is there
    abbrev GrowsUpTo : Type 0
    GrowsUpTo = map seen b ++ broken (flat_map of (drop i xs)) ≡ map seen a ++ broken (flat_map of xs)

    pub grows_more : (x : A) (c : List B) → GrowsUpTo → drop i xs ≡ x ∷ drop (i + 1) xs → Grows b c (of x)
        → map seen c ++ broken (flat_map of (drop (i + 1) xs)) ≡ map seen a ++ broken (flat_map of xs)
    grows_more x c so_far at grows =
        ap (λ z. z ++ broken rest) grows ∙ append_assoc (map seen b) (broken (of x)) (broken rest) ∙ ap (λ z. map seen b ++ z) (sym (append (of x) rest))
        ∙ ap (λ z. map seen b ++ broken (flat_map of z)) (sym at) ∙ so_far
      where
        rest : List X
        rest = flat_map of (drop (i + 1) xs)

    pub grows_all : broken [] ≡ [] → GrowsUpTo → length xs ≤ i → Grows a b (flat_map of xs)
    grows_all nothing so_far le =
        sym (append-nil (map seen b)) ∙ ap (λ z. map seen b ++ z) (sym nothing) ∙ ap (λ z. map seen b ++ broken (flat_map of z)) (sym (drop_past xs i le)) ∙ so_far
