-- The chain of a variant is the front part of the line's chain that is there.
use Rattle.std.proofs.Common.{◌≡◌, ◌⊎◌, inl, inr, ℕ, zero, suc, ◌≤◌, Bool, true, false, cond, List, [], ◌∷◌, ◌++◌, length, map, Option, None, Some, refl, sym, ◌∙◌, ap, ap₂, arith}
use Rattle.std.specs.List.{filter, flat_map}
use Rattle.std.specs.Option.{option_and_then}
use Rattle.std.proofs.lemmas.List.{map-append}
use Rattle.std.proofs.lemmas.List.Elements.{filter-append}
use Rattle.cfj_logic.specs.Selections.{Chosen}
use Rattle.cfj_logic.specs.Sides.{Sides}
use Rattle.cfj_model.specs.LookUps.{Table, added, chain, chain_in, declared, without}
use Rattle.cfj_model.specs.ProductLines.{IsProject, ProductLine}
use Rattle.cfj_model.specs.Projection.{is_present, presence_of, projected, projected_class}
use Rattle.cfj_model.specs.declared.class.Class.{Class}
use Rattle.class_table.proofs.Members.{names_tell}
use Rattle.class_table.proofs.Without.{others, taken, without_lt}
use Rattle.feature_views.proofs.Presence.{present_inside}
use Rattle.locality_law.proofs.SeenBroken.{absent_inside}
use Rattle.locality_law.proofs.SeenVariants.{declared_variant, shown, variant_is}
use Rattle.guarded_types.specs.Along.{along, behind, there}
use Rattle.guarded_types.specs.declared.marked.Marked.{Marked}

module _ (s : Chosen) where
  -- the classes of a chain before the first that isn't there
  abbrev pub shown_part : List Class → List Class
  shown_part [] = []
  shown_part (k ∷ ks) = cond (is_present s k.colors) (k ∷ shown_part ks) []

  -- a table has what is left of each class of another
  abbrev IsFollowed : Table → Table → Type 0
  IsFollowed v p = (n : List ℕ) → declared v n ≡ option_and_then (shown s) (declared p n)

  followed_without : (v p : Table) → IsFollowed v p → (m : List ℕ) → IsFollowed (without m v) (without m p)
  followed_without v p follows m n = go (names_tell n m)
    where
      gone : (t : Table) → n ≡ m → declared (without m t) n ≡ None
      gone t e = ap (declared (without m t)) e ∙ taken t m

      go : (n ≡ m) ⊎ (n ≡ m → ⊥) → declared (without m v) n ≡ option_and_then (shown s) (declared (without m p) n)
      go (inl e) = gone v e ∙ sym (ap (option_and_then (shown s)) (gone p e))
      go (inr ne) = others v m n ne ∙ follows n ∙ sym (ap (option_and_then (shown s)) (others p m n ne))

  none_declared : (p : Table) (n : List ℕ) → length p ≤ 0 → declared p n ≡ None
  none_declared [] n le = refl
  none_declared (k ∷ ks) n le = absurd (omega arith)

  abbrev left : List Class → List Class
  left ks = map (projected_class s) (shown_part ks)

  -- where nothing is left of the first class, nothing is left
  nothing_left : (o : Option Class) (more : Class → List Class) → option_and_then (shown s) o ≡ None → [] ≡ left (added more o)
  nothing_left None more e = refl
  nothing_left (Some k) more e = go (is_present s k.colors) e
    where
      go : (b : Bool) → cond b (Some (projected_class s k)) None ≡ None → [] ≡ map (projected_class s) (cond b (k ∷ shown_part (more k)) [])
      go true e = absurd (let none : ⊥ = cc e in none)
      go false e = refl

  chain_left : (a b : ℕ) (v p : Table) → length v ≤ a → length p ≤ b → IsFollowed v p → (n : List ℕ) → chain_in a v n ≡ left (chain_in b p n)
  unfolding chain_in
  chain_left zero zero v p lv lp follows n = refl
  chain_left zero (suc b) v p lv lp follows n = nothing_left (declared p n) (λ c. chain_in b (without n p) c.parent) (sym (follows n) ∙ none_declared v n lv)
  chain_left (suc a) zero v p lv lp follows n =
      ap (added (λ c. chain_in a (without n v) c.parent)) (follows n ∙ ap (option_and_then (shown s)) (none_declared p n lp))
  chain_left (suc a) (suc b) v p lv lp follows n =
      go (λ le lf m. chain_left a b (without n v) (without n p) le lf (followed_without v p follows n) m) (declared p n) refl (follows n)
    where
      go : (length (without n v) ≤ a → length (without n p) ≤ b → (m : List ℕ) → chain_in a (without n v) m ≡ left (chain_in b (without n p) m))
          → (o : Option Class) → declared p n ≡ o → declared v n ≡ option_and_then (shown s) o
          → added (λ c. chain_in a (without n v) c.parent) (declared v n) ≡ left (added (λ c. chain_in b (without n p) c.parent) o)
      go ih None d f = ap (added (λ c. chain_in a (without n v) c.parent)) f
      go ih (Some k) d f = here (is_present s k.colors) f
        where
          here : (t : Bool) → declared v n ≡ cond t (Some (projected_class s k)) None
              → added (λ c. chain_in a (without n v) c.parent) (declared v n) ≡ map (projected_class s) (cond t (k ∷ shown_part (chain_in b (without n p) k.parent)) [])
          here true f =
              let lv' = without_lt v n (projected_class s k) f in
              let lp' = without_lt p n k d in
              ap (added (λ c. chain_in a (without n v) c.parent)) f
              ∙ ap (λ ks. projected_class s k ∷ ks) (ih (omega (arith, lv, lv')) (omega (arith, lp, lp')) k.parent)
          here false f = ap (added (λ c. chain_in a (without n v) c.parent)) f

  pub chain_variant : (line : ProductLine) → IsProject line → (n : List ℕ) → chain (projected s line).classes n ≡ map (projected_class s) (shown_part (chain line.classes n))
  chain_variant line project n =
      chain_left (length (projected s line).classes) (length line.classes) (projected s line).classes line.classes (omega arith) (omega arith)
      (λ m. ap (λ t. declared t m) (variant_is s line) ∙ declared_variant s line.classes project.classes_distinct m) n

  -- ---- what is declared along a chain

  -- both marks hold
  pub union_present : (a b : Sides) → is_present s (presence_of a b) ≡ cond (is_present s a) (is_present s b) false
  union_present a b = go (is_present s a) refl
    where
      go : (t : Bool) → is_present s a ≡ t → is_present s (presence_of a b) ≡ cond t (is_present s b) false
      go true e = present_inside s a b e
      go false e = absent_inside s a b e

  module _ {A : Type 0} where
    pub there_append : (xs ys : List (Marked A)) → there s (xs ++ ys) ≡ there s xs ++ there s ys
    there_append xs ys =
        ap (map (λ (x : Marked A). x.item)) (filter-append (λ (x : Marked A). is_present s x.marks) xs ys)
        ∙ map-append (λ (x : Marked A). x.item) (filter (λ (x : Marked A). is_present s x.marks) xs) (filter (λ (x : Marked A). is_present s x.marks) ys)

    there_behind : (up : Sides) (xs : List (Marked A)) → there s (map (behind up) xs) ≡ cond (is_present s up) (there s xs) []
    there_behind up [] = go (is_present s up)
      where
        go : (t : Bool) → [] ≡ cond t (let none : List A = [] in none) []
        go true = refl
        go false = refl
    there_behind up (x ∷ xs) =
        ap (λ b. map (λ (x : Marked A). x.item) (cond b (behind up x ∷ filter (λ (x : Marked A). is_present s x.marks) (map (behind up) xs)) (filter (λ (x : Marked A). is_present s x.marks) (map (behind up) xs)))) (union_present up x.marks)
        ∙ go (is_present s up) (is_present s x.marks) (there_behind up xs)
      where
        others : List (Marked A)
        others = filter (λ (x : Marked A). is_present s x.marks) (map (behind up) xs)

        mine : List (Marked A)
        mine = filter (λ (x : Marked A). is_present s x.marks) xs

        go : (t b : Bool) → map (λ (x : Marked A). x.item) others ≡ cond t (map (λ (x : Marked A). x.item) mine) []
            → map (λ (x : Marked A). x.item) (cond (cond t b false) (behind up x ∷ others) others) ≡ cond t (map (λ (x : Marked A). x.item) (cond b (x ∷ mine) mine)) []
        go true true e = ap (λ w. x.item ∷ w) e
        go true false e = e
        go false b e = e

    -- what of it is there is what is there of the classes of the part that is shown
    pub there_along : (own : Class → List (Marked A)) (up : Sides) (ks : List Class)
        → there s (along own up ks) ≡ cond (is_present s up) (flat_map (λ k. there s (own k)) (shown_part ks)) []
    there_along own up [] = go (is_present s up)
      where
        go : (t : Bool) → [] ≡ cond t (let none : List A = [] in none) []
        go true = refl
        go false = refl
    there_along own up (k ∷ ks) =
        there_append (map (behind (presence_of up k.colors)) (own k)) (along own (presence_of up k.colors) ks)
        ∙ ap₂ (λ v w. v ++ w) (there_behind (presence_of up k.colors) (own k)) (there_along own (presence_of up k.colors) ks)
        ∙ ap (λ b. cond b (there s (own k)) [] ++ cond b (flat_map (λ k. there s (own k)) (shown_part ks)) []) (union_present up k.colors)
        ∙ go (is_present s up) (is_present s k.colors)
      where
        rest : List A
        rest = flat_map (λ k. there s (own k)) (shown_part ks)

        go : (t b : Bool) → cond (cond t b false) (there s (own k)) [] ++ cond (cond t b false) rest [] ≡ cond t (flat_map (λ k. there s (own k)) (cond b (k ∷ shown_part ks) [])) []
        go true true = refl
        go true false = refl
        go false b = refl
