-- Declarations of one name along a chain: the first that is there is what a variant's look-up finds.
use Rattle.std.proofs.Common.{◌≡◌, ℕ, Bool, true, false, cond, List, [], ◌∷◌, ◌++◌, map, Option, None, Some, is_some, option_map, refl, sym, ◌∙◌, ap, ap₂}
use Rattle.std.specs.List.{filter, find, flat_map}
use Rattle.std.proofs.lemmas.List.{map-append}
use Rattle.std.proofs.lemmas.Simd.{map-map}
use Rattle.cfj_logic.specs.Selections.{Chosen}
use Rattle.cfj_logic.specs.Sides.{Sides}
use Rattle.cfj_model.specs.Coloring.{no_colors}
use Rattle.cfj_model.specs.LookUps.{chain, first_some}
use Rattle.cfj_model.specs.ProductLines.{IsProject, ProductLine}
use Rattle.cfj_model.specs.Projection.{is_present, presence_of, projected, projected_class}
use Rattle.cfj_model.specs.declared.class.Class.{Class}
use Rattle.cond_circuit.specs.Gates.{Gates, value}
use Rattle.feature_views.proofs.Presence.{present_inside}
use Rattle.guarded_seq.specs.Sequences.{present}
use Rattle.guarded_seq.specs.declared.guarded.Guarded.{Guarded}
use Rattle.guarded_types.proofs.VariantChains.{chain_variant, shown_part, there_along}
use Rattle.guarded_types.specs.Along.{along, at_most_one, first, there}
use Rattle.guarded_types.specs.Within.{IsOfFirst}
use Rattle.guarded_types.specs.declared.marked.Marked.{Marked}

first_append : {A : Type 0} (xs ys : List A) → first (xs ++ ys) ≡ cond (is_some (first xs)) (first xs) (first ys)
first_append [] ys = refl
first_append (x ∷ xs) ys = refl

one_mapped : {A B : Type 0} (f : A → B) (xs : List A) → map f (at_most_one (first xs)) ≡ at_most_one (first (map f xs))
one_mapped f [] = refl
one_mapped f (x ∷ xs) = refl

-- what is told of something is told of each first that is found
pub first_told : {K B C : Type 0} (h : B → C) (of : K → Option B) (ks : List K) → option_map h (first_some of ks) ≡ first_some (λ k. option_map h (of k)) ks
first_told h of [] = refl
first_told {K} {B} {C} h of (k ∷ ks) = go (of k) (first_told h of ks)
  where
    go : (o : Option B) → option_map h (first_some of ks) ≡ first_some (λ k. option_map h (of k)) ks
        → option_map h (cond (is_some o) o (first_some of ks)) ≡ cond (is_some (option_map h o)) (option_map h o) (first_some (λ k. option_map h (of k)) ks)
    go None ih = ih
    go (Some x) ih = refl

-- something told of what stands with marks
abbrev pub told_of : {A B : Type 0} → (A → B) → List (Marked A) → List (Marked B)
told_of f xs = map (λ x. record { marks = x.marks; item = f x.item }) xs

-- it is there where that is there
pub there_told : {A B : Type 0} (s : Chosen) (f : A → B) (xs : List (Marked A)) → map f (there s xs) ≡ there s (told_of f xs)
there_told s f [] = refl
there_told {A} {B} s f (x ∷ xs) = go (is_present s x.marks) (there_told s f xs)
  where
    others : List (Marked A)
    others = filter (λ (y : Marked A). is_present s y.marks) xs

    told : List (Marked B)
    told = filter (λ (y : Marked B). is_present s y.marks) (told_of f xs)

    one : Marked B
    one = record { marks = x.marks; item = f x.item }

    go : (b : Bool) → map f (map (λ (y : Marked A). y.item) others) ≡ map (λ (y : Marked B). y.item) told
        → map f (map (λ (y : Marked A). y.item) (cond b (x ∷ others) others)) ≡ map (λ (y : Marked B). y.item) (cond b (one ∷ told) told)
    go true e = ap (λ ys. f x.item ∷ ys) e
    go false e = e

-- Items of classes, by their own marks and names; what is left of each in a variant; and what is told of one, in the line and in a variant.
pub record Declared (A T : Type 0) : Type 1 where
  pub items : Class → List A
  pub colors : A → Sides
  pub named : A → Bool
  pub left : Chosen → Class → A → A
  pub line : Chosen → Class → A → T
  pub variant : Class → A → T
  pub same_name : (s : Chosen) (k : Class) (x : A) → named (left s k x) ≡ named x
  pub same_told : (s : Chosen) (k : Class) (x : A) → variant (projected_class s k) (left s k x) ≡ line s k x
  pub items_left : (s : Chosen) (k : Class) → items (projected_class s k) ≡ map (left s k) (filter (λ x. is_present s (presence_of k.colors (colors x))) (items k))

module _ {A T : Type 0} (d : Declared A T) (s : Chosen) where
  -- those of the name that a class itself declares, with their own marks
  abbrev pub own : Class → List (Marked T)
  own k = map (λ x. record { marks = d.colors x; item = d.line s k x }) (filter d.named (d.items k))

  -- what a variant's class itself has by the name
  abbrev pub called : Class → Option T
  called v = option_map (d.variant v) (find d.named (d.items v))

  module _ (k : Class) (here : is_present s k.colors ≡ true) where
    abbrev mark : A → Marked T
    mark x = record { marks = d.colors x; item = d.line s k x }

    abbrev keeps : A → Bool
    keeps x = is_present s (presence_of k.colors (d.colors x))

    first_of : (xs : List A) → first (there s (map mark (filter d.named xs))) ≡ option_map (d.variant (projected_class s k)) (find d.named (map (d.left s k) (filter keeps xs)))
    first_of [] = refl
    first_of (x ∷ xs) = go (d.named x) refl (is_present s (d.colors x)) refl (first_of xs)
      where
        kept : List A
        kept = filter keeps xs

        named : List A
        named = filter d.named xs

        found : Option A
        found = find d.named (map (d.left s k) kept)

        one : Bool → Bool → List T
        one b c = cond b (map (λ (m : Marked T). m.item) (cond c (mark x ∷ filter (λ (m : Marked T). is_present s m.marks) (map mark named)) (filter (λ (m : Marked T). is_present s m.marks) (map mark named)))) (there s (map mark named))

        variants : Bool → Bool → Option T
        variants b c = cond c (option_map (d.variant (projected_class s k)) (cond b (Some (d.left s k x)) found)) (option_map (d.variant (projected_class s k)) found)

        line_is : (b : Bool) → d.named x ≡ b → first (there s (map mark (cond (d.named x) (x ∷ named) named))) ≡ first (one b (is_present s (d.colors x)))
        line_is true e = ap (λ t. first (there s (map mark (cond t (x ∷ named) named)))) e
        line_is false e = ap (λ t. first (there s (map mark (cond t (x ∷ named) named)))) e

        kept_is : (c : Bool) → keeps x ≡ c → option_map (d.variant (projected_class s k)) (find d.named (map (d.left s k) (cond (keeps x) (x ∷ kept) kept))) ≡ variants (d.named x) c
        kept_is true e =
            ap (λ t. option_map (d.variant (projected_class s k)) (find d.named (map (d.left s k) (cond t (x ∷ kept) kept)))) e
            ∙ ap (λ t. option_map (d.variant (projected_class s k)) (cond t (Some (d.left s k x)) found)) (d.same_name s k x)
        kept_is false e = ap (λ t. option_map (d.variant (projected_class s k)) (find d.named (map (d.left s k) (cond t (x ∷ kept) kept)))) e

        both : (b c : Bool) → first (there s (map mark named)) ≡ option_map (d.variant (projected_class s k)) found → first (one b c) ≡ variants b c
        both true true ih = ap (λ t. Some t) (sym (d.same_told s k x))
        both true false ih = ih
        both false true ih = ih
        both false false ih = ih

        go : (b : Bool) → d.named x ≡ b → (c : Bool) → is_present s (d.colors x) ≡ c → first (there s (map mark named)) ≡ option_map (d.variant (projected_class s k)) found
            → first (there s (map mark (cond (d.named x) (x ∷ named) named))) ≡ option_map (d.variant (projected_class s k)) (find d.named (map (d.left s k) (cond (keeps x) (x ∷ kept) kept)))
        go b p c q ih =
            line_is b p
            ∙ ap (λ t. first (one b t)) q
            ∙ both b c ih
            ∙ sym (kept_is c (present_inside s k.colors (d.colors x) here ∙ q) ∙ ap (λ t. variants t c) p)

    first_own : first (there s (own k)) ≡ called (projected_class s k)
    first_own = first_of (d.items k) ∙ sym (ap (λ xs. option_map (d.variant (projected_class s k)) (find d.named xs)) (d.items_left s k))

  first_shown : (ks : List Class) → first (flat_map (λ k. there s (own k)) (shown_part s ks)) ≡ first_some called (map (projected_class s) (shown_part s ks))
  first_shown [] = refl
  first_shown (k ∷ ks) = go (is_present s k.colors) refl (first_shown ks)
    where
      rest : List T
      rest = flat_map (λ k. there s (own k)) (shown_part s ks)

      go : (b : Bool) → is_present s k.colors ≡ b → first rest ≡ first_some called (map (projected_class s) (shown_part s ks))
          → first (flat_map (λ k. there s (own k)) (cond b (k ∷ shown_part s ks) [])) ≡ first_some called (map (projected_class s) (cond b (k ∷ shown_part s ks) []))
      go true e ih = first_append (there s (own k)) rest ∙ ap₂ (λ x y. cond (is_some x) x y) (first_own k e) ih
      go false e ih = refl

  -- the first that is there along a chain is the variant's
  pub first_is : (line : ProductLine) → IsProject line → (c : List ℕ) → first (there s (along own no_colors (chain line.classes c))) ≡ first_some called (chain (projected s line).classes c)
  first_is line project c =
      ap first (there_along s own no_colors (chain line.classes c)) ∙ first_shown (chain line.classes c) ∙ sym (ap (first_some called) (chain_variant s line project c))

-- what is told of each of a chain
pub along_told : {A B : Type 0} (f : A → B) (of : Class → List (Marked A)) (up : Sides) (ks : List Class) → told_of f (along of up ks) ≡ along (λ k. told_of f (of k)) up ks
along_told f of up [] = refl
along_told {A} {B} f of up (k ∷ ks) =
    let within : Sides = presence_of up k.colors in
    let tell : Marked A → Marked B = λ x. record { marks = x.marks; item = f x.item } in
    map-append tell (map (λ (x : Marked A). let y : Marked A = record { marks = presence_of within x.marks; item = x.item } in y) (of k)) (along of within ks)
    ∙ ap₂ (λ v w. v ++ w)
    (map-map tell (λ (x : Marked A). let y : Marked A = record { marks = presence_of within x.marks; item = x.item } in y) (of k)
    ∙ sym (map-map (λ (x : Marked B). let y : Marked B = record { marks = presence_of within x.marks; item = x.item } in y) tell (of k)))
    (along_told f of within ks)

-- Guarded items of which the first that is there remains: what is told of it is what the variant's look-up tells.
pub guarded_first : {A R T : Type 0} (d : Declared A T) (line : ProductLine) → IsProject line → (c : List ℕ) (w : Sides) (g : Gates) (found : List (Guarded R)) (items : List (Marked R)) → IsOfFirst g w found items
    → (s : Chosen) → is_present s w ≡ true → (tell : R → T) → told_of tell items ≡ along (own d s) no_colors (chain line.classes c)
    → map tell (present (value s g.parts) found) ≡ at_most_one (first_some (called d s) (chain (projected s line).classes c))
guarded_first d line project c w g found items of s within tell is =
    ap (map tell) (of s within)
    ∙ one_mapped tell (there s items)
    ∙ ap (λ xs. at_most_one (first xs)) (there_told s tell items ∙ ap (there s) is)
    ∙ ap at_most_one (first_is d s line project c)
