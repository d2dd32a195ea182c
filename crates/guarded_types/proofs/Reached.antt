-- How far a variant's chain reaches.
use Rattle.std.proofs.Common.{◌≡◌, ◌==◌, ℕ, zero, suc, ◌+◌, ◌<◌, ◌≤◌, Bool, true, false, not, ◌&&◌, ◌||◌, cond, List, [], ◌∷◌, length, map, drop, get_or, Option, None, Some, is_some, Bor, refl, sym, ◌∙◌, ap, ap₂, subst, arith, add-one}
use Rattle.std.specs.List.{list_any}
use Rattle.std.specs.Option.{option_and_then}
use Rattle.std.proofs.lemmas.Bool.{eqb-true}
use Rattle.std.specs.Str.{bytes_eq}
use Rattle.cfj_logic.specs.Selections.{Chosen}
use Rattle.cfj_logic.specs.Sides.{Sides, is_over}
use Rattle.cfj_model.specs.Coloring.{no_colors}
use Rattle.cfj_model.specs.LookUps.{Table, added, chain, chain_in, declared, is_known}
use Rattle.cfj_model.specs.ProductLines.{IsProject, ProductLine, object}
use Rattle.cfj_model.specs.Projection.{is_present, presence_of, projected, projected_class}
use Rattle.cfj_model.specs.declared.class.Class.{Class}
use Rattle.class_table.specs.ByName.{seen}
use Rattle.locality_law.proofs.Items.{Each}
use Rattle.locality_law.proofs.SeenVariants.{declared_variant, shown, variant_is}
use Rattle.guarded_types.proofs.KnownMarks.{IsMarkedOver, chain_over, over_both}
use Rattle.guarded_types.proofs.VariantChains.{chain_variant, shown_part, union_present}
use Rattle.cond_circuit.proofs.ValueLemmas.{Grown-value}
use Rattle.cond_circuit.specs.Gates.{Gates, Grown, Is, value}
use Rattle.guarded_types.specs.Along.{first}
use Rattle.guarded_types.specs.Within.{IsWithin}

-- ---- a class by its name

-- a chain begins with its class
chain_first : (p : Table) (n : List ℕ) → first (chain p n) ≡ declared p n
unfolding chain_in
chain_first [] n = refl
chain_first (k ∷ ks) n = go (declared (k ∷ ks) n)
  where
    more : Class → List Class
    more c = chain_in (length ks) (Rattle.cfj_model.specs.LookUps.without n (k ∷ ks)) c.parent

    go : (o : Option Class) → first (added more o) ≡ o
    go None = refl
    go (Some c) = refl

pub known_variant : (s : Chosen) (line : ProductLine) → IsProject line → (n : List ℕ) → bytes_eq n object ≡ false → is_known (projected s line).classes n ≡ is_some (option_and_then (shown s) (declared line.classes n))
known_variant s line project n other =
    ap₂ (λ b o. b || is_some o) other (ap (λ t. declared t n) (variant_is s line) ∙ declared_variant s line.classes project.classes_distinct n)

pub known_none : (s : Chosen) (line : ProductLine) → IsProject line → (n : List ℕ) → bytes_eq n object ≡ false → chain line.classes n ≡ [] → is_known (projected s line).classes n ≡ false
known_none s line project n other none =
    known_variant s line project n other ∙ ap (λ o. is_some (option_and_then (shown s) o)) (sym (chain_first line.classes n) ∙ ap first none)

pub known_some : (s : Chosen) (line : ProductLine) → IsProject line → (n : List ℕ) (k : Class) (ks : List Class) → bytes_eq n object ≡ false → chain line.classes n ≡ k ∷ ks
    → is_known (projected s line).classes n ≡ is_present s k.colors
known_some s line project n k ks other is =
    known_variant s line project n other
    ∙ ap (λ o. is_some (option_and_then (shown s) o)) (sym (chain_first line.classes n) ∙ ap first is)
    ∙ go (is_present s k.colors)
  where
    go : (b : Bool) → is_some (cond b (Some (projected_class s k)) None) ≡ b
    go true = refl
    go false = refl

-- ---- superclasses along a chain

-- a class that is reached has this superclass
abbrev pub extends_in : Chosen → List ℕ → Sides → List Class → Bool
extends_in s d up [] = false
extends_in s d up (k ∷ ks) = (bytes_eq k.parent d && is_present s (presence_of up k.colors)) || extends_in s d (presence_of up k.colors) ks

extends_shown : (s : Chosen) (d : List ℕ) (up : Sides) (ks : List Class) → extends_in s d up ks ≡ cond (is_present s up) (list_any (λ k. bytes_eq k.parent d) (shown_part s ks)) false
extends_shown s d up [] = go (is_present s up)
  where
    go : (b : Bool) → false ≡ cond b false false
    go true = refl
    go false = refl
extends_shown s d up (k ∷ ks) =
    ap (λ b. (bytes_eq k.parent d && is_present s (presence_of up k.colors)) || b) (extends_shown s d (presence_of up k.colors) ks)
    ∙ ap (λ b. (bytes_eq k.parent d && b) || cond b (list_any (λ k. bytes_eq k.parent d) (shown_part s ks)) false) (union_present s up k.colors)
    ∙ go (is_present s up) (is_present s k.colors) (bytes_eq k.parent d) refl
  where
    rest : Bool
    rest = list_any (λ k. bytes_eq k.parent d) (shown_part s ks)

    any_shown : (b : Bool) → list_any (λ k. bytes_eq k.parent d) (cond b (k ∷ shown_part s ks) []) ≡ cond b (bytes_eq k.parent d || rest) false
    any_shown true = refl
    any_shown false = refl

    both : (u b t : Bool) → ((t && cond u b false) || cond (cond u b false) rest false) ≡ cond u (cond b (t || rest) false) false
    both true true true = refl
    both true true false = refl
    both true false true = refl
    both true false false = refl
    both false b true = refl
    both false b false = refl

    go : (u b t : Bool) → t ≡ bytes_eq k.parent d → ((t && cond u b false) || cond (cond u b false) rest false) ≡ cond u (list_any (λ k. bytes_eq k.parent d) (cond b (k ∷ shown_part s ks) [])) false
    go u b t e = both u b t ∙ ap (λ x. cond u (cond b (x || rest) false) false) e ∙ ap (λ x. cond u x false) (sym (any_shown b))

-- what is left of classes has their superclasses
any_left : (s : Chosen) (d : List ℕ) (ks : List Class) → list_any (λ (k : Class). bytes_eq k.parent d) (map (projected_class s) ks) ≡ list_any (λ (k : Class). bytes_eq k.parent d) ks
any_left s d [] = refl
any_left s d (k ∷ ks) = ap (λ b. bytes_eq k.parent d || b) (any_left s d ks)

pub extends_is : (s : Chosen) (line : ProductLine) → IsProject line → (c d : List ℕ) → extends_in s d no_colors (chain line.classes c) ≡ list_any (λ k. bytes_eq k.parent d) (chain (projected s line).classes c)
extends_is s line project c d =
    extends_shown s d no_colors (chain line.classes c)
    ∙ sym (ap (list_any (λ k. bytes_eq k.parent d)) (chain_variant s line project c) ∙ any_left s d (shown_part s (chain line.classes c)))

-- ---- one class further

pub drop_here : {A : Type 0} (xs : List A) (i : ℕ) (x : A) → i < length xs → x ≡ get_or xs i x → drop i xs ≡ x ∷ drop (i + 1) xs
drop_here {A} xs i x lt at = go xs i lt at ∙ ap (λ n. x ∷ drop n xs) (sym (add-one i))
  where
    go : (xs : List A) (i : ℕ) → i < length xs → x ≡ get_or xs i x → drop i xs ≡ x ∷ drop (suc i) xs
    go [] i lt at = absurd (omega arith)
    go (y ∷ ys) zero lt at = ap (λ z. z ∷ ys) (sym at)
    go (y ∷ ys) (suc i) lt at = go ys i (omega arith) at

pub drop_end : {A : Type 0} (xs : List A) (i : ℕ) → length xs ≤ i → drop i xs ≡ []
drop_end [] zero le = refl
drop_end [] (suc i) le = refl
drop_end (x ∷ xs) zero le = absurd (omega arith)
drop_end (x ∷ xs) (suc i) le = drop_end xs i (omega arith)

-- Where the gate's value and what the rest of a chain has are together what the whole has.
abbrev pub IsReaching : Gates → Sides → ℕ → List ℕ → Sides → List (Bor Class) → List (Bor Class) → Type 0
IsReaching c w g d up rest whole = (s : Chosen) → is_present s w ≡ true → (value s c.parts g || extends_in s d up (seen rest)) ≡ extends_in s d no_colors (seen whole)

module _ (c : Gates) (w : Sides) (g : ℕ) (d : List ℕ) (up : Sides) (ks : List (Bor Class)) (i : ℕ) (k : Bor Class) (lt : i < length ks) (at : k ≡ get_or ks i k) (before : IsReaching c w g d up (drop i ks) ks) where
  pub reached_more : (e : Gates) (h : ℕ) → IsWithin e w h (λ s. value s c.parts g || (bytes_eq k.now.parent d && is_present s (presence_of up k.now.colors)))
      → IsReaching e w h d (presence_of up k.now.colors) (drop (i + 1) ks) ks
  reached_more e h is s here =
      ap (λ b. b || rest) (is.worth s here)
      ∙ or_right (value s c.parts g) (bytes_eq k.now.parent d && is_present s (presence_of up k.now.colors))
      ∙ sym (ap (λ xs. value s c.parts g || extends_in s d up (seen xs)) (drop_here ks i k lt at))
      ∙ before s here
    where
      rest : Bool
      rest = extends_in s d (presence_of up k.now.colors) (seen (drop (i + 1) ks))

      or_right : (a b : Bool) → ((a || b) || rest) ≡ (a || (b || rest))
      or_right true b = refl
      or_right false b = refl

pub reached_none : (c : Gates) (w : Sides) (g : ℕ) (d : List ℕ) (ks : List (Bor Class)) → Is c g (λ s. false) → IsReaching c w g d no_colors ks ks
reached_none c w g d ks is s here = ap (λ b. b || extends_in s d no_colors (seen ks)) (is.worth s)

pub reached_all : (c : Gates) (w : Sides) (g : ℕ) (d : List ℕ) (up : Sides) (ks : List (Bor Class)) (i : ℕ) → length ks ≤ i → g < length c.parts → IsReaching c w g d up (drop i ks) ks
    → IsWithin c w g (λ s. extends_in s d no_colors (seen ks))
reached_all c w g d up ks i le inside reaching = record {
  inside = inside;
  worth = λ s here. or_false (value s c.parts g) ∙ sym (ap (λ xs. value s c.parts g || extends_in s d up (seen xs)) (drop_end ks i le)) ∙ reaching s here;
}
  where
    or_false : (b : Bool) → b ≡ (b || false)
    or_false true = refl
    or_false false = refl

-- the class at a place of a chain is marked with features of the project
pub place_over : (n : ℕ) (ks : List (Bor Class)) → Each (IsMarkedOver n) (seen ks) → (i : ℕ) (k : Bor Class) → i < length ks → k ≡ get_or ks i k → is_over n k.now.colors ≡ true
place_over n [] all i k lt at = absurd (omega arith)
place_over n (y ∷ ys) all zero k lt at = ap (λ (z : Bor Class). is_over n z.now.colors) at ∙ all.0.class
place_over n (y ∷ ys) all (suc i) k lt at = place_over n ys all.1 i k (omega arith) at

-- a class that hasn't the superclass adds nothing
pub class_passed : (c : Gates) (w up : Sides) (g : ℕ) (k d : List ℕ) → g < length c.parts → bytes_eq k d ≡ false → IsWithin c w g (λ s. value s c.parts g || (bytes_eq k d && is_present s up))
class_passed c w up g k d inside other = record {
  inside = inside;
  worth = λ s here. or_nothing (value s c.parts g) (bytes_eq k d && is_present s up) (ap (λ b. b && is_present s up) other);
}
  where
    or_nothing : (a b : Bool) → b ≡ false → a ≡ (a || b)
    or_nothing true b e = refl
    or_nothing false b e = sym e

pub class_reached : (c d e : Gates) (w up : Sides) (g h r : ℕ) (k n : List ℕ) → g < length c.parts → bytes_eq k n ≡ true → Grown c d → IsWithin d w h (λ s. is_present s up)
    → Is e r (λ s. value s d.parts g || value s d.parts h) → IsWithin e w r (λ s. value s c.parts g || (bytes_eq k n && is_present s up))
class_reached c d e w up g h r k n inside named grown there is = record {
  inside = is.inside;
  worth = λ s here.
      is.worth s
      ∙ ap₂ (λ a b. a || b) (Grown-value c d s g grown inside) (there.worth s here)
      ∙ sym (ap (λ b. value s c.parts g || (b && is_present s up)) named);
}

pub not_false : (b : Bool) → not b ≡ false → b ≡ true
not_false true e = refl
not_false false e = let none : ⊥ = cc e in absurd none

-- the marks up to a class of a chain are of the circuit's features
pub up_over : (line : ProductLine) → IsProject line → (n : ℕ) → n ≡ length line.model.features → (c : List ℕ) (ks : List (Bor Class)) → seen ks ≡ chain line.classes c
    → (i : ℕ) (k : Bor Class) → i < length ks → k ≡ get_or ks i k → (up : Sides) → is_over n up ≡ true → is_over n (presence_of up k.now.colors) ≡ true
up_over line project n same c ks is i k lt at up over =
    over_both n up k.now.colors over
    (place_over n ks (subst (λ xs. Each (IsMarkedOver n) xs) (sym is) (subst (λ m. Each (IsMarkedOver m) (chain line.classes c)) (sym same) (chain_over line project c))) i k lt at)

pub extended_is : (line : ProductLine) → IsProject line → (c d : List ℕ) (ks : List (Bor Class)) → seen ks ≡ chain line.classes c → (e : Gates) (w : Sides) (g : ℕ) → IsWithin e w g (λ s. extends_in s d no_colors (seen ks))
    → IsWithin e w g (λ s. list_any (λ k. bytes_eq k.parent d) (chain (projected s line).classes c))
extended_is line project c d ks is e w g reached = record {
  inside = reached.inside;
  worth = λ s here. reached.worth s here ∙ ap (extends_in s d no_colors) is ∙ extends_is s line project c d;
}

pub known_nowhere : (line : ProductLine) → IsProject line → (n : List ℕ) (ks : List (Bor Class)) → seen ks ≡ chain line.classes n → bytes_eq n object ≡ false → (length ks == 0) ≡ true
    → (c : Gates) (w : Sides) (g : ℕ) → Is c g (λ s. false) → IsWithin c w g (λ s. is_known (projected s line).classes n)
known_nowhere line project n [] is other none c w g never = record { inside = never.inside; worth = λ s here. never.worth s ∙ sym (known_none s line project n other (sym is)) }
known_nowhere line project n (k ∷ ks) is other none c w g never = let no : length (k ∷ ks) ≡ 0 = eqb-true (length (k ∷ ks)) 0 none in absurd (omega arith)

pub known_where : (line : ProductLine) → IsProject line → (n : List ℕ) (ks : List (Bor Class)) → seen ks ≡ chain line.classes n → bytes_eq n object ≡ false → (length ks == 0) ≡ false
    → (d : Bor Class) (c : Gates) (w : Sides) (g : ℕ) → IsWithin c w g (λ s. is_present s (get_or ks 0 d).now.colors) → IsWithin c w g (λ s. is_known (projected s line).classes n)
known_where line project n [] is other some d c w g there = let no : ⊥ = cc some in absurd no
known_where line project n (k ∷ ks) is other some d c w g there =
    record { inside = there.inside; worth = λ s here. there.worth s here ∙ sym (known_some s line project n k.now (seen ks) other (sym is)) }

pub first_over : (line : ProductLine) → IsProject line → (m : ℕ) → m ≡ length line.model.features → (n : List ℕ) (ks : List (Bor Class)) → seen ks ≡ chain line.classes n → (length ks == 0) ≡ false
    → (d : Bor Class) → is_over m (get_or ks 0 d).now.colors ≡ true
first_over line project m same n [] is some d = let no : ⊥ = cc some in absurd no
first_over line project m same n (k ∷ ks) is some d =
    let all : Each (IsMarkedOver m) (seen (k ∷ ks)) = subst (λ xs. Each (IsMarkedOver m) xs) (sym is) (subst (λ l. Each (IsMarkedOver l) (chain line.classes n)) (sym same) (chain_over line project n)) in
    all.0.class
