-- How many classes of a chain are there, one class further.
use Rattle.std.proofs.Common.{◌≡◌, ℕ, suc, ◌+◌, ◌<◌, ◌≤◌, Bool, true, false, not, ◌&&◌, cond, List, [], ◌∷◌, ◌++◌, length, drop, get_or, Bor, refl, sym, ◌∙◌, ap, ap₂, arith, subst}
use Rattle.std.proofs.lemmas.List.{length-map}
use Rattle.std.proofs.lemmas.List.Elements.{All-append}
use Rattle.cfj_logic.specs.Selections.{Chosen}
use Rattle.cfj_logic.specs.Sides.{Sides}
use Rattle.cfj_model.specs.Coloring.{no_colors}
use Rattle.cfj_model.specs.LookUps.{chain}
use Rattle.cfj_model.specs.ProductLines.{IsProject, ProductLine}
use Rattle.cfj_model.specs.Projection.{is_present, presence_of, projected, projected_class}
use Rattle.cfj_model.specs.declared.class.Class.{Class}
use Rattle.class_table.specs.ByName.{seen}
use Rattle.cond_circuit.proofs.ValueLemmas.{Grown-inside, Grown-trans, Grown-value, Is-grown}
use Rattle.cond_circuit.specs.Gates.{Gates, Grown, Is, value}
use Rattle.guarded_seq.proofs.TableLaws.{inside_grown}
use Rattle.guarded_seq.specs.Sequences.{AreInside, present}
use Rattle.guarded_seq.specs.declared.guarded.Guarded.{Guarded}
use Rattle.guarded_types.proofs.FirstItems.{inside_pushed, present_append, present_grown, present_pushed}
use Rattle.guarded_types.proofs.Reached.{drop_end, drop_here}
use Rattle.guarded_types.proofs.VariantChains.{chain_variant, shown_part, union_present}
use Rattle.guarded_types.specs.Within.{IsWithin, pushed}

-- how many classes are there
abbrev pub shown_count : Chosen → List Class → ℕ
shown_count s ks = length (shown_part s ks)

-- what is known of a selection behind the first classes of a chain, whose marks are these
pub record IsCounted (s : Chosen) (up : Sides) (i : ℕ) (rest whole : List Class) (found : List ℕ) : Type 0 where
  pub found_is : found ≡ cond (is_present s up) [] (shown_count s whole ∷ [])
  pub count : is_present s up ≡ true → shown_count s whole ≡ i + shown_count s rest

counted_none : (s : Chosen) (whole : List Class) → IsCounted s no_colors 0 whole whole []
counted_none s whole = record { found_is = refl; count = λ here. omega arith }

-- one class further
counted_more : (s : Chosen) (up : Sides) (i : ℕ) (k : Class) (rest whole : List Class) (found : List ℕ) → IsCounted s up i (k ∷ rest) whole found
    → IsCounted s (presence_of up k.colors) (i + 1) rest whole (found ++ cond (is_present s up && not (is_present s (presence_of up k.colors))) (i ∷ []) [])
counted_more s up i k rest whole found before = record {
  found_is =
      ap (λ xs. xs ++ cond (is_present s up && not (is_present s (presence_of up k.colors))) (i ∷ []) []) before.found_is
      ∙ ap (λ b. cond (is_present s up) [] (n ∷ []) ++ cond (is_present s up && not b) (i ∷ []) []) (union_present s up k.colors)
      ∙ here (is_present s up) refl (is_present s k.colors) refl
      ∙ sym (ap (λ b. cond b [] (n ∷ [])) (union_present s up k.colors));
  count = λ e. there (is_present s up) refl (is_present s k.colors) refl (sym (union_present s up k.colors) ∙ e);
}
  where
    n : ℕ
    n = shown_count s whole

    at : (b : Bool) → is_present s k.colors ≡ b → shown_count s (k ∷ rest) ≡ cond b (suc (shown_count s rest)) 0
    at true e = ap (λ b. length (cond b (k ∷ shown_part s rest) [])) e
    at false e = ap (λ b. length (cond b (k ∷ shown_part s rest) [])) e

    here : (a : Bool) → is_present s up ≡ a → (b : Bool) → is_present s k.colors ≡ b
        → cond a [] (n ∷ []) ++ cond (a && not (cond a b false)) (i ∷ []) [] ≡ cond (cond a b false) [] (n ∷ [])
    here true e true f = refl
    here true e false f =
        let counted : n ≡ i + shown_count s (k ∷ rest) = before.count e in
        let none : shown_count s (k ∷ rest) ≡ 0 = at false f in
        ap (λ m. m ∷ []) (omega arith)
    here false e b f = refl

    there : (a : Bool) → is_present s up ≡ a → (b : Bool) → is_present s k.colors ≡ b → cond a b false ≡ true → n ≡ i + 1 + shown_count s rest
    there true e true f g =
        let counted : n ≡ i + shown_count s (k ∷ rest) = before.count e in
        let one : shown_count s (k ∷ rest) ≡ suc (shown_count s rest) = at true f in
        omega arith
    there true e false f g = let no : ⊥ = cc g in absurd no
    there false e b f g = let no : ⊥ = cc g in absurd no

counted_all : (s : Chosen) (up : Sides) (i : ℕ) (whole : List Class) (found : List ℕ) → IsCounted s up i [] whole found
    → found ++ cond (is_present s up) (i ∷ []) [] ≡ shown_count s whole ∷ []
counted_all s up i whole found before = ap (λ xs. xs ++ cond (is_present s up) (i ∷ []) []) before.found_is ∙ go (is_present s up) refl
  where
    go : (a : Bool) → is_present s up ≡ a → cond a [] (shown_count s whole ∷ []) ++ cond a (i ∷ []) [] ≡ shown_count s whole ∷ []
    go true e = let counted : shown_count s whole ≡ i + 0 = before.count e in ap (λ m. m ∷ []) (omega arith)
    go false e = refl

-- ---- gates

-- the gates tell it
abbrev pub AreCounted : Gates → Sides → Sides → ℕ → List (Bor Class) → List (Guarded ℕ) → Type 0
AreCounted c w up i ks found = (s : Chosen) → is_present s w ≡ true → IsCounted s up i (seen (drop i ks)) (seen ks) (present (value s c.parts) found)

pub parts_none : (c : Gates) (w : Sides) (ks : List (Bor Class)) → AreCounted c w no_colors 0 ks []
parts_none c w ks s here = counted_none s (seen ks)

module _ (c d e f : Gates) (w up : Sides) (ks : List (Bor Class)) (i : ℕ) (k : Bor Class) (lt : i < length ks) (at : k ≡ get_or ks i k) (reached next left here : ℕ)
    (first_grown : Grown c d) (second_grown : Grown d e) (third_grown : Grown e f)
    (is_reached : IsWithin c w reached (λ s. is_present s up)) (is_next : IsWithin d w next (λ s. is_present s (presence_of up k.now.colors))) (is_left : Is e left (λ s. not (value s d.parts next)))
    (is_here : Is f here (λ s. value s e.parts reached && value s e.parts left)) where
  here_is : (s : Chosen) → is_present s w ≡ true → value s f.parts here ≡ (is_present s up && not (is_present s (presence_of up k.now.colors)))
  here_is s within =
      is_here.worth s
      ∙ ap₂ (λ a b. a && b)
      (Grown-value d e s reached second_grown (Grown-inside c d reached first_grown is_reached.inside) ∙ Grown-value c d s reached first_grown is_reached.inside ∙ is_reached.worth s within)
      (is_left.worth s ∙ ap not (is_next.worth s within))

  pub part_counted : (found : List (Guarded ℕ)) → AreInside c found → Is c 0 (λ s. false) → AreCounted c w up i ks found → AreCounted f w (presence_of up k.now.colors) (i + 1) ks (found ++ pushed here i)
  part_counted found inside never before s within =
      let grown : Grown c f = Grown-trans c e f (Grown-trans c d e first_grown second_grown) third_grown in
      let told : present (value s f.parts) (found ++ pushed here i) ≡ present (value s c.parts) found ++ cond (is_present s up && not (is_present s (presence_of up k.now.colors))) (i ∷ []) [] =
      present_append (value s f.parts) found (pushed here i)
      ∙ ap₂ (λ a b. a ++ b) (present_grown c f s grown found inside)
      (present_pushed f s here i (Is-grown c f 0 (λ s. false) grown never) ∙ ap (λ b. cond b (i ∷ []) []) (here_is s within)) in
      let ks_are : seen (drop i ks) ≡ k.now ∷ seen (drop (i + 1) ks) = ap seen (drop_here ks i k lt at) in
      subst (λ xs. IsCounted s (presence_of up k.now.colors) (i + 1) (seen (drop (i + 1) ks)) (seen ks) xs) (sym told)
      (counted_more s up i k.now (seen (drop (i + 1) ks)) (seen ks) (present (value s c.parts) found) (subst (λ xs. IsCounted s up i xs (seen ks) (present (value s c.parts) found)) ks_are (before s within)))

  pub part_inside : (found : List (Guarded ℕ)) → AreInside c found → AreInside f (found ++ pushed here i)
  part_inside found inside =
      All-append (λ (g : Guarded ℕ). g.gate < length f.parts) found (pushed here i)
      (inside_grown c f found (Grown-trans c e f (Grown-trans c d e first_grown second_grown) third_grown) inside) (inside_pushed f here i is_here.inside)

pub parts_counted : (line : ProductLine) → IsProject line → (n : List ℕ) (ks : List (Bor Class)) → seen ks ≡ chain line.classes n → (c : Gates) (w up : Sides) (i : ℕ) → length ks ≤ i → (m : ℕ) → m ≡ i → (reached : ℕ) (found : List (Guarded ℕ))
    → IsWithin c w reached (λ s. is_present s up) → Is c 0 (λ s. false) → AreCounted c w up i ks found
    → (s : Chosen) → is_present s w ≡ true → present (value s c.parts) (found ++ pushed reached m) ≡ length (chain (projected s line).classes n) ∷ []
parts_counted line project n ks is c w up i le m same reached found is_reached never counted s within =
    present_append (value s c.parts) found (pushed reached m)
    ∙ ap (λ xs. present (value s c.parts) found ++ xs) (present_pushed c s reached m never ∙ ap₂ (λ b j. cond b (j ∷ []) []) (is_reached.worth s within) same)
    ∙ counted_all s up i (seen ks) (present (value s c.parts) found) (subst (λ xs. IsCounted s up i (seen xs) (seen ks) (present (value s c.parts) found)) (drop_end ks i le) (counted s within))
    ∙ ap (λ j. j ∷ []) (ap (shown_count s) is ∙ sym (ap length (chain_variant s line project n) ∙ length-map (shown_part s (chain line.classes n)) (projected_class s)))

pub parts_inside : (c : Gates) (found : List (Guarded ℕ)) (reached m : ℕ) → AreInside c found → reached < length c.parts → AreInside c (found ++ pushed reached m)
parts_inside c found reached m inside below = All-append (λ (g : Guarded ℕ). g.gate < length c.parts) found (pushed reached m) inside (inside_pushed c reached m below)
