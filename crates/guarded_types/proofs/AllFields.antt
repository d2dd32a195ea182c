-- Fields of a chain, one more at a time, and all that a variant's class has.
use Rattle.std.proofs.Common.{◌≡◌, ℕ, zero, suc, ◌+◌, ◌<◌, ◌≤◌, Bool, true, false, cond, List, [], ◌∷◌, ◌++◌, length, map, take, drop, get_or, All, Bor, refl, sym, ◌∙◌, ap, ap₂, arith, add-one, subst}
use Rattle.std.specs.List.{filter}
use Rattle.std.proofs.lemmas.List.{append_assoc, length-map, map-append, take_more}
use Rattle.std.proofs.lemmas.List.Elements.{All-append, filter-append}
use Rattle.cfj_logic.specs.Selections.{Chosen}
use Rattle.cfj_logic.specs.Sides.{Sides}
use Rattle.cfj_model.specs.Coloring.{no_colors}
use Rattle.cfj_model.specs.LookUps.{all_fields, chain, fields_of}
use Rattle.cfj_model.specs.ProductLines.{IsProject, ProductLine}
use Rattle.cfj_model.specs.Projection.{bare_field, is_present, presence_of, projected, projected_class}
use Rattle.cfj_model.specs.declared.class.Class.{Class}
use Rattle.cfj_model.specs.declared.class.Field.{Field}
use Rattle.cond_circuit.proofs.ValueLemmas.{Is-grown}
use Rattle.cond_circuit.specs.Gates.{Gates, Grown, Is, value}
use Rattle.guarded_seq.proofs.TableLaws.{inside_grown}
use Rattle.guarded_seq.specs.Sequences.{AreInside, present}
use Rattle.guarded_seq.specs.declared.guarded.Guarded.{Guarded}
use Rattle.guarded_types.proofs.FirstItems.{inside_pushed, present_append, present_grown, present_pushed}
use Rattle.class_table.specs.ByName.{seen}
use Rattle.feature_views.proofs.Presence.{present_inside}
use Rattle.locality_law.proofs.Items.{Each}
use Rattle.guarded_types.proofs.KnownMarks.{IsMarkedOver, chain_over, has_at}
use Rattle.guarded_types.proofs.Reached.{drop_end, drop_here}
use Rattle.guarded_types.proofs.VariantChains.{chain_variant, shown_part}
use Rattle.guarded_types.specs.Fields.{AreFieldsOver, own_fields, up_of}
use Rattle.guarded_types.specs.Within.{IsWithin, pushed}

-- what is read of guarded references
abbrev pub told : Chosen → Gates → List (Guarded (Bor Field)) → List Field
told s c found = map (λ (f : Bor Field). f.now) (present (value s c.parts) found)

pub told_grown : (s : Chosen) (c d : Gates) (found : List (Guarded (Bor Field))) → Grown c d → AreInside c found → told s d found ≡ told s c found
told_grown s c d found grown inside = ap (map (λ (f : Bor Field). f.now)) (present_grown c d s grown found inside)

module _ (c d : Gates) (w : Sides) (fs : List Field) (i : ℕ) (x : Field) (lt : i < length fs) (at : x ≡ get_or fs i x) (g : ℕ) (b : Bor Field) (is : b.now ≡ x) (grown : Grown c d)
    (there : IsWithin d w g (λ s. is_present s x.colors)) (never : Is c 0 (λ s. false)) (found : List (Guarded (Bor Field))) (inside : AreInside c found) where
  pub own_inside : AreInside d (found ++ pushed g b)
  own_inside = All-append (λ (y : Guarded (Bor Field)). y.gate < length d.parts) found (pushed g b) (inside_grown c d found grown inside) (inside_pushed d g b there.inside)

  pub own_more : (old : List Field) (s : Chosen) → is_present s w ≡ true → told s c found ≡ old ++ filter (λ f. is_present s f.colors) (take i fs)
      → told s d (found ++ pushed g b) ≡ old ++ filter (λ f. is_present s f.colors) (take (i + 1) fs)
  own_more old s here before =
      ap (map (λ (f : Bor Field). f.now)) (present_append (value s d.parts) found (pushed g b))
      ∙ map-append (λ (f : Bor Field). f.now) (present (value s d.parts) found) (present (value s d.parts) (pushed g b))
      ∙ ap₂ (λ xs ys. xs ++ ys) (told_grown s c d found grown inside ∙ before)
      (ap (map (λ (f : Bor Field). f.now)) (present_pushed d s g b (Is-grown c d 0 (λ s. false) grown never) ∙ ap (λ t. cond t (b ∷ []) []) (there.worth s here)) ∙ one (is_present s x.colors))
      ∙ append_assoc old (filter (λ f. is_present s f.colors) (take i fs)) (filter (λ f. is_present s f.colors) (x ∷ []))
      ∙ ap (λ xs. old ++ xs)
      (sym (ap (filter (λ f. is_present s f.colors)) (take_more fs i x lt ∙ ap (λ y. take i fs ++ y ∷ []) (sym at)) ∙ filter-append (λ (f : Field). is_present s f.colors) (take i fs) (x ∷ [])))
    where
      one : (t : Bool) → map (λ (f : Bor Field). f.now) (cond t (b ∷ []) []) ≡ cond t (x ∷ []) []
      one true = ap (λ y. y ∷ []) is
      one false = refl

-- ---- class by class, the last first

drop_front : (ks : List (Bor Class)) (j i : ℕ) (k : Bor Class) → j ≡ suc i → i < length ks → k ≡ get_or ks i k → drop i ks ≡ k ∷ drop j ks
drop_front ks j i k same lt at = drop_here ks i k lt at ∙ ap (λ n. k ∷ drop n ks) (add-one i ∙ sym same)

pub class_more : (s : Chosen) (ks : List (Bor Class)) (j i : ℕ) (k : Bor Class) (before after : List Field) → before ≡ own_fields s (seen (drop j ks)) → j ≡ suc i → i < length ks → k ≡ get_or ks i k
    → after ≡ before ++ filter (λ f. is_present s f.colors) k.now.fields → after ≡ own_fields s (seen (drop i ks))
class_more s ks j i k before after is same lt at more =
    more ∙ ap (λ xs. xs ++ filter (λ f. is_present s f.colors) k.now.fields) is ∙ sym (ap (λ xs. own_fields s (seen xs)) (drop_front ks j i k same lt at))

pub none_yet : (s : Chosen) (ks : List (Bor Class)) (n : ℕ) → length ks ≤ n → [] ≡ own_fields s (seen (drop n ks))
none_yet s ks n le = sym (ap (λ xs. own_fields s (seen xs)) (drop_end ks n le))

-- ---- in a variant

-- the classes that are there are the first of the chain
shown_take : (s : Chosen) (ks : List Class) → shown_part s ks ≡ take (length (shown_part s ks)) ks
shown_take s [] = refl
shown_take s (k ∷ ks) = go (is_present s k.colors) (shown_take s ks)
  where
    go : (b : Bool) → shown_part s ks ≡ take (length (shown_part s ks)) ks → cond b (k ∷ shown_part s ks) [] ≡ take (length (cond b (k ∷ shown_part s ks) [])) (k ∷ ks)
    go true ih = ap (λ xs. k ∷ xs) ih
    go false ih = refl

-- their marks hold
up_shown : (s : Chosen) (up : Sides) (ks : List Class) → is_present s up ≡ true → is_present s (up_of up (shown_part s ks)) ≡ true
up_shown s up [] here = here
up_shown s up (k ∷ ks) here = go (is_present s k.colors) refl (λ w. up_shown s w ks)
  where
    go : (b : Bool) → is_present s k.colors ≡ b → ((w : Sides) → is_present s w ≡ true → is_present s (up_of w (shown_part s ks)) ≡ true) → is_present s (up_of up (cond b (k ∷ shown_part s ks) [])) ≡ true
    go true e ih = ih (presence_of up k.colors) (present_inside s up k.colors here ∙ e)
    go false e ih = here

-- and of a class that is there a variant has the fields whose own marks hold
fields_left : (s : Chosen) (around : Sides) → is_present s around ≡ true → (fs : List Field) → map bare_field (filter (λ f. is_present s f.colors) fs) ≡ map bare_field (filter (λ f. is_present s (presence_of around f.colors)) fs)
fields_left s around here [] = refl
fields_left s around here (f ∷ fs) =
    go (is_present s f.colors) (fields_left s around here fs)
    ∙ sym (ap (λ b. map bare_field (cond b (f ∷ filter (λ f. is_present s (presence_of around f.colors)) fs) (filter (λ f. is_present s (presence_of around f.colors)) fs))) (present_inside s around f.colors here))
  where
    go : (b : Bool) → map bare_field (filter (λ f. is_present s f.colors) fs) ≡ map bare_field (filter (λ f. is_present s (presence_of around f.colors)) fs)
        → map bare_field (cond b (f ∷ filter (λ f. is_present s f.colors) fs) (filter (λ f. is_present s f.colors) fs))
        ≡ map bare_field (cond b (f ∷ filter (λ f. is_present s (presence_of around f.colors)) fs) (filter (λ f. is_present s (presence_of around f.colors)) fs))
    go true ih = ap (λ xs. bare_field f ∷ xs) ih
    go false ih = ih

own_shown : (s : Chosen) (ks : List Class) → map bare_field (own_fields s (shown_part s ks)) ≡ fields_of (map (projected_class s) (shown_part s ks))
own_shown s [] = refl
own_shown s (k ∷ ks) = go (is_present s k.colors) refl (own_shown s ks)
  where
    go : (b : Bool) → is_present s k.colors ≡ b → map bare_field (own_fields s (shown_part s ks)) ≡ fields_of (map (projected_class s) (shown_part s ks))
        → map bare_field (own_fields s (cond b (k ∷ shown_part s ks) [])) ≡ fields_of (map (projected_class s) (cond b (k ∷ shown_part s ks) []))
    go true e ih =
        map-append bare_field (own_fields s (shown_part s ks)) (filter (λ f. is_present s f.colors) k.fields) ∙ ap₂ (λ xs ys. xs ++ ys) ih (fields_left s k.colors e k.fields)
    go false e ih = refl

-- all fields of a class in a variant whose chain has so many classes, by the own marks of the line's fields
pub all_fields_are : (line : ProductLine) → IsProject line → (n : List ℕ) (part : ℕ) (front : List (Bor Class)) → seen front ≡ take part (chain line.classes n) → (s : Chosen) (w : Sides) → is_present s w ≡ true
    → length (chain (projected s line).classes n) ≡ part
    → (is_present s (presence_of w (up_of no_colors (seen front))) ≡ true) × (map bare_field (own_fields s (seen front)) ≡ all_fields (projected s line).classes n)
all_fields_are line project n part front is s w here long = (
  present_inside s w (up_of no_colors (seen front)) here ∙ ap (λ ks. is_present s (up_of no_colors ks)) shown ∙ up_shown s no_colors (chain line.classes n) refl,
  ap (λ ks. map bare_field (own_fields s ks)) shown ∙ own_shown s (chain line.classes n) ∙ sym (ap fields_of (chain_variant s line project n)),
)
  where
    count : length (shown_part s (chain line.classes n)) ≡ part
    count = sym (length-map (shown_part s (chain line.classes n)) (projected_class s)) ∙ sym (ap length (chain_variant s line project n)) ∙ long

    shown : seen front ≡ shown_part s (chain line.classes n)
    shown = is ∙ sym (shown_take s (chain line.classes n) ∙ ap (λ m. take m (chain line.classes n)) count)

-- ---- their marks

pub place_fields_over : (m : ℕ) (ks : List (Bor Class)) → Each (IsMarkedOver m) (seen ks) → All (λ (k : Bor Class). AreFieldsOver m k.now.fields) ks
place_fields_over m [] all i d lt = absurd (omega (arith, lt))
place_fields_over m (k ∷ ks) all zero d lt = λ j e below. all.0.fields (get_or k.now.fields j e) (has_at k.now.fields j e below)
place_fields_over m (k ∷ ks) all (suc i) d lt = place_fields_over m ks all.1 i d (omega (arith, lt))

each_take : {A : Type 0} (P : A → Type 0) (n : ℕ) (xs : List A) → Each P xs → Each P (take n xs)
each_take P zero xs all = tt
each_take P (suc n) [] all = tt
each_take P (suc n) (x ∷ xs) all = (all.0, each_take P n xs all.1)

pub front_over : (line : ProductLine) → IsProject line → (m : ℕ) → m ≡ length line.model.features → (n : List ℕ) (part : ℕ) (front : List (Bor Class)) → seen front ≡ take part (chain line.classes n)
    → All (λ (k : Bor Class). AreFieldsOver m k.now.fields) front
front_over line project m same n part front is =
    place_fields_over m front
    (subst (λ xs. Each (IsMarkedOver m) xs) (sym is)
    (each_take (IsMarkedOver m) part (chain line.classes n) (subst (λ l. Each (IsMarkedOver l) (chain line.classes n)) (sym same) (chain_over line project n))))
