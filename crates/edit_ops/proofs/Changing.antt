-- What a project's type keeps stays where a class is changed and keeps its name.
use Rattle.std.proofs.Common.{◌≡◌, ℕ, zero, suc, ◌+◌, ◌≤◌, Bool, true, false, not, ◌&&◌, ◌||◌, cond, List, [], ◌∷◌, ◌++◌, length, map, min, nat_lt, nat_le, position, Some, None, slice_get, slice_set, if◌then◌else◌, refl, sym, ◌∙◌, ap, arith}
use Rattle.std.specs.List.{list_all, position_or_len}
use Rattle.std.specs.Str.{bytes_eq}
use Rattle.std.proofs.lemmas.Bool.{and_parts, and_from, le-leb, leb-false, leb-true, lt-leb}
use Rattle.std.proofs.lemmas.List.{length-map}
use Rattle.std.proofs.lemmas.List.Sums.{sum_by-cons}
use Rattle.std.proofs.lemmas.Slice.Eq.{bytes_eq-Decides}
use Rattle.cfj_words.specs.Names.{is_among, is_short_identifier}
use Rattle.cfj_model.specs.Coloring.{Palette, are_known, palette_of}
use Rattle.cfj_model.specs.LookUps.{Table, is_called}
use Rattle.cfj_model.specs.ProductLines.{ProductLine, IsProject, are_fields, are_methods, are_new, are_distinct, class_size, is_class, is_ctor, most_classes, most_size, object, size}
use Rattle.cfj_model.specs.declared.class.Class.{Class}
use Rattle.cfj_model.specs.declared.class.Constructor.{Constructor}
use Rattle.edit_ops.specs.Changes.{changed, ctor_set, super_set}
use Rattle.edit_ops.proofs.Stays.{among_last, not_true, or_true}

module _ (c : List ℕ) (change : Class → Class) where
  abbrev made : Class → Class
  made k = if is_called c k then change k else k

  same_names : ((k : Class) → (change k).name ≡ k.name) → (p : Table) → map (λ k. k.name) (changed c change p) ≡ map (λ k. k.name) p
  same_names keeps [] = refl
  same_names keeps (k ∷ p) = ap (λ n. n ∷ map (λ x. x.name) (changed c change p)) (by (is_called c k)) ∙ ap (λ ns. k.name ∷ ns) (same_names keeps p)
    where
      by : (b : Bool) → (cond b (change k) k).name ≡ k.name
      by true = keeps k
      by false = refl

  all_fine : (test : Class → Bool) → ((k : Class) → test k ≡ true → test (change k) ≡ true) → (p : Table) → list_all test p ≡ true → list_all test (changed c change p) ≡ true
  all_fine test keeps [] all = refl
  all_fine test keeps (k ∷ p) all =
      let parts = and_parts (test k) (list_all test p) all in
      and_from (test (made k)) (list_all test (changed c change p)) (by parts.0 (is_called c k)) (all_fine test keeps p parts.1)
    where
      by : test k ≡ true → (b : Bool) → test (cond b (change k) k) ≡ true
      by here true = keeps k here
      by here false = here

  pub changed_stays : (line : ProductLine) → IsProject line → ((k : Class) → (change k).name ≡ k.name)
      → ((k : Class) → is_class (palette_of line.model) k ≡ true → is_class (palette_of line.model) (change k) ≡ true)
      → nat_le (size (changed c change line.classes)) most_size ≡ true → IsProject (record line { classes = changed c change line.classes })
  changed_stays line is named kept fits =
      record {
        few_features = is.few_features;
        features_named = is.features_named;
        features_distinct = is.features_distinct;
        few_formula_nodes = is.few_formula_nodes;
        each_constraint = is.each_constraint;
        few_classes = ap (λ n. nat_le n most_classes) (length-map line.classes made) ∙ is.few_classes;
        classes_distinct = ap are_distinct (same_names named line.classes) ∙ is.classes_distinct;
        each_class = all_fine (is_class (palette_of line.model)) kept line.classes is.each_class;
        fits = fits;
      }

  -- behind a class of this name no other is changed
  none_behind : (before : List (List ℕ)) (p : Table) → is_among before c ≡ true → are_new before (map (λ k. k.name) p) ≡ true → changed c change p ≡ p
  none_behind before [] taken new = refl
  none_behind before (k ∷ p) taken new =
      let parts = and_parts (not (is_among before k.name)) (are_new (before ++ k.name ∷ []) (map (λ x. x.name) p)) new in
      let other = differs (bytes_eq k.name c) refl (not_true (is_among before k.name) parts.0) in
      ap (λ b. cond b (change k) k ∷ changed c change p) other
      ∙ ap (λ ks. k ∷ ks) (none_behind (before ++ k.name ∷ []) p (among_last before k.name c ∙ ap (λ b. b || (bytes_eq k.name c || false)) taken) parts.1)
    where
      differs : (b : Bool) → bytes_eq k.name c ≡ b → is_among before k.name ≡ false → b ≡ false
      differs false e apart = refl
      differs true e apart = absurd (cc (sym taken ∙ ap (is_among before) (sym ((bytes_eq-Decides k.name c).0 e)) ∙ apart))

  changed_there : (before : List (List ℕ)) (p : Table) (place : ℕ) (k : Class) → are_new before (map (λ x. x.name) p) ≡ true
      → position_or_len (is_called c) p ≡ place → slice_get p place ≡ Some k → changed c change p ≡ slice_set p place (change k)
  changed_there before [] place k new first at = absurd (cc at)
  changed_there before (x ∷ p) place k new first at =
      let parts = and_parts (not (is_among before x.name)) (are_new (before ++ x.name ∷ []) (map (λ y. y.name) p)) new in
      by parts.1 (λ n. changed_there (before ++ x.name ∷ []) p n k parts.1) (bytes_eq x.name c) refl place first at
    where
      by : are_new (before ++ x.name ∷ []) (map (λ y. y.name) p) ≡ true
          → ((n : ℕ) → position_or_len (is_called c) p ≡ n → slice_get p n ≡ Some k → changed c change p ≡ slice_set p n (change k))
          → (b : Bool) → bytes_eq x.name c ≡ b → (n : ℕ) → cond (not b) (1 + position_or_len (is_called c) p) 0 ≡ n → slice_get (x ∷ p) n ≡ Some k
          → cond b (change x) x ∷ changed c change p ≡ slice_set (x ∷ p) n (change k)
      by apart rest true e zero is here =
          let same : x ≡ k = cc here in
          ap (λ y. change y ∷ changed c change p) same
          ∙ ap (λ ks. change k ∷ ks)
          (none_behind (before ++ x.name ∷ []) p (among_last before x.name c ∙ ap (λ b. is_among before c || (b || false)) e ∙ or_true (is_among before c)) apart)
      by apart rest true e (suc n) is here = absurd (let no : ⊥ = omega (arith, is) in no)
      by apart rest false e zero is here = absurd (let no : ⊥ = omega (arith, is) in no)
      by apart rest false e (suc n) is here =
          let behind : position_or_len (is_called c) p ≡ n = omega (arith, is) in
          ap (λ ks. x ∷ ks) (rest n behind here)

  -- the class of the name stands at its place
  pub changed_at : (line : ProductLine) (place : ℕ) (k : Class) → IsProject line → position (is_called c) line.classes ≡ Some place → slice_get line.classes place ≡ Some k
      → record line { classes = changed c change line.classes } ≡ record line { classes = slice_set line.classes place (change k) }
  changed_at line place k is at there =
      ap (λ ks. record line { classes = ks })
      (changed_there [] line.classes place k is.classes_distinct (by (nat_lt (position_or_len (is_called c) line.classes) (length line.classes)) at) there)
    where
      by : (b : Bool) → cond b (Some (position_or_len (is_called c) line.classes)) None ≡ Some place → position_or_len (is_called c) line.classes ≡ place
      by true e = cc e
      by false e = absurd (cc e)

-- ---- another superclass, another constructor

-- five tests that hold, from the first on
pub record AllFive (a b c d e : Bool) : Type 0 where
  pub first : a ≡ true
  pub second : b ≡ true
  pub third : c ≡ true
  pub fourth : d ≡ true
  pub fifth : e ≡ true

pub five : (a b c d e : Bool) → (a && b && c && d && e) ≡ true → AllFive a b c d e
five a b c d e h =
    let last = and_parts (a && b && c && d) e h in
    let fourth = and_parts (a && b && c) d last.0 in
    let third = and_parts (a && b) c fourth.0 in
    let front = and_parts a b third.0 in
    record { first = front.0; second = front.1; third = third.1; fourth = fourth.1; fifth = last.1 }

pub all_five : (a b c d e : Bool) → AllFive a b c d e → (a && b && c && d && e) ≡ true
all_five a b c d e h =
    and_from (a && b && c && d) e
    (and_from (a && b && c) d (and_from (a && b) c (and_from a b h.first h.second) h.third) h.fourth)
    h.fifth

-- the name and the colours of a class
abbrev pub head_fits : Palette → Class → Bool
head_fits palette k = is_short_identifier k.name && not (bytes_eq k.name object) && are_known palette k.colors

parent_kept : (palette : Palette) (parent : List ℕ) → is_short_identifier parent ≡ true → (k : Class) → is_class palette k ≡ true → is_class palette (record k { parent = parent }) ≡ true
unfolding is_class
parent_kept palette parent named k is =
    let all = five (head_fits palette k) (is_short_identifier k.parent) (are_fields palette k.fields) (is_ctor palette k.ctor) (are_methods palette k.methods) is in
    all_five (head_fits palette k) (is_short_identifier parent) (are_fields palette k.fields) (is_ctor palette k.ctor) (are_methods palette k.methods)
    (record { first = all.first; second = named; third = all.third; fourth = all.fourth; fifth = all.fifth })

ctor_kept : (palette : Palette) (ctor : Constructor) → is_ctor palette ctor ≡ true → (k : Class) → is_class palette k ≡ true → is_class palette (record k { ctor = ctor }) ≡ true
unfolding is_class
ctor_kept palette ctor fine k is =
    let all = five (head_fits palette k) (is_short_identifier k.parent) (are_fields palette k.fields) (is_ctor palette k.ctor) (are_methods palette k.methods) is in
    all_five (head_fits palette k) (is_short_identifier k.parent) (are_fields palette k.fields) (is_ctor palette ctor) (are_methods palette k.methods)
    (record { first = all.first; second = all.second; third = all.third; fourth = fine; fifth = all.fifth })

same_size : (c : List ℕ) (parent : List ℕ) (p : Table) → size (changed c (λ k. record k { parent = parent }) p) ≡ size p
same_size c parent [] = refl
same_size c parent (k ∷ p) =
    let one = sum_by-cons class_size (made c (λ x. record x { parent = parent }) k) (changed c (λ x. record x { parent = parent }) p) in
    let all = sum_by-cons class_size k p in
    let own = by (is_called c k) in
    omega (arith, one, all, own, same_size c parent p)
  where
    by : (b : Bool) → class_size (cond b (record k { parent = parent }) k) ≡ class_size k
    by true = refl
    by false = refl

pub super_stays : (c parent : List ℕ) (line : ProductLine) → IsProject line → is_short_identifier parent ≡ true → IsProject (super_set c parent line)
super_stays c parent line is named =
    changed_stays c (λ k. record k { parent = parent }) line is (λ k. refl) (parent_kept (palette_of line.model) parent named)
    (ap (λ n. nat_le n most_size) (same_size c parent line.classes) ∙ is.fits)

pub ctor_stays : (c : List ℕ) (ctor : Constructor) (line : ProductLine) → IsProject line → is_ctor (palette_of line.model) ctor ≡ true
    → nat_le (size (changed c (λ k. record k { ctor = ctor }) line.classes)) most_size ≡ true → IsProject (ctor_set c ctor line)
ctor_stays c ctor line is fine fits = changed_stays c (λ k. record k { ctor = ctor }) line is (λ k. refl) (ctor_kept (palette_of line.model) ctor fine) fits

-- ---- sizes

pub size_set : (p : Table) (place : ℕ) (old new : Class) → slice_get p place ≡ Some old → size (slice_set p place new) + class_size old ≡ size p + class_size new
size_set [] place old new at = absurd (cc at)
size_set (k ∷ p) zero old new at =
    let same : k ≡ old = cc at in
    let sizes = ap class_size same in
    let set = sum_by-cons class_size new p in
    let all = sum_by-cons class_size k p in
    omega (arith, sizes, set, all)
size_set (k ∷ p) (suc place) old new at =
    let rest = size_set p place old new at in
    let set = sum_by-cons class_size k (slice_set p place new) in
    let all = sum_by-cons class_size k p in
    omega (arith, rest, set, all)

pub size_within : (p : Table) (place : ℕ) (k : Class) → slice_get p place ≡ Some k → class_size k ≤ size p
size_within [] place k at = absurd (cc at)
size_within (x ∷ p) zero k at =
    let same : x ≡ k = cc at in
    let sizes = ap class_size same in
    let all = sum_by-cons class_size x p in
    omega (arith, sizes, all)
size_within (x ∷ p) (suc place) k at =
    let rest = size_within p place k at in
    let all = sum_by-cons class_size x p in
    omega (arith, rest, all)

-- a number that is cut off far above the limit tells as much as the whole
pub same_fit : (n m : ℕ) → n ≡ min m 18446744073709551615 → nat_le n most_size ≡ nat_le m most_size
same_fit n m is = by (nat_le m most_size) refl
  where
    by : (b : Bool) → nat_le m most_size ≡ b → nat_le n most_size ≡ b
    by true h = let below = leb-true m most_size h in le-leb n most_size (omega (arith, is, below))
    by false h = let above = leb-false m most_size h in lt-leb n most_size (omega (arith, is, above))
