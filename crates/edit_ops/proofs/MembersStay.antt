-- What a project's type keeps stays where the members of one class change.
use Rattle.std.proofs.Common.{◌≡◌, ℕ, zero, suc, ◌+◌, ◌<◌, ◌≤◌, Bool, true, not, ◌&&◌, List, [], ◌∷◌, ◌++◌, length, map, filter, nat_le, Some, slice_get, slice_set, refl, sym, ◌∙◌, ap, arith}
use Rattle.std.specs.List.{list_all, position_or_len, sum_by}
use Rattle.std.proofs.lemmas.Bool.{and_parts, and_from, le-leb, leb-true}
use Rattle.std.proofs.lemmas.List.{length-append, length-set}
use Rattle.std.proofs.lemmas.List.Folds.{list_all-append}
use Rattle.std.proofs.lemmas.List.Sums.{sum_by-append, sum_by-cons}
use Rattle.cfj_model.specs.Coloring.{Palette, palette_of}
use Rattle.cfj_model.specs.LookUps.{Table}
use Rattle.cfj_model.specs.Members.{alts_rise}
use Rattle.cfj_model.specs.ProductLines.{ProductLine, IsProject, are_fields, are_methods, are_distinct, class_size, is_class, is_ctor, is_field, is_method, method_size, most_classes, most_fields, most_methods, most_size, size}
use Rattle.cfj_model.specs.declared.class.Class.{Class}
use Rattle.cfj_model.specs.declared.class.Field.{Field}
use Rattle.cfj_model.specs.declared.class.Method.{Method}
use Rattle.cfj_words.specs.Names.{is_short_identifier}
use Rattle.edit_ops.specs.Members.{Kind, field_replaced, method_replaced, replaced, added, field_added, method_added, fields, field_removed, is_member, method_removed, methods, removed, renumbered}
use Rattle.edit_ops.proofs.Changing.{all_five, five, head_fits, size_set}
use Rattle.edit_ops.proofs.Renumbering.{IsKind, other_alts, rises_alike, by_count, fewer_rise, fields_are, from_each, methods_are, more_rise, names_and_alts, numbered_all, numbered_length, numbered_sum, renumbered_rises, to_each}
use Rattle.edit_ops.proofs.Stays.{all_kept, fewer_kept, less_kept}

-- ---- one class is another of its name

set_names : (p : Table) (place : ℕ) (k new : Class) → slice_get p place ≡ Some k → new.name ≡ k.name → map (λ x. x.name) (slice_set p place new) ≡ map (λ x. x.name) p
set_names [] place k new at same = absurd (cc at)
set_names (x ∷ p) zero k new at same =
    let is : x ≡ k = cc at in
    ap (λ n. n ∷ map (λ y. y.name) p) (same ∙ ap (λ (y : Class). y.name) (sym is))
set_names (x ∷ p) (suc place) k new at same = ap (λ ns. x.name ∷ ns) (set_names p place k new at same)

set_all : {A : Type 0} (test : A → Bool) (p : List A) (place : ℕ) (new : A) → list_all test p ≡ true → test new ≡ true → list_all test (slice_set p place new) ≡ true
set_all test [] place new all fine = refl
set_all test (x ∷ p) zero new all fine = and_from (test new) (list_all test p) fine (and_parts (test x) (list_all test p) all).1
set_all test (x ∷ p) (suc place) new all fine =
    let parts = and_parts (test x) (list_all test p) all in
    and_from (test x) (list_all test (slice_set p place new)) parts.0 (set_all test p place new parts.1 fine)

class_at : (test : Class → Bool) (p : Table) (place : ℕ) (k : Class) → list_all test p ≡ true → slice_get p place ≡ Some k → test k ≡ true
class_at test [] place k all at = absurd (cc at)
class_at test (x ∷ p) zero k all at =
    let is : x ≡ k = cc at in
    ap test (sym is) ∙ (and_parts (test x) (list_all test p) all).0
class_at test (x ∷ p) (suc place) k all at = class_at test p place k (and_parts (test x) (list_all test p) all).1 at

pub set_stays : (line : ProductLine) (place : ℕ) (k new : Class) → IsProject line → slice_get line.classes place ≡ Some k → new.name ≡ k.name
    → is_class (palette_of line.model) new ≡ true → nat_le (size (slice_set line.classes place new)) most_size ≡ true
    → IsProject (record line { classes = slice_set line.classes place new })
set_stays line place k new is at same fine fits =
    record {
      few_features = is.few_features;
      features_named = is.features_named;
      features_distinct = is.features_distinct;
      few_formula_nodes = is.few_formula_nodes;
      each_constraint = is.each_constraint;
      few_classes = ap (λ n. nat_le n most_classes) (length-set line.classes place new) ∙ is.few_classes;
      classes_distinct = ap are_distinct (set_names line.classes place k new at same) ∙ is.classes_distinct;
      each_class = set_all (is_class (palette_of line.model)) line.classes place new is.each_class fine;
      fits = fits;
    }

-- a project with a class that is no larger fits
smaller_fits : (line : ProductLine) (place : ℕ) (k new : Class) → IsProject line → slice_get line.classes place ≡ Some k → class_size new ≤ class_size k
    → nat_le (size (slice_set line.classes place new)) most_size ≡ true
smaller_fits line place k new is at smaller =
    let sum = size_set line.classes place k new at in
    let fits = leb-true (size line.classes) most_size is.fits in
    le-leb (size (slice_set line.classes place new)) most_size (omega (arith, sum, fits, smaller))

-- ---- a class with other members

pub fields_fine : (palette : Palette) (k : Class) → is_class palette k ≡ true → are_fields palette k.fields ≡ true
unfolding is_class
fields_fine palette k is = (five (head_fits palette k) (is_short_identifier k.parent) (are_fields palette k.fields) (is_ctor palette k.ctor) (are_methods palette k.methods) is).third

pub methods_fine : (palette : Palette) (k : Class) → is_class palette k ≡ true → are_methods palette k.methods ≡ true
unfolding is_class
methods_fine palette k is = (five (head_fits palette k) (is_short_identifier k.parent) (are_fields palette k.fields) (is_ctor palette k.ctor) (are_methods palette k.methods) is).fifth

pub with_fields_fine : (palette : Palette) (k : Class) (ds : List Field) → is_class palette k ≡ true → are_fields palette ds ≡ true → is_class palette (record k { fields = ds }) ≡ true
unfolding is_class
with_fields_fine palette k ds is fine =
    let all = five (head_fits palette k) (is_short_identifier k.parent) (are_fields palette k.fields) (is_ctor palette k.ctor) (are_methods palette k.methods) is in
    all_five (head_fits palette k) (is_short_identifier k.parent) (are_fields palette ds) (is_ctor palette k.ctor) (are_methods palette k.methods)
    (record { first = all.first; second = all.second; third = fine; fourth = all.fourth; fifth = all.fifth })

pub with_methods_fine : (palette : Palette) (k : Class) (ds : List Method) → is_class palette k ≡ true → are_methods palette ds ≡ true → is_class palette (record k { methods = ds }) ≡ true
unfolding is_class
with_methods_fine palette k ds is fine =
    let all = five (head_fits palette k) (is_short_identifier k.parent) (are_fields palette k.fields) (is_ctor palette k.ctor) (are_methods palette k.methods) is in
    all_five (head_fits palette k) (is_short_identifier k.parent) (are_fields palette k.fields) (is_ctor palette k.ctor) (are_methods palette ds)
    (record { first = all.first; second = all.second; third = all.third; fourth = all.fourth; fifth = fine })

method_alike : (palette : Palette) (m : Method) (n : ℕ) → is_method palette (record m { alt = n }) ≡ is_method palette m
unfolding is_method
method_alike palette m n = refl

-- ---- lists of members that a class may have

module _ {A : Type 0} (kind : Kind A) (is : IsKind kind) where
  -- at most so many, whose alts rise, each of which passes a test
  abbrev are_members : ℕ → (A → Bool) → List A → Bool
  are_members most test xs = nat_le (length xs) most && alts_rise (names_and_alts kind xs) && list_all test xs

  record AreMembers (most : ℕ) (test : A → Bool) (xs : List A) : Type 0 where
    few : length xs ≤ most
    rise : alts_rise (names_and_alts kind xs) ≡ true
    all : list_all test xs ≡ true

  members : (most : ℕ) (test : A → Bool) (xs : List A) → are_members most test xs ≡ true → AreMembers most test xs
  members most test xs fine =
      let last = and_parts (nat_le (length xs) most && alts_rise (names_and_alts kind xs)) (list_all test xs) fine in
      let front = and_parts (nat_le (length xs) most) (alts_rise (names_and_alts kind xs)) last.0 in
      record { few = leb-true (length xs) most front.0; rise = front.1; all = last.1 }

  all_members : (most : ℕ) (test : A → Bool) (xs : List A) → AreMembers most test xs → are_members most test xs ≡ true
  all_members most test xs h =
      and_from (nat_le (length xs) most && alts_rise (names_and_alts kind xs)) (list_all test xs)
      (and_from (nat_le (length xs) most) (alts_rise (names_and_alts kind xs)) (le-leb (length xs) most h.few) h.rise)
      h.all

  -- another alt makes no difference to a test
  abbrev IsAlike : (A → Bool) → Type 0
  IsAlike test = (x : A) (n : ℕ) → test (kind.with_alt x n) ≡ test x

  renumbered_length : (n : List ℕ) (xs : List A) → length (renumbered kind n xs) ≡ length xs
  renumbered_length n xs = ap length (by_count kind n xs) ∙ numbered_length kind n 0 xs

  renumbered_all : (test : A → Bool) → IsAlike test → (n : List ℕ) (xs : List A) → list_all test (renumbered kind n xs) ≡ list_all test xs
  renumbered_all test alike n xs = ap (list_all test) (by_count kind n xs) ∙ numbered_all kind test alike n 0 xs

  renumbered_sum : (f : A → ℕ) → ((x : A) (m : ℕ) → f (kind.with_alt x m) ≡ f x) → (n : List ℕ) (xs : List A) → sum_by f (renumbered kind n xs) ≡ sum_by f xs
  renumbered_sum f alike n xs = ap (sum_by f) (by_count kind n xs) ∙ numbered_sum kind f alike n 0 xs

  module _ (n : List ℕ) (alt : ℕ) (xs : List A) where
    abbrev left : List A
    left = filter (λ x. not (is_member kind n alt x)) xs

    removed_fewer : length (removed kind n alt xs) ≤ length xs
    removed_fewer = let same = renumbered_length n left in let fewer = fewer_kept (λ x. not (is_member kind n alt x)) xs in omega (arith, same, fewer)

    removed_less : (f : A → ℕ) → ((x : A) (m : ℕ) → f (kind.with_alt x m) ≡ f x) → sum_by f (removed kind n alt xs) ≤ sum_by f xs
    removed_less f alike =
        let same = renumbered_sum f alike n left in
        let less = less_kept (λ x. not (is_member kind n alt x)) f xs in
        omega (arith, same, less)

    removed_fine : (most : ℕ) (test : A → Bool) → IsAlike test → are_members most test xs ≡ true → are_members most test (removed kind n alt xs) ≡ true
    removed_fine most test alike fine =
        let had = members most test xs fine in
        let keeps : A → Bool = λ x. not (is_member kind n alt x) in
        all_members most test (removed kind n alt xs)
        (record {
          few = let few = had.few in omega (arith, few, removed_fewer);
          rise = from_each kind (removed kind n alt xs) (λ w. renumbered_rises kind is n w left (λ _. fewer_rise kind w keeps xs (to_each kind xs had.rise w)));
          all = renumbered_all test alike n left ∙ all_kept keeps test xs had.all;
        })

  module _ (x : A) (xs : List A) where
    added_length : length (added kind x xs) ≡ length xs + 1
    added_length = renumbered_length (kind.name_of x) (xs ++ x ∷ []) ∙ length-append xs (x ∷ [])

    added_sum : (f : A → ℕ) → ((y : A) (m : ℕ) → f (kind.with_alt y m) ≡ f y) → sum_by f (added kind x xs) ≡ sum_by f xs + f x
    added_sum f alike =
        let all = renumbered_sum f alike (kind.name_of x) (xs ++ x ∷ []) in
        let parts = sum_by-append f xs (x ∷ []) in
        let one = sum_by-cons f x [] in
        omega (arith, all, parts, one)

    added_fine : (most : ℕ) (test : A → Bool) → IsAlike test → are_members most test xs ≡ true → length xs < most → test x ≡ true → are_members most test (added kind x xs) ≡ true
    added_fine most test alike fine room own =
        let had = members most test xs fine in
        all_members most test (added kind x xs)
        (record {
          few = omega (arith, room, added_length);
          rise =
              from_each kind (added kind x xs)
              (λ w. renumbered_rises kind is (kind.name_of x) w (xs ++ x ∷ []) (λ other. more_rise kind w xs x other (to_each kind xs had.rise w)));
          all =
              renumbered_all test alike (kind.name_of x) (xs ++ x ∷ [])
              ∙ list_all-append test xs (x ∷ [])
              ∙ and_from (list_all test xs) (test x && true) had.all (and_from (test x) true own refl);
        })

  replaced_fine : (n : List ℕ) (alt : ℕ) (x : A) (xs : List A) (most : ℕ) (test : A → Bool) → IsAlike test → are_members most test xs ≡ true → test x ≡ true
      → are_members most test (replaced kind n alt x xs) ≡ true
  replaced_fine n alt x xs most test alike fine own =
      let had = members most test xs fine in
      let place = position_or_len (is_member kind n alt) xs in
      let twice = renumbered_length (kind.name_of x) (renumbered kind n (slice_set xs place x)) in
      let once = renumbered_length n (slice_set xs place x) in
      let same = length-set xs place x in
      all_members most test (replaced kind n alt x xs)
      (record {
        few = let few = had.few in omega (arith, few, twice, once, same);
        rise =
            from_each kind (replaced kind n alt x xs)
            (λ w. renumbered_rises kind is (kind.name_of x) w (renumbered kind n (slice_set xs place x))
            (λ other. renumbered_rises kind is n w (slice_set xs place x)
            (λ apart. rises_alike kind w (slice_set xs place x) xs (other_alts kind w n alt x apart other xs place refl) (to_each kind xs had.rise w))));
        all =
            renumbered_all test alike (kind.name_of x) (renumbered kind n (slice_set xs place x))
            ∙ renumbered_all test alike n (slice_set xs place x)
            ∙ set_all test xs place x had.all own;
      })

-- ---- a member goes

module _ (line : ProductLine) (place : ℕ) (k : Class) (is : IsProject line) (at : slice_get line.classes place ≡ Some k) where
  -- the class is one of a project
  pub fine_class : is_class (palette_of line.model) k ≡ true
  fine_class = class_at (is_class (palette_of line.model)) line.classes place k is.each_class at

  pub few_fields : length k.fields ≤ most_fields
  few_fields = (members fields fields_are most_fields (is_field (palette_of line.model)) k.fields (fields_fine (palette_of line.model) k fine_class)).few

  pub few_methods : length k.methods ≤ most_methods
  few_methods = (members methods methods_are most_methods (is_method (palette_of line.model)) k.methods (methods_fine (palette_of line.model) k fine_class)).few

  pub field_removed_stays : (f : List ℕ) (alt : ℕ) → IsProject (record line { classes = slice_set line.classes place (field_removed f alt k) })
  field_removed_stays f alt =
      let palette = palette_of line.model in
      let fine = removed_fine fields fields_are f alt k.fields most_fields (is_field palette) (λ d n. refl) (fields_fine palette k fine_class) in
      let fewer = removed_fewer fields fields_are f alt k.fields in
      set_stays line place k (field_removed f alt k) is at refl (with_fields_fine palette k (removed fields f alt k.fields) fine_class fine)
      (smaller_fits line place k (field_removed f alt k) is at (omega (arith, fewer)))

  pub method_removed_stays : (m : List ℕ) (alt : ℕ) → IsProject (record line { classes = slice_set line.classes place (method_removed m alt k) })
  method_removed_stays m alt =
      let palette = palette_of line.model in
      let fine = removed_fine methods methods_are m alt k.methods most_methods (is_method palette) (method_alike palette) (methods_fine palette k fine_class) in
      let less = removed_less methods methods_are m alt k.methods method_size (λ d n. refl) in
      set_stays line place k (method_removed m alt k) is at refl (with_methods_fine palette k (removed methods m alt k.methods) fine_class fine)
      (smaller_fits line place k (method_removed m alt k) is at (omega (arith, less)))

  -- ---- one more member

  pub field_added_stays : (d : Field) → is_field (palette_of line.model) d ≡ true → length k.fields < most_fields
      → nat_le (size (slice_set line.classes place (field_added d k))) most_size ≡ true → IsProject (record line { classes = slice_set line.classes place (field_added d k) })
  field_added_stays d own room fits =
      let palette = palette_of line.model in
      let fine = added_fine fields fields_are d k.fields most_fields (is_field palette) (λ x n. refl) (fields_fine palette k fine_class) room own in
      set_stays line place k (field_added d k) is at refl (with_fields_fine palette k (added fields d k.fields) fine_class fine) fits

  pub method_added_stays : (m : Method) → is_method (palette_of line.model) m ≡ true → length k.methods < most_methods
      → nat_le (size (slice_set line.classes place (method_added m k))) most_size ≡ true → IsProject (record line { classes = slice_set line.classes place (method_added m k) })
  method_added_stays m own room fits =
      let palette = palette_of line.model in
      let fine = added_fine methods methods_are m k.methods most_methods (is_method palette) (method_alike palette) (methods_fine palette k fine_class) room own in
      set_stays line place k (method_added m k) is at refl (with_methods_fine palette k (added methods m k.methods) fine_class fine) fits

  -- ---- another member

  pub field_replaced_stays : (f : List ℕ) (alt : ℕ) (d : Field) → is_field (palette_of line.model) d ≡ true
      → nat_le (size (slice_set line.classes place (field_replaced f alt d k))) most_size ≡ true → IsProject (record line { classes = slice_set line.classes place (field_replaced f alt d k) })
  field_replaced_stays f alt d own fits =
      let palette = palette_of line.model in
      let fine = replaced_fine fields fields_are f alt d k.fields most_fields (is_field palette) (λ x n. refl) (fields_fine palette k fine_class) own in
      set_stays line place k (field_replaced f alt d k) is at refl (with_fields_fine palette k (replaced fields f alt d k.fields) fine_class fine) fits

  pub method_replaced_stays : (m : List ℕ) (alt : ℕ) (d : Method) → is_method (palette_of line.model) d ≡ true
      → nat_le (size (slice_set line.classes place (method_replaced m alt d k))) most_size ≡ true → IsProject (record line { classes = slice_set line.classes place (method_replaced m alt d k) })
  method_replaced_stays m alt d own fits =
      let palette = palette_of line.model in
      let fine = replaced_fine methods methods_are m alt d k.methods most_methods (is_method palette) (method_alike palette) (methods_fine palette k fine_class) own in
      set_stays line place k (method_replaced m alt d k) is at refl (with_methods_fine palette k (replaced methods m alt d k.methods) fine_class fine) fits
