-- What is printed reads back.
use Rattle.std.proofs.Common.{refl, ◌≡◌, ℕ, zero, suc, ◌≤◌, Bool, true, List, [], ◌∷◌, sym, ap, subst, arith}
use Rattle.std.specs.Prelude.{Option, Some, None, IfSome, IsTrue, slice_get}
use Rattle.std.specs.List.{list_all}
use Rattle.std.proofs.lemmas.Bool.{and_parts, leb-true}
use Rattle.std.proofs.lemmas.List.Sums.{sum_by-cons}
use Rattle.cfj_model.specs.declared.class.Class.{Class}
use Rattle.cfj_model.specs.declared.feature_model.Format.{Format}
use Rattle.cfj_model.specs.Coloring.{palette_of}
use Rattle.cfj_model.specs.Languages.{IsTextOf, projects, single_classes}
use Rattle.cfj_words.specs.Names.{is_short_identifier}
use Rattle.cfj_model.specs.Numbered.{is_numbered_class, IsNumbered}
use Rattle.cfj_model.specs.Print.{printed, class_text}
use Rattle.cfj_model.specs.ProductLines.{ProductLine, IsProject, are_distinct, is_class, class_size, size, most_size}
use Rattle.print_law.proofs.ClassRoles.{project_within, alone_within}
use Rattle.print_law.proofs.ClassTexts.{project_reads, class_reads, alone}
use Rattle.print_law.proofs.MarkTexts.{palette_with}
use Rattle.print_law.proofs.ClassTrees.{tree_of, tree_of_class, project_again, class_again}

-- the print of a numbered project is a text that stands for it
pub project_law : (p : ProductLine) → IsProject p → IsNumbered p → IsTextOf projects (printed p) p
project_law p k n =
    let r = project_reads p k in
    record { utf8 = r.utf8; tree = tree_of p; rest = r.rest; spelled = r.takes; ended = r.ended; within = project_within p k; valued = sym (project_again p k n) }

-- what holds of each of a list holds at a place
at_place : (ok : Class → Bool) (ks : List Class) (place : ℕ) (k : Class) → list_all ok ks ≡ true → slice_get ks place ≡ Some k → ok k ≡ true
at_place ok [] place k h e = absurd (let no : ⊥ = cc e in no)
at_place ok (c ∷ ks) zero k h e = let same : c ≡ k = cc e in subst (λ x. ok x ≡ true) same (and_parts (ok c) (list_all ok ks) h).0
at_place ok (c ∷ ks) (suc place) k h e = at_place ok ks place k (and_parts (ok c) (list_all ok ks) h).1 e

-- a class is no larger than all of them
size_at : (ks : List Class) (place : ℕ) (k : Class) → slice_get ks place ≡ Some k → class_size k ≤ size ks
size_at [] place k e = absurd (let no : ⊥ = cc e in no)
size_at (c ∷ ks) zero k e = let same : c ≡ k = cc e in let sum = sum_by-cons class_size c ks in omega (arith, sum, ap class_size same)
size_at (c ∷ ks) (suc place) k e = let sum = sum_by-cons class_size c ks in omega (arith, sum, size_at ks place k e)

-- the text of a numbered class that a project may keep is one that stands for it
pub class_law : (format : Format) (features : List (List ℕ)) (k : Class) → are_distinct features ≡ true → list_all is_short_identifier features ≡ true → is_class (palette_with format features) k ≡ true → class_size k ≤ most_size → is_numbered_class k ≡ true
    → IsTextOf (single_classes format features) (class_text features k) k
class_law format features k distinct well h fits n =
    let r = alone (class_reads (palette_with format features) features well k h) in
    record {
      utf8 = r.utf8;
      tree = tree_of_class features k;
      rest = r.rest;
      spelled = r.takes;
      ended = r.ended;
      within = alone_within format features k distinct well h fits;
      valued = sym (class_again (palette_with format features) features distinct refl k h n);
    }

-- and so is that of each class of a project
pub place_law : (p : ProductLine) (place : ℕ) (k : Class) → IsProject p → slice_get p.classes place ≡ Some k → is_numbered_class k ≡ true → IsTextOf (single_classes p.model.format p.model.features) (class_text p.model.features k) k
place_law p place k is e n =
    let least = size_at p.classes place k e in
    let all = leb-true (size p.classes) most_size is.fits in
    class_law p.model.format p.model.features k is.features_distinct is.features_named (at_place (is_class (palette_of p.model)) p.classes place k is.each_class e) (omega arith) n

-- where there is one at a place
pub found_law : (p : ProductLine) (place : ℕ) → IsProject p → (found : Option Class) → slice_get p.classes place ≡ found → IfSome found (λ k. IsTrue (is_numbered_class k))
    → IfSome found (λ k. IsTextOf (single_classes p.model.format p.model.features) (class_text p.model.features k) k)
found_law p place is None e n = tt
found_law p place is (Some k) e n = place_law p place k is e n
