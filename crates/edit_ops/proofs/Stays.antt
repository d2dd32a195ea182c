-- What a project's type keeps stays where a class is added or goes.
use Rattle.std.proofs.Common.{◌≡◌, ℕ, zero, suc, ◌+◌, ◌≤◌, Bool, true, false, not, ◌&&◌, ◌||◌, cond, List, [], ◌∷◌, ◌++◌, length, map, take, drop, filter, position, nat_lt, nat_le, is_some, Some, None, refl, sym, ◌∙◌, ap, arith, add-one}
use Rattle.std.specs.List.{list_all, position_or_len, sum_by}
use Rattle.std.specs.Str.{bytes_eq}
use Rattle.std.proofs.lemmas.Bool.{and_parts, and_from, leb-true, le-leb, ltb-true}
use Rattle.std.proofs.lemmas.Slice.Eq.{bytes_eq-Decides}
use Rattle.std.proofs.lemmas.List.{length-append}
use Rattle.std.proofs.lemmas.List.Folds.{list_all-append}
use Rattle.std.proofs.lemmas.List.Sums.{sum_by-cons}
use Rattle.cfj_words.specs.Names.{is_among}
use Rattle.cfj_model.specs.Coloring.{palette_of}
use Rattle.cfj_model.specs.LookUps.{Table, declared, is_called}
use Rattle.cfj_model.specs.ProductLines.{ProductLine, IsProject, are_new, are_distinct, class_size, is_class, most_classes, most_size, size}
use Rattle.cfj_model.specs.declared.class.Class.{Class}
use Rattle.edit_ops.specs.Changes.{class_added, class_removed}

name_of : Class → List ℕ
name_of k = k.name

-- ---- one more class

not_among : (b : Bool) → b ≡ false → not b ≡ true
not_among b h = ap not h

pub not_true : (b : Bool) → not b ≡ true → b ≡ false
not_true true h = sym h
not_true false h = refl

-- names are among a longer list where they are among one of its parts
among_behind : (before : List (List ℕ)) (m n : List ℕ) (ns : List (List ℕ)) → is_among (before ++ m ∷ ns) n ≡ is_among ((before ++ m ∷ []) ++ ns) n
among_behind [] m n ns = refl
among_behind (b ∷ before) m n ns = ap (λ c. bytes_eq b n || c) (among_behind before m n ns)

among_nil : (before : List (List ℕ)) (n : List ℕ) → is_among (before ++ []) n ≡ is_among before n
among_nil [] n = refl
among_nil (b ∷ before) n = ap (λ c. bytes_eq b n || c) (among_nil before n)

new_last : (before ns : List (List ℕ)) (n : List ℕ) → are_new before ns ≡ true → is_among (before ++ ns) n ≡ false → are_new before (ns ++ n ∷ []) ≡ true
new_last before [] n new apart = and_from (not (is_among before n)) true (not_among (is_among before n) (sym (among_nil before n) ∙ apart)) refl
new_last before (m ∷ ns) n new apart =
    let parts = and_parts (not (is_among before m)) (are_new (before ++ m ∷ []) ns) new in
    and_from (not (is_among before m)) (are_new (before ++ m ∷ []) (ns ++ n ∷ [])) parts.0
    (new_last (before ++ m ∷ []) ns n parts.1 (sym (among_behind before m n ns) ∙ apart))

-- an undeclared name is none of the classes' names
undeclared : (p : Table) (n : List ℕ) → is_some (declared p n) ≡ false → is_among (map (λ k. k.name) p) n ≡ false
undeclared [] n none = refl
undeclared (k ∷ p) n none = by (undeclared p n) (bytes_eq k.name n) none
  where
    by : (is_some (declared p n) ≡ false → is_among (map (λ c. c.name) p) n ≡ false) → (b : Bool) → is_some (cond b (Some k) (declared p n)) ≡ false
        → (b || is_among (map (λ c. c.name) p) n) ≡ false
    by rest true h = absurd (cc h)
    by rest false h = rest h

map_last : (p : Table) (k : Class) → map (λ c. c.name) (p ++ k ∷ []) ≡ map (λ c. c.name) p ++ k.name ∷ []
map_last [] k = refl
map_last (x ∷ p) k = ap (λ ns. x.name ∷ ns) (map_last p k)

pub added_stays : (line : ProductLine) (k : Class) → IsProject line → is_class (palette_of line.model) k ≡ true → is_some (declared line.classes k.name) ≡ false
    → nat_lt (length line.classes) most_classes ≡ true → nat_le (size (line.classes ++ k ∷ [])) most_size ≡ true → IsProject (class_added k line)
added_stays line k is kept none few fits =
    record {
      few_features = is.few_features;
      features_named = is.features_named;
      features_distinct = is.features_distinct;
      few_formula_nodes = is.few_formula_nodes;
      each_constraint = is.each_constraint;
      few_classes =
          let longer = length-append line.classes (k ∷ []) in
          let below = ltb-true (length line.classes) most_classes few in
          le-leb (length (line.classes ++ k ∷ [])) most_classes (omega (arith, longer, below));
      classes_distinct = ap are_distinct (map_last line.classes k) ∙ new_last [] (map (λ c. c.name) line.classes) k.name is.classes_distinct (undeclared line.classes k.name none);
      each_class =
          list_all-append (is_class (palette_of line.model)) line.classes (k ∷ [])
          ∙ and_from (list_all (is_class (palette_of line.model)) line.classes) (is_class (palette_of line.model) k && true) is.each_class (and_from (is_class (palette_of line.model) k) true kept refl);
      fits = fits;
    }

-- ---- one class less

-- what isn't among the one list isn't among the other
abbrev IsLess : List (List ℕ) → List (List ℕ) → Type 0
IsLess fewer names = (n : List ℕ) → is_among names n ≡ false → is_among fewer n ≡ false

or_parts : (a b : Bool) → (a || b) ≡ false → (a ≡ false) × (b ≡ false)
or_parts true b h = absurd (cc h)
or_parts false b h = (refl, h)

or_both : (a b : Bool) → a ≡ false → b ≡ false → (a || b) ≡ false
or_both a b here there = ap (λ c. c || b) here ∙ there

pub among_last : (names : List (List ℕ)) (m n : List ℕ) → is_among (names ++ m ∷ []) n ≡ (is_among names n || (bytes_eq m n || false))
among_last [] m n = refl
among_last (x ∷ names) m n = ap (λ c. bytes_eq x n || c) (among_last names m n) ∙ or_assoc (bytes_eq x n) (is_among names n) (bytes_eq m n || false)
  where
    or_assoc : (a b c : Bool) → (a || (b || c)) ≡ ((a || b) || c)
    or_assoc true b c = refl
    or_assoc false b c = refl

less_more : (fewer names : List (List ℕ)) (m : List ℕ) → IsLess fewer names → IsLess fewer (names ++ m ∷ [])
less_more fewer names m less n apart = less n (or_parts (is_among names n) (bytes_eq m n || false) (sym (among_last names m n) ∙ apart)).0

less_both : (fewer names : List (List ℕ)) (m : List ℕ) → IsLess fewer names → IsLess (fewer ++ m ∷ []) (names ++ m ∷ [])
less_both fewer names m less n apart =
    let parts = or_parts (is_among names n) (bytes_eq m n || false) (sym (among_last names m n) ∙ apart) in
    among_last fewer m n ∙ or_both (is_among fewer n) (bytes_eq m n || false) (less n parts.0) parts.1

new_kept : (keeps : Class → Bool) (p : Table) (fewer names : List (List ℕ)) → IsLess fewer names → are_new names (map (λ k. k.name) p) ≡ true
    → are_new fewer (map (λ k. k.name) (filter keeps p)) ≡ true
new_kept keeps [] fewer names less new = refl
new_kept keeps (k ∷ p) fewer names less new =
    let parts = and_parts (not (is_among names k.name)) (are_new (names ++ k.name ∷ []) (map (λ c. c.name) p)) new in
    by (less k.name (not_true (is_among names k.name) parts.0))
    (new_kept keeps p (fewer ++ k.name ∷ []) (names ++ k.name ∷ []) (less_both fewer names k.name less) parts.1)
    (new_kept keeps p fewer (names ++ k.name ∷ []) (less_more fewer names k.name less) parts.1)
    (keeps k)
  where
    by : is_among fewer k.name ≡ false → are_new (fewer ++ k.name ∷ []) (map (λ c. c.name) (filter keeps p)) ≡ true → are_new fewer (map (λ c. c.name) (filter keeps p)) ≡ true
        → (b : Bool) → are_new fewer (map (λ c. c.name) (cond b (k ∷ filter keeps p) (filter keeps p))) ≡ true
    by apart with_it without_it true =
        and_from (not (is_among fewer k.name)) (are_new (fewer ++ k.name ∷ []) (map (λ c. c.name) (filter keeps p))) (not_among (is_among fewer k.name) apart) with_it
    by apart with_it without_it false = without_it

module _ {A : Type 0} (keeps : A → Bool) where
  pub all_kept : (test : A → Bool) (xs : List A) → list_all test xs ≡ true → list_all test (filter keeps xs) ≡ true
  all_kept test [] all = refl
  all_kept test (x ∷ xs) all =
      let parts = and_parts (test x) (list_all test xs) all in
      by parts.0 (all_kept test xs parts.1) (keeps x)
    where
      by : test x ≡ true → list_all test (filter keeps xs) ≡ true → (b : Bool) → list_all test (cond b (x ∷ filter keeps xs) (filter keeps xs)) ≡ true
      by here rest true = and_from (test x) (list_all test (filter keeps xs)) here rest
      by here rest false = rest

  pub fewer_kept : (xs : List A) → length (filter keeps xs) ≤ length xs
  fewer_kept [] = omega arith
  fewer_kept (x ∷ xs) = by (keeps x) (fewer_kept xs)
    where
      by : (b : Bool) → length (filter keeps xs) ≤ length xs → length (cond b (x ∷ filter keeps xs) (filter keeps xs)) ≤ suc (length xs)
      by true h = omega (arith, h)
      by false h = omega (arith, h)

  pub less_kept : (f : A → ℕ) (xs : List A) → sum_by f (filter keeps xs) ≤ sum_by f xs
  less_kept f [] = omega arith
  less_kept f (x ∷ xs) = by (keeps x) (less_kept f xs)
    where
      by : (b : Bool) → sum_by f (filter keeps xs) ≤ sum_by f xs → sum_by f (cond b (x ∷ filter keeps xs) (filter keeps xs)) ≤ sum_by f (x ∷ xs)
      by true h = let one = sum_by-cons f x (filter keeps xs) in let all = sum_by-cons f x xs in omega (arith, h, one, all)
      by false h = let all = sum_by-cons f x xs in omega (arith, h, all)

pub removed_stays : (line : ProductLine) (c : List ℕ) → IsProject line → IsProject (class_removed c line)
removed_stays line c is =
    let keeps : Class → Bool = λ k. not (is_called c k) in
    record {
      few_features = is.few_features;
      features_named = is.features_named;
      features_distinct = is.features_distinct;
      few_formula_nodes = is.few_formula_nodes;
      each_constraint = is.each_constraint;
      few_classes =
          let fewer = fewer_kept keeps line.classes in
          let few = leb-true (length line.classes) most_classes is.few_classes in
          le-leb (length (filter keeps line.classes)) most_classes (omega (arith, fewer, few));
      classes_distinct = new_kept keeps line.classes [] [] same is.classes_distinct;
      each_class = all_kept keeps (is_class (palette_of line.model)) line.classes is.each_class;
      fits =
          let smaller = less_kept keeps class_size line.classes in
          let fits = leb-true (size line.classes) most_size is.fits in
          le-leb (size (filter keeps line.classes)) most_size (omega (arith, smaller, fits));
    }
  where
    same : IsLess [] []
    same n h = h

-- ---- the class of a name is at one place

-- a class whose name is taken before isn't among those behind
none_behind : (c : List ℕ) (before : List (List ℕ)) (p : Table) → is_among before c ≡ true → are_new before (map (λ k. k.name) p) ≡ true → filter (λ k. not (is_called c k)) p ≡ p
none_behind c before [] taken new = refl
none_behind c before (k ∷ p) taken new =
    let parts = and_parts (not (is_among before k.name)) (are_new (before ++ k.name ∷ []) (map (λ x. x.name) p)) new in
    let other = differs (bytes_eq k.name c) refl (not_true (is_among before k.name) parts.0) in
    ap (λ b. cond (not b) (k ∷ filter (λ x. not (is_called c x)) p) (filter (λ x. not (is_called c x)) p)) other
    ∙ ap (λ ks. k ∷ ks) (none_behind c (before ++ k.name ∷ []) p (among_last before k.name c ∙ ap (λ b. b || (bytes_eq k.name c || false)) taken) parts.1)
  where
    differs : (b : Bool) → bytes_eq k.name c ≡ b → is_among before k.name ≡ false → b ≡ false
    differs false e apart = refl
    differs true e apart = absurd (cc (sym taken ∙ ap (is_among before) (sym ((bytes_eq-Decides k.name c).0 e)) ∙ apart))

pub or_true : (b : Bool) → (b || true) ≡ true
or_true true = refl
or_true false = refl

pub removed_at : (c : List ℕ) (before : List (List ℕ)) (p : Table) (place : ℕ) → are_new before (map (λ k. k.name) p) ≡ true → position_or_len (is_called c) p ≡ place
    → filter (λ k. not (is_called c k)) p ≡ take place p ++ drop (suc place) p
removed_at c before [] zero new at = refl
removed_at c before [] (suc n) new at = refl
removed_at c before (k ∷ p) place new at =
    let parts = and_parts (not (is_among before k.name)) (are_new (before ++ k.name ∷ []) (map (λ x. x.name) p)) new in
    by parts.1 (λ n. removed_at c (before ++ k.name ∷ []) p n parts.1) (bytes_eq k.name c) refl place at
  where
    by : are_new (before ++ k.name ∷ []) (map (λ x. x.name) p) ≡ true
        → ((n : ℕ) → position_or_len (is_called c) p ≡ n → filter (λ x. not (is_called c x)) p ≡ take n p ++ drop (suc n) p)
        → (b : Bool) → bytes_eq k.name c ≡ b → (n : ℕ) → cond (not b) (1 + position_or_len (is_called c) p) 0 ≡ n
        → cond (not b) (k ∷ filter (λ x. not (is_called c x)) p) (filter (λ x. not (is_called c x)) p) ≡ take n (k ∷ p) ++ drop (suc n) (k ∷ p)
    by new_rest rest true e zero is =
        none_behind c (before ++ k.name ∷ []) p (among_last before k.name c ∙ ap (λ b. is_among before c || (b || false)) e ∙ or_true (is_among before c)) new_rest
    by new_rest rest true e (suc n) is = absurd (let no : ⊥ = omega (arith, is) in no)
    by new_rest rest false e zero is = absurd (let no : ⊥ = omega (arith, is) in no)
    by new_rest rest false e (suc n) is =
        let behind : position_or_len (is_called c) p ≡ n = omega (arith, is) in
        ap (λ ks. k ∷ ks) (rest n behind)

pub removed_is : (line : ProductLine) (c : List ℕ) (place : ℕ) → IsProject line → position (is_called c) line.classes ≡ Some place
    → class_removed c line ≡ record line { classes = take place line.classes ++ drop (place + 1) line.classes }
removed_is line c place is at =
    let there = by (nat_lt first (length line.classes)) at in
    ap (λ ks. record line { classes = ks })
    (removed_at c [] line.classes place is.classes_distinct there ∙ ap (λ n. take place line.classes ++ drop n line.classes) (sym (add-one place)))
  where
    first : ℕ
    first = position_or_len (is_called c) line.classes

    by : (b : Bool) → cond b (Some first) None ≡ Some place → first ≡ place
    by true e = cc e
    by false e = absurd (cc e)
