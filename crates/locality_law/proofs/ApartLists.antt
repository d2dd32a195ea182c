-- What keeps the items of a list apart: keys that rise or are distinct, and labels that tell parts of it.
use Rattle.std.proofs.Common.{◌≡◌, ◌⊎◌, inl, inr, ℕ, ◌+◌, ◌≤◌, Bool, true, false, cond, not, ◌||◌, nat_le, nat_lt, List, [], ◌∷◌, ◌++◌, map, None, Some, refl, sym, ◌∙◌, ap, subst, arith}
use Rattle.std.specs.List.{find, flat_map, list_all}
use Rattle.std.specs.Str.{bytes_eq}
use Rattle.std.proofs.lemmas.Bool.{and_parts, leb-true, ltb-true}
use Rattle.cfj_model.specs.Members.{alts_rise}
use Rattle.cfj_model.specs.ProductLines.{are_distinct, rise_from}
use Rattle.cfj_words.specs.Lists.{Has}
use Rattle.class_table.proofs.Members.{all_has, find_none, has_cases, has_either, has_map, has_none, has_rest, is_name}
use Rattle.locality_law.specs.Apart.{AreApart}
use Rattle.locality_law.proofs.Items.{Each, IsAlone, distinct_alone, each_has, flat_has}

-- ---- keys

-- what rises comes behind
above_least : (least : ℕ) (ns : List ℕ) → rise_from least ns ≡ true → (n : ℕ) → Has ns n → least ≤ n
above_least least [] e n h = absurd (has_none n h)
above_least least (m ∷ ns) e n h = go (above_least (m + 1) ns parts.1 n) (has_cases m ns n h)
  where
    parts : (nat_le least m ≡ true) × (rise_from (m + 1) ns ≡ true)
    parts = and_parts (nat_le least m) (rise_from (m + 1) ns) e

    go : (Has ns n → m + 1 ≤ n) → (m ≡ n) ⊎ Has ns n → least ≤ n
    go ih (inl s) = let le = leb-true least m parts.0 in omega (arith, le, s)
    go ih (inr h) = let le = leb-true least m parts.0 in let more = ih h in omega (arith, le, more)

pub rising_apart : (least : ℕ) (ns : List ℕ) → rise_from least ns ≡ true → AreApart ns
rising_apart least [] e = tt
rising_apart least (n ∷ ns) e =
    let parts = and_parts (nat_le least n) (rise_from (n + 1) ns) e in
    (λ h. let le = above_least (n + 1) ns parts.1 n h in omega (arith, le), rising_apart (n + 1) ns parts.1)

pub alts_apart : (ns : List (List ℕ × ℕ)) → alts_rise ns ≡ true → AreApart ns
alts_apart [] e = tt
alts_apart (m ∷ ms) e = (never, alts_apart ms parts.1)
  where
    above : List ℕ × ℕ → Bool
    above n = not (bytes_eq n.0 m.0) || nat_lt m.1 n.1

    parts : (list_all above ms ≡ true) × (alts_rise ms ≡ true)
    parts = and_parts (list_all above ms) (alts_rise ms) e

    never : Has ms m → ⊥
    never h =
        let up : above m ≡ true = all_has above ms parts.0 m h in
        let lt : nat_lt m.1 m.1 ≡ true = sym (ap (λ b. not b || nat_lt m.1 m.1) (is_name m.0 m.0 refl)) ∙ up in
        let l = ltb-true m.1 m.1 lt in
        omega (arith, l)

alone_apart : (ns : List (List ℕ)) → ((n : List ℕ) → IsAlone (λ m. bytes_eq m n) ns) → AreApart ns
alone_apart [] h = tt
alone_apart (n ∷ ns) h = (
  λ here. let differs = find_none (λ m. bytes_eq m n) ns ((h n).0 (is_name n n refl)) n here in let none : ⊥ = cc (sym (is_name n n refl) ∙ differs) in none,
  alone_apart ns (λ m. (h m).1),
)

pub names_apart : {A : Type 0} (key : A → List ℕ) (xs : List A) → are_distinct (map key xs) ≡ true → AreApart (map key xs)
names_apart {A} key xs e = alone_apart (map key xs) (λ n. alone_mapped n xs (distinct_alone key n xs e))
  where
    none_mapped : (n : List ℕ) (ys : List A) → find (λ y. bytes_eq (key y) n) ys ≡ None → find (λ m. bytes_eq m n) (map key ys) ≡ None
    none_mapped n [] e = refl
    none_mapped n (y ∷ ys) e = go (bytes_eq (key y) n) (none_mapped n ys) e
      where
        go : (b : Bool) → (find (λ y. bytes_eq (key y) n) ys ≡ None → find (λ m. bytes_eq m n) (map key ys) ≡ None) → cond b (Some y) (find (λ y. bytes_eq (key y) n) ys) ≡ None
            → cond b (Some (key y)) (find (λ m. bytes_eq m n) (map key ys)) ≡ None
        go true ih e = absurd (let none : ⊥ = cc e in none)
        go false ih e = ih e

    alone_mapped : (n : List ℕ) (ys : List A) → IsAlone (λ y. bytes_eq (key y) n) ys → IsAlone (λ m. bytes_eq m n) (map key ys)
    alone_mapped n [] h = tt
    alone_mapped n (y ∷ ys) h = (λ t. none_mapped n ys (h.0 t), alone_mapped n ys h.1)

-- ---- parts

pub apart_both : {A : Type 0} (xs ys : List A) → AreApart xs → AreApart ys → ((x : A) → Has xs x → Has ys x → ⊥) → AreApart (xs ++ ys)
apart_both [] ys a b h = b
apart_both {A} (x ∷ xs) ys a b h = (λ there. go (has_either xs ys x there), apart_both xs ys a.1 b (λ z here. h z (has_rest x xs z here)))
  where
    go : Has xs x ⊎ Has ys x → ⊥
    go (inl here) = a.0 here
    go (inr there) = h x (0, refl) there

-- a test tells the parts
pub apart_tested : {A : Type 0} (test : A → Bool) (xs ys : List A) → AreApart xs → AreApart ys → Each (λ x. test x ≡ true) xs → Each (λ y. test y ≡ false) ys → AreApart (xs ++ ys)
apart_tested {A} test xs ys a b front back =
    apart_both xs ys a b (λ z here there. let none : ⊥ = cc (sym (each_has (λ (x : A). test x ≡ true) xs front z here) ∙ each_has (λ (y : A). test y ≡ false) ys back z there) in none)

-- a key that comes from another label is apart where the key is
pub apart_by : {A L : Type 0} (label : A → L) (xs : List A) → AreApart (map label xs) → AreApart xs
apart_by label [] a = tt
apart_by label (x ∷ xs) a = (λ here. a.0 (has_map label xs x here), apart_by label xs a.1)

-- what is made of items whose keys are apart, where a label of it is the item's key
pub apart_flat : {A B L : Type 0} (key : A → L) (label : B → L) (f : A → List B) (xs : List A) → Each (λ x. Each (λ y. label y ≡ key x) (f x)) xs → Each (λ x. AreApart (f x)) xs → AreApart (map key xs)
    → AreApart (flat_map f xs)
apart_flat key label f [] labels each a = tt
apart_flat {A} {B} {L} key label f (x ∷ xs) labels each a = apart_both (f x) (flat_map f xs) each.0 (apart_flat key label f xs labels.1 each.1 a.1) clash
  where
    clash : (y : B) → Has (f x) y → Has (flat_map f xs) y → ⊥
    clash y here there =
        let r = flat_has f xs y there in
        let mine : label y ≡ key x = each_has (λ (z : B). label z ≡ key x) (f x) labels.0 y here in
        let theirs : label y ≡ key r.0 = each_has (λ (z : B). label z ≡ key r.0) (f r.0) (each_has (λ (w : A). Each (λ (z : B). label z ≡ key w) (f w)) xs labels.1 r.0 r.1) y r.2 in
        a.0 (subst (Has (map key xs)) (sym theirs ∙ mine) (has_map key xs r.0 r.1))
