-- Numbering sees the names of members alone: those that trees stand for are numbered as those that the trees were made of.
use Rattle.std.proofs.Common.{◌≡◌, ℕ, suc, Bool, true, false, cond, List, [], ◌∷◌, ◌++◌, length, map, filter, refl, sym, ap, ◌∙◌, bytes_eq}
use Rattle.std.specs.List.{list_all}
use Rattle.std.proofs.lemmas.Bool.{and_parts}
use Rattle.std.proofs.lemmas.List.{map-append}
use Rattle.cfj_model.specs.declared.class.Field.{Field}
use Rattle.cfj_model.specs.declared.class.Method.{Method}
use Rattle.cfj_model.specs.Members.{placed_behind, namesakes, field_name_of, method_name_of, numbered_fields, numbered_methods}

module _ {A B : Type 0} (name_of : A → List ℕ) (with_alt : A → ℕ → A) (value : B → A) (tree : A → B) (ok : A → Bool) where
  -- these, numbered behind others
  abbrev numbered_behind : List A → List A → List A
  numbered_behind before xs = map (λ p. with_alt p.item (namesakes name_of p)) (placed_behind before xs)

  -- what the trees of these stand for
  abbrev again : List A → List A
  again xs = map value (map tree xs)

  module _ (named : (x : A) → name_of (value (tree x)) ≡ name_of x) (alike : (x : A) (n : ℕ) → ok x ≡ true → with_alt (value (tree x)) n ≡ with_alt x n) where
    -- those before have as many namesakes
    same_namesakes : (before : List A) (w : List ℕ) → length (filter (λ y. bytes_eq (name_of y) w) (again before)) ≡ length (filter (λ y. bytes_eq (name_of y) w) before)
    same_namesakes [] w = refl
    same_namesakes (y ∷ ys) w =
        let is : A → Bool = λ z. bytes_eq (name_of z) w in
        ap (λ n. length (cond (bytes_eq n w) (value (tree y) ∷ filter is (again ys)) (filter is (again ys)))) (named y)
        ∙ both (is y) (same_namesakes ys w)
      where
        both : (b : Bool) → length (filter (λ z. bytes_eq (name_of z) w) (again ys)) ≡ length (filter (λ z. bytes_eq (name_of z) w) ys)
            → length (cond b (value (tree y) ∷ filter (λ z. bytes_eq (name_of z) w) (again ys)) (filter (λ z. bytes_eq (name_of z) w) (again ys))) ≡ length (cond b (y ∷ filter (λ z. bytes_eq (name_of z) w) ys) (filter (λ z. bytes_eq (name_of z) w) ys))
        both true e = ap suc e
        both false e = e

    -- and so each gets the same alt
    numbered_alike : (before xs : List A) → list_all ok xs ≡ true → numbered_behind (again before) (again xs) ≡ numbered_behind before xs
    numbered_alike before [] h = refl
    numbered_alike before (x ∷ xs) h =
        let p = and_parts (ok x) (list_all ok xs) h in
        let y = value (tree x) in
        let others = numbered_behind (again before ++ y ∷ []) (again xs) in
        let same : namesakes name_of (record { before = again before; item = y }) ≡ namesakes name_of (record { before = before; item = x }) =
        ap (λ w. length (filter (λ z. bytes_eq (name_of z) w) (again before))) (named x) ∙ same_namesakes before (name_of x) in
        let longer : again (before ++ x ∷ []) ≡ again before ++ y ∷ [] =
        ap (map value) (map-append tree before (x ∷ [])) ∙ map-append value (map tree before) (tree x ∷ []) in
        ap (λ n. with_alt y n ∷ others) same
        ∙ ap (λ z. z ∷ others) (alike x (namesakes name_of (record { before = before; item = x })) p.0)
        ∙ ap (λ zs. with_alt x (namesakes name_of (record { before = before; item = x })) ∷ zs) (ap (λ bs. numbered_behind bs (again xs)) (sym longer) ∙ numbered_alike (before ++ x ∷ []) xs p.1)

-- ---- fields

module _ {B : Type 0} (value : B → Field) (tree : Field → B) (ok : Field → Bool) (named : (f : Field) → (value (tree f)).name ≡ f.name) (alike : (f : Field) (n : ℕ) → ok f ≡ true → record (value (tree f)) { alt = n } ≡ record f { alt = n }) where
  pub fields_alike : (fs : List Field) → list_all ok fs ≡ true → numbered_fields (map value (map tree fs)) ≡ numbered_fields fs
  fields_alike fs h = numbered_alike field_name_of (λ f n. record f { alt = n }) value tree ok named alike [] fs h

-- ---- methods

module _ {B : Type 0} (value : B → Method) (tree : Method → B) (ok : Method → Bool) (named : (m : Method) → (value (tree m)).name ≡ m.name) (alike : (m : Method) (n : ℕ) → ok m ≡ true → record (value (tree m)) { alt = n } ≡ record m { alt = n }) where
  pub methods_alike : (ms : List Method) → list_all ok ms ≡ true → numbered_methods (map value (map tree ms)) ≡ numbered_methods ms
  methods_alike ms h = numbered_alike method_name_of (λ m n. record m { alt = n }) value tree ok named alike [] ms h
