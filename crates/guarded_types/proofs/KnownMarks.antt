-- The marks along a chain are of the project's features.
use Rattle.std.proofs.Common.{◌≡◌, ℕ, zero, suc, ◌<◌, ◌^◌, ◌==◌, nat_lt, true, not, ◌&&◌, List, [], ◌∷◌, length, map, All, Bor, get_or, bit_and, bit_or, refl, arith}
use Rattle.std.specs.List.{filter, list_all}
use Rattle.std.specs.Prelude.{⊤}
use Rattle.std.specs.Str.{bytes_eq}
use Rattle.std.proofs.lemmas.Bool.{and_from, and_parts, ltb-true, lt-ltb}
use Rattle.std.proofs.lemmas.Nat.{or_lt, pow_pos}
use Rattle.std.proofs.lemmas.List.Elements.{All-append, All-map, All-nil}
use Rattle.cfj_logic.specs.Sides.{Sides, is_over}
use Rattle.cfj_model.specs.Coloring.{Palette, are_known, no_colors, palette_of}
use Rattle.cfj_model.specs.LookUps.{chain}
use Rattle.cfj_model.specs.ProductLines.{IsProject, ProductLine, are_distinct, are_fields, are_methods, are_params, is_body, is_class, is_ctor, is_field, is_method, most_params, object}
use Rattle.cfj_model.specs.Projection.{presence_of}
use Rattle.cfj_model.specs.declared.class.Class.{Class}
use Rattle.cfj_model.specs.declared.class.Field.{Field}
use Rattle.cfj_model.specs.declared.class.Method.{Method}
use Rattle.cfj_model.specs.declared.class.Param.{Param}
use Rattle.cfj_words.specs.Lists.{Has}
use Rattle.cfj_words.specs.Names.{is_short_identifier}
use Rattle.class_table.proofs.Members.{all_has, filter_has, has_rest}
use Rattle.class_table.proofs.Without.{declared_has}
use Rattle.locality_law.proofs.Items.{Each}
use Rattle.locality_law.proofs.SeenChains.{chain_all}
use Rattle.guarded_types.specs.Along.{along, behind, read, typed_fields}
use Rattle.guarded_types.specs.Declarations.{named_methods}
use Rattle.guarded_types.specs.Declarations.{read as read_declarations}
use Rattle.guarded_types.specs.declared.marked.Marked.{Marked}
use Rattle.guarded_types.specs.declared.methods.Declaration.{Declaration}

abbrev IsOver : ℕ → Sides → Type 0
IsOver n m = is_over n m ≡ true

pub over_none : (n : ℕ) → IsOver n no_colors
over_none n = and_from (nat_lt 0 (2 ^ n)) (nat_lt 0 (2 ^ n)) zero_lt zero_lt
  where
    zero_lt : nat_lt 0 (2 ^ n) ≡ true
    zero_lt = lt-ltb 0 (2 ^ n) (pow_pos n)

pub over_both : (n : ℕ) (a b : Sides) → IsOver n a → IsOver n b → IsOver n (presence_of a b)
over_both n a b left right =
    let l = and_parts (nat_lt a.on (2 ^ n)) (nat_lt a.off (2 ^ n)) left in
    let r = and_parts (nat_lt b.on (2 ^ n)) (nat_lt b.off (2 ^ n)) right in
    and_from (nat_lt (bit_or a.on b.on) (2 ^ n)) (nat_lt (bit_or a.off b.off) (2 ^ n))
    (lt-ltb (bit_or a.on b.on) (2 ^ n) (or_lt n a.on b.on (ltb-true a.on (2 ^ n) l.0) (ltb-true b.on (2 ^ n) r.0)))
    (lt-ltb (bit_or a.off b.off) (2 ^ n) (or_lt n a.off b.off (ltb-true a.off (2 ^ n) l.1) (ltb-true b.off (2 ^ n) r.1)))

known_over : (q : Palette) (c : Sides) → are_known q c ≡ true → IsOver q.features c
known_over q c e = (and_parts (is_over q.features c) (bit_and c.on c.off == 0) (and_parts (is_over q.features c && (bit_and c.on c.off == 0)) _ e).0).0

-- what a class has is marked with features of the project
pub record IsMarkedOver (n : ℕ) (k : Class) : Type 0 where
  pub class : IsOver n k.colors
  pub fields : (f : Field) → Has k.fields f → IsOver n f.colors
  pub methods : (m : Method) → Has k.methods m → IsOver n m.colors

method_over : (q : Palette) (m : Method) → is_method q m ≡ true → IsOver q.features m.colors
unfolding is_method
method_over q m e =
    let a = and_parts _ (is_body q m.body) e in
    let b = and_parts _ (are_distinct (map (λ (p : Param). p.name) m.params)) a.0 in
    let c = and_parts _ (are_params most_params q m.params) b.0 in
    let d = and_parts _ (is_short_identifier m.name) c.0 in
    known_over q m.colors (and_parts (are_known q m.colors) (is_short_identifier m.result) d.0).0

class_over : (q : Palette) (k : Class) → is_class q k ≡ true → IsMarkedOver q.features k
unfolding is_class
class_over q k e =
    let a = and_parts _ (are_methods q k.methods) e in
    let b = and_parts _ (is_ctor q k.ctor) a.0 in
    let c = and_parts _ (are_fields q k.fields) b.0 in
    let d = and_parts _ (is_short_identifier k.parent) c.0 in
    let fields = and_parts _ (list_all (is_field q) k.fields) c.1 in
    record {
      class = known_over q k.colors (and_parts (is_short_identifier k.name && not (bytes_eq k.name object)) (are_known q k.colors) d.0).1;
      fields = λ f h.
          let named = and_parts (are_known q f.colors && is_short_identifier f.of) (is_short_identifier f.name) (all_has (is_field q) k.fields fields.1 f h) in
          known_over q f.colors (and_parts (are_known q f.colors) (is_short_identifier f.of) named.0).0;
      methods = λ m h. method_over q m (all_has (is_method q) k.methods (and_parts _ (list_all (is_method q) k.methods) a.1).1 m h);
    }

-- each class of a chain
pub chain_over : (line : ProductLine) → IsProject line → (c : List ℕ) → Each (IsMarkedOver (length line.model.features)) (chain line.classes c)
chain_over line project c =
    chain_all (λ n. ⊤) (IsMarkedOver (length line.model.features)) line.classes (λ n k at d. tt)
    (λ n k at d. class_over (palette_of line.model) k (all_has (is_class (palette_of line.model)) line.classes project.each_class k (declared_has line.classes n k d))) c tt

module _ {A : Type 0} (n : ℕ) where
  abbrev AreOver : List (Marked A) → Type 0
  AreOver xs = All (λ (x : Marked A). IsOver n x.marks) xs

  behind_over : (up : Sides) (xs : List (Marked A)) → IsOver n up → AreOver xs → AreOver (map (behind up) xs)
  behind_over up xs over all =
      All-map (λ (x : Marked A). IsOver n x.marks) (behind up) xs (λ k d lt. over_both n up (get_or xs k d).marks over (all k d lt))

  -- so what is declared along them is
  pub along_over : (own : Class → List (Marked A)) → ((k : Class) → IsMarkedOver n k → AreOver (own k)) → (up : Sides) → IsOver n up → (ks : List Class) → Each (IsMarkedOver n) ks → AreOver (along own up ks)
  along_over own each up over [] all = All-nil (λ (x : Marked A). IsOver n x.marks)
  along_over own each up over (k ∷ ks) all =
      let here : IsOver n (presence_of up k.colors) = over_both n up k.colors over all.0.class in
      All-append (λ (x : Marked A). IsOver n x.marks) (map (behind (presence_of up k.colors)) (own k)) (along own (presence_of up k.colors) ks)
      (behind_over (presence_of up k.colors) (own k) here (each k all.0)) (along_over own each (presence_of up k.colors) here ks all.1)

  -- so are references to it
  pub read_over : (xs : List (Marked (Bor A))) → All (λ (x : Marked A). IsOver n x.marks) (read xs) → All (λ (x : Marked (Bor A)). IsOver n x.marks) xs
  read_over [] all k d lt = absurd (omega (arith, lt))
  read_over (x ∷ xs) all zero d lt = all 0 (record { marks = d.marks; item = d.item.now }) (omega arith)
  read_over (x ∷ xs) all (suc k) d lt = read_over xs (λ j e below. all (suc j) e (omega (arith, below))) k d (omega (arith, lt))

-- what stands at a place of a list is in it
pub has_at : {A : Type 0} (xs : List A) (k : ℕ) (d : A) → k < length xs → Has xs (get_or xs k d)
has_at [] k d lt = absurd (omega (arith, lt))
has_at (x ∷ xs) zero d lt = (0, refl)
has_at (x ∷ xs) (suc k) d lt = has_rest x xs (get_or xs k d) (has_at xs k d (omega (arith, lt)))

-- items of a list that each are over the features
listed_over : {A B : Type 0} (n : ℕ) (make : A → Marked B) (xs : List A) → ((x : A) → Has xs x → IsOver n (make x).marks) → All (λ (x : Marked B). IsOver n x.marks) (map make xs)
listed_over {A} {B} n make xs h = All-map (λ (x : Marked B). IsOver n x.marks) make xs (λ k d lt. h (get_or xs k d) (has_at xs k d lt))

pub fields_over : (n : ℕ) (f : List ℕ) (k : Class) → IsMarkedOver n k → All (λ (x : Marked (List ℕ)). IsOver n x.marks) (typed_fields f k)
fields_over n f k over =
    listed_over n (λ (d : Field). let m : Marked (List ℕ) = record { marks = d.colors; item = d.of } in m) (filter (λ d. bytes_eq d.name f) k.fields)
    (λ d h. over.fields d (filter_has (λ d. bytes_eq d.name f) k.fields d h).0)

pub fields_along_over : (line : ProductLine) → IsProject line → (c f : List ℕ) → All (λ (x : Marked (List ℕ)). IsOver (length line.model.features) x.marks) (along (typed_fields f) no_colors (chain line.classes c))
fields_along_over line project c f =
    let n = length line.model.features in
    along_over n (typed_fields f) (fields_over n f) no_colors (over_none n) (chain line.classes c) (chain_over line project c)

pub methods_over : (n : ℕ) (m : List ℕ) (k : Class) → IsMarkedOver n k → All (λ (x : Marked (Class × Method)). IsOver n x.marks) (named_methods m k)
methods_over n m k over =
    listed_over n (λ (d : Method). let x : Marked (Class × Method) = record { marks = d.colors; item = (k, d) } in x) (filter (λ d. bytes_eq d.name m) k.methods)
    (λ d h. over.methods d (filter_has (λ d. bytes_eq d.name m) k.methods d h).0)

pub methods_along_over : (line : ProductLine) → IsProject line → (c m : List ℕ)
    → All (λ (x : Marked (Class × Method)). IsOver (length line.model.features) x.marks) (along (named_methods m) no_colors (chain line.classes c))
methods_along_over line project c m =
    let n = length line.model.features in
    along_over n (named_methods m) (methods_over n m) no_colors (over_none n) (chain line.classes c) (chain_over line project c)

pub declarations_over : (n : ℕ) (xs : List (Marked Declaration)) → All (λ (x : Marked (Class × Method)). IsOver n x.marks) (read_declarations xs) → All (λ (x : Marked Declaration). IsOver n x.marks) xs
declarations_over n [] all k d lt = absurd (omega (arith, lt))
declarations_over n (x ∷ xs) all zero d lt = all 0 (record { marks = x.marks; item = (x.item.class.now, x.item.method.now) }) (omega arith)
declarations_over n (x ∷ xs) all (suc k) d lt = declarations_over n xs (λ j e below. all (suc j) e (omega (arith, below))) k d (omega (arith, lt))
