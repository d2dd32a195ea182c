-- Alternative members: several fields, or several methods, of one name in a class, told apart by their alts.
use Rattle.std.specs.Prelude.{ℕ, Bool, true, not, ◌&&◌, ◌||◌, ◌==◌, nat_lt, List, [], ◌∷◌, ◌++◌, length, map, filter}
use Rattle.std.specs.List.{list_all}
use Rattle.std.specs.Str.{bytes_eq}
use Rattle.cfj_words.specs.Names.{is_among}
use Rattle.cfj_model.specs.declared.class.Field.{Field}
use Rattle.cfj_model.specs.declared.class.Method.{Method}

-- an item of a list, with those before it
pub record Placed (A : Type 0) : Type 0 where
  pub before : List A
  pub item : A

-- the items of a list behind these, each with all before it
abbrev pub placed_behind : {A : Type 0} → List A → List A → List (Placed A)
placed_behind before [] = []
placed_behind before (x ∷ xs) = record { before = before; item = x } ∷ placed_behind (before ++ x ∷ []) xs

-- each item of a list with those before it
abbrev pub placed : {A : Type 0} → List A → List (Placed A)
placed xs = placed_behind [] xs

-- how many before it have its name
abbrev pub namesakes : {A : Type 0} → (A → List ℕ) → Placed A → ℕ
namesakes name_of p = length (filter (λ x. bytes_eq (name_of x) (name_of p.item)) p.before)

-- one before it has its name
abbrev pub is_again : {A : Type 0} → (A → List ℕ) → Placed A → Bool
is_again name_of p = is_among (map name_of p.before) (name_of p.item)

abbrev pub field_name_of : Field → List ℕ
field_name_of f = f.name

abbrev pub method_name_of : Method → List ℕ
method_name_of m = m.name

-- each alt is the number of the namesakes before
abbrev pub numbered_fields : List Field → List Field
numbered_fields fs = map (λ p. record p.item { alt = namesakes field_name_of p }) (placed fs)

abbrev pub numbered_methods : List Method → List Method
numbered_methods ms = map (λ p. record p.item { alt = namesakes method_name_of p }) (placed ms)

-- so it stands there already
abbrev pub are_fields_numbered : List Field → Bool
are_fields_numbered fs = list_all (λ p. p.item.alt == namesakes field_name_of p) (placed fs)

abbrev pub are_methods_numbered : List Method → Bool
are_methods_numbered ms = list_all (λ p. p.item.alt == namesakes method_name_of p) (placed ms)

-- Of names with alts: a later one of the same name has a greater alt.
abbrev pub alts_rise : List (List ℕ × ℕ) → Bool
alts_rise [] = true
alts_rise (m ∷ ms) = list_all (λ n. not (bytes_eq n.0 m.0) || nat_lt m.1 n.1) ms && alts_rise ms

abbrev pub field_alts_rise : List Field → Bool
field_alts_rise fs = alts_rise (map (λ f. (f.name, f.alt)) fs)

abbrev pub method_alts_rise : List Method → Bool
method_alts_rise ms = alts_rise (map (λ m. (m.name, m.alt)) ms)
