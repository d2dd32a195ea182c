-- The declarations of methods that a variant's look-up finds.
use Rattle.std.proofs.Common.{◌≡◌, ℕ, List, [], ◌∷◌, ◌++◌, map, refl, sym, true, ◌∙◌, ap, ap₂}
use Rattle.std.specs.List.{filter}
use Rattle.std.specs.Str.{bytes_eq}
use Rattle.std.proofs.lemmas.Simd.{map-map}
use Rattle.cfj_logic.specs.Selections.{Chosen}
use Rattle.cfj_logic.specs.Sides.{Sides}
use Rattle.cfj_model.specs.Coloring.{no_colors}
use Rattle.cfj_model.specs.LookUps.{chain}
use Rattle.cfj_model.specs.ProductLines.{IsProject, ProductLine}
use Rattle.cfj_model.specs.Projection.{is_present, presence_of, projected, projected_method}
use Rattle.cfj_model.specs.declared.class.Class.{Class}
use Rattle.cfj_model.specs.declared.class.Method.{Method}
use Rattle.cond_circuit.specs.Gates.{Gates, value}
use Rattle.guarded_seq.specs.Sequences.{present}
use Rattle.guarded_seq.specs.declared.guarded.Guarded.{Guarded}
use Rattle.guarded_types.proofs.FirstDeclared.{Declared, along_told, guarded_first, own, told_of}
use Rattle.guarded_types.specs.Along.{along, at_most_one, behind}
use Rattle.guarded_types.specs.Declarations.{declaration_of, left_of, named_methods, read}
use Rattle.guarded_types.specs.Within.{IsOfFirst}
use Rattle.guarded_types.specs.declared.marked.Marked.{Marked}
use Rattle.guarded_types.specs.declared.methods.Declaration.{Declaration}

-- the methods of this name among these, each with the class
abbrev pub named_in : List ℕ → Class → List Method → List (Marked (Class × Method))
named_in m k ds = map (λ d. record { marks = d.colors; item = (k, d) }) (filter (λ d. bytes_eq d.name m) ds)

-- methods of a name, by their classes
methods_of : List ℕ → Declared Method (List ℕ × Method)
methods_of m = record {
  items = λ k. k.methods;
  colors = λ d. d.colors;
  named = λ d. bytes_eq d.name m;
  left = λ s k d. projected_method s k.colors d;
  line = λ s k d. (k.name, projected_method s k.colors d);
  variant = λ k d. (k.name, d);
  same_name = λ s k d. refl;
  same_told = λ s k d. refl;
  items_left = λ s k. refl;
}

left_in : Chosen → Class × Method → List ℕ × Method
left_in s x = (x.0.name, projected_method s x.0.colors x.1)

-- what a variant has of each
told_read : (s : Chosen) (items : List (Marked Declaration)) → told_of (left_of s) items ≡ told_of (left_in s) (read items)
unfolding left_in
told_read s items =
    sym (map-map (λ (x : Marked (Class × Method)). let y : Marked (List ℕ × Method) = record { marks = x.marks; item = left_in s x.item } in y)
    (λ (x : Marked Declaration). let y : Marked (Class × Method) = record { marks = x.marks; item = (x.item.class.now, x.item.method.now) } in y) items)

module _ (s : Chosen) (m : List ℕ) where
  own_told : (k : Class) → told_of (left_in s) (named_methods m k) ≡ own (methods_of m) s k
  unfolding left_in methods_of
  own_told k =
      map-map (λ (x : Marked (Class × Method)). let y : Marked (List ℕ × Method) = record { marks = x.marks; item = left_in s x.item } in y)
      (λ (d : Method). let y : Marked (Class × Method) = record { marks = d.colors; item = (k, d) } in y) (filter (λ d. bytes_eq d.name m) k.methods)

  along_same : (up : Sides) (ks : List Class) → along (λ k. told_of (left_in s) (named_methods m k)) up ks ≡ along (own (methods_of m) s) up ks
  along_same up [] = refl
  along_same up (k ∷ ks) =
      ap₂ (λ v w. map (behind (presence_of up k.colors)) v ++ w) (own_told k) (along_same (presence_of up k.colors) ks)

pub methods_guarded : (line : ProductLine) → IsProject line → (c m : List ℕ) (w : Sides) (g : Gates) (found : List (Guarded Declaration)) (items : List (Marked Declaration))
    → read items ≡ along (named_methods m) no_colors (chain line.classes c) → IsOfFirst g w found items
    → (s : Chosen) → is_present s w ≡ true → map (left_of s) (present (value s g.parts) found) ≡ at_most_one (declaration_of (projected s line).classes c m)
unfolding methods_of
methods_guarded line project c m w g found items is of s within =
    guarded_first (methods_of m) line project c w g found items of s within (left_of s)
    (told_read s items
    ∙ ap (told_of (left_in s)) is
    ∙ along_told (left_in s) (named_methods m) no_colors (chain line.classes c)
    ∙ along_same s m no_colors (chain line.classes c))
