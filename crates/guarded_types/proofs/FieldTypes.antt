-- The types of fields that a variant's look-up finds.
use Rattle.std.proofs.Common.{◌≡◌, ℕ, List, map, Bor, option_map, refl, sym, true, ◌∙◌, ap}
use Rattle.std.specs.List.{filter}
use Rattle.std.specs.Str.{bytes_eq}
use Rattle.cfj_logic.specs.Selections.{Chosen}
use Rattle.cfj_logic.specs.Sides.{Sides}
use Rattle.cfj_model.specs.Coloring.{no_colors}
use Rattle.cfj_model.specs.LookUps.{chain, field_called, field_of}
use Rattle.cfj_model.specs.ProductLines.{IsProject, ProductLine}
use Rattle.cfj_model.specs.Projection.{bare_field, is_present, projected}
use Rattle.cfj_model.specs.declared.class.Field.{Field}
use Rattle.cond_circuit.specs.Gates.{Gates, value}
use Rattle.guarded_seq.specs.Sequences.{present}
use Rattle.guarded_seq.specs.declared.guarded.Guarded.{Guarded}
use Rattle.guarded_types.proofs.FirstDeclared.{Declared, first_told, guarded_first}
use Rattle.guarded_types.specs.Along.{along, at_most_one, read, typed_fields}
use Rattle.guarded_types.specs.Within.{IsOfFirst}
use Rattle.guarded_types.specs.declared.marked.Marked.{Marked}

-- the types of the fields of this name among these
abbrev pub typed_in : List ℕ → List Field → List (Marked (List ℕ))
typed_in f fs = map (λ d. record { marks = d.colors; item = d.of }) (filter (λ d. bytes_eq d.name f) fs)

-- fields of a name, by their types
field_types_of : List ℕ → Declared Field (List ℕ)
field_types_of f = record {
  items = λ k. k.fields;
  colors = λ d. d.colors;
  named = λ d. bytes_eq d.name f;
  left = λ s k d. bare_field d;
  line = λ s k d. d.of;
  variant = λ k d. d.of;
  same_name = λ s k d. refl;
  same_told = λ s k d. refl;
  items_left = λ s k. refl;
}

pub fields_guarded : (line : ProductLine) → IsProject line → (c f : List ℕ) (w : Sides) (g : Gates) (found : List (Guarded (Bor (List ℕ)))) (items : List (Marked (Bor (List ℕ))))
    → read items ≡ along (typed_fields f) no_colors (chain line.classes c) → IsOfFirst g w found items
    → (s : Chosen) → is_present s w ≡ true → map (λ (t : Bor (List ℕ)). t.now) (present (value s g.parts) found) ≡ at_most_one (option_map (λ (d : Field). d.of) (field_of (projected s line).classes c f))
unfolding field_types_of
fields_guarded line project c f w g found items is of s within =
    guarded_first (field_types_of f) line project c w g found items of s within (λ (t : Bor (List ℕ)). t.now) is
    ∙ ap at_most_one (sym (first_told (λ (d : Field). d.of) (field_called f) (chain (projected s line).classes c)))
