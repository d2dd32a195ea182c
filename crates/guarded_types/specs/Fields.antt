-- No public contract cites this: it serves the proofs.
-- The fields of the classes of a chain, by their own marks.
use Rattle.std.specs.Prelude.{◌≡◌, ℕ, true, List, [], ◌∷◌, ◌++◌, All, filter}
use Rattle.cfj_logic.specs.Selections.{Chosen}
use Rattle.cfj_logic.specs.Sides.{Sides, is_over}
use Rattle.cfj_model.specs.Projection.{is_present, presence_of}
use Rattle.cfj_model.specs.declared.class.Class.{Class}
use Rattle.cfj_model.specs.declared.class.Field.{Field}

-- fields are marked with features of so many
abbrev pub AreFieldsOver : ℕ → List Field → Type 0
AreFieldsOver n fs = All (λ f. is_over n f.colors ≡ true) fs

-- the marks of classes together, behind these
abbrev pub up_of : Sides → List Class → Sides
up_of up [] = up
up_of up (k ∷ ks) = up_of (presence_of up k.colors) ks

-- the fields of classes whose own marks hold, the last class's first
abbrev pub own_fields : Chosen → List Class → List Field
own_fields s [] = []
own_fields s (k ∷ ks) = own_fields s ks ++ filter (λ f. is_present s f.colors) k.fields
