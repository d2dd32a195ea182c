-- No public contract cites this: it serves the proofs.
-- Members of one name, by their alts.
use Rattle.std.specs.Prelude.{◌≡◌, ℕ, true, false, List}
use Rattle.cfj_model.specs.Members.{Placed, is_again, field_alts_rise, method_alts_rise}
use Rattle.cfj_model.specs.declared.class.Class.{Class}

-- an item, with those before it
abbrev pub behind : {A : Type 0} → List A → A → Placed A
behind before item = record { before = before; item = item }

-- a member whose alt is 0 is the first of its name
abbrev pub IsToldByAlt : {A : Type 0} → (A → List ℕ) → ℕ → Placed A → Type 0
IsToldByAlt name_of alt p = alt ≡ 0 → is_again name_of p ≡ false

-- of the members of one name in a class the later has the greater alt
pub record DoAltsRise (k : Class) : Type 0 where
  pub fields : field_alts_rise k.fields ≡ true
  pub methods : method_alts_rise k.methods ≡ true
