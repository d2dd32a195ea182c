-- Where the contents of a fact stand: in a feature model, in a class, or at a method of a class.
use Rattle.std.specs.Prelude.{◌≡◌, ◌≤◌, ℕ, true, List, drop, length, map, filter, slice_get, Some}
use Rattle.std.specs.Borrow.{Bor}
use Rattle.std.specs.Str.{bytes_eq}
use Rattle.cfj_model.specs.declared.class.Class.{Class}
use Rattle.cfj_model.specs.declared.class.Method.{Method}
use Rattle.cfj_model.specs.declared.feature_model.FeatureModel.{FeatureModel}
use Rattle.unit_facts.specs.Facts.{Contents, Signature, absent, class_is, head_is, head_of, if_some, method_is}
use Rattle.unit_facts.specs.Facts.{model_is, own_of, signature_of, signatures_are, signatures_of}
use Rattle.unit_keys.specs.declared.part.Part.{Part}
use Rattle.unit_keys.specs.declared.part.Part.TheVariants as part
use Rattle.unit_keys.specs.declared.seen.Seen.{Seen}
use Rattle.unit_keys.specs.declared.seen.Seen.TheVariants as seen

-- what holds of the method at a place of a class
abbrev pub at_place : (Method → Contents) → Class → ℕ → Contents
at_place holds k place = if_some holds (slice_get k.methods place)

-- the contents of a part, whose class and model are read so
abbrev pub contents_by : {C M : Type 0} → (C → Class) → (M → FeatureModel) → Part C M → Contents
contents_by class_of model_of part.Absent = absent
contents_by class_of model_of (part.Model m) = model_is (model_of m)
contents_by class_of model_of (part.Head c) = head_is (head_of (class_of c))
contents_by class_of model_of (part.Signatures c i) =
    at_place (λ d. signatures_are (signatures_of d.name (class_of c))) (class_of c) i
contents_by class_of model_of (part.Own c) = class_is (own_of (class_of c))
contents_by class_of model_of (part.Method c i) = at_place method_is (class_of c) i

-- of a part that is lent
abbrev pub lent_contents : Part (Bor Class) (Bor FeatureModel) → Contents
lent_contents p = contents_by (λ c. c.now) (λ m. m.now) p

-- of a part that is kept
abbrev pub kept_contents : Part Class FeatureModel → Contents
kept_contents p = contents_by (λ c. c) (λ m. m) p

-- the signatures of those of these methods that have this name
abbrev pub signatures_among : List ℕ → List Method → List Signature
signatures_among m ds = map signature_of (filter (λ d. bytes_eq d.name m) ds)

-- the contents of a part that is looked at
abbrev pub seen_contents : Seen → Contents
seen_contents seen.Absent = absent
seen_contents (seen.Model m) = model_is m.now
seen_contents (seen.Head k) = head_is (head_of k.now)
seen_contents (seen.Signatures k d) = signatures_are (signatures_of d.now.name k.now)
seen_contents (seen.Own k) = class_is (own_of k.now)
seen_contents (seen.Method d) = method_is d.now

-- Of these methods the one at this place is the first from a place on that has this name; none has, where the place is
-- their number.
pub record IsNextNamed (m : List ℕ) (ds : List Method) (from place : ℕ) : Type 0 where
  pub from_on : from ≤ place
  pub within : place ≤ length ds
  pub none_before : signatures_among m (drop from ds) ≡ signatures_among m (drop place ds)
  pub named : (d : Method) → slice_get ds place ≡ Some d → bytes_eq d.name m ≡ true
