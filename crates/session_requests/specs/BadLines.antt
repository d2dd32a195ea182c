-- Why a line is no request: its first cause.
use Rattle.std.specs.Prelude.{◌≡◌, ℕ, ◌||◌, Bool, not, List, [], ◌∷◌, codes, find}
use Rattle.std.specs.Prelude.{Option, option_and_then, Some, None, is_none, IsSome}
use Rattle.std.specs.List.{list_any}
use Rattle.std.specs.Str.{bytes_eq}
use Rattle.serde_json.specs.Data.{Data, string, Members, no_members, member}
use Rattle.serde_json.specs.Find.{get, as_object}
use Rattle.session_requests.specs.Ops.{op_text, key, fields}
use Rattle.session_requests.specs.Fields.{HasAllRight, IsFirstWrong}
use Rattle.session_requests.specs.declared.op.Op.{Op}
use Rattle.session_requests.specs.declared.field.Field.{Field}
use Rattle.session_requests.specs.declared.bad_line.BadLine.{BadLine}
use Rattle.session_requests.specs.declared.bad_line.BadLine.TheVariants.{NotJson, NotObject, NoOp, UnknownOp}
use Rattle.session_requests.specs.declared.bad_line.BadLine.TheVariants.{MissingField, WrongField, ExtraField}

-- the object has this string as its `op`
abbrev pub HasOpText : Data → List ℕ → Type 0
HasOpText d text = get (codes "op") d ≡ Some (string text)

-- the object has the name of this op as its `op`
abbrev pub HasOp : Data → Op → Type 0
HasOp d op = HasOpText d (op_text op)

-- the keys of an object's members, which stand in byte order, each once
abbrev pub keys_of : Members → List (List ℕ)
keys_of no_members = []
keys_of (member k d ms) = k ∷ keys_of ms

-- the first of the fields that the object hasn't
abbrev pub first_missing : List Field → Data → Option Field
first_missing fs d = find (λ f. is_none (get (key f) d)) fs

-- a request with this op may have a member with this key
abbrev pub may_have : Op → List ℕ → Bool
may_have op k = bytes_eq (codes "op") k || list_any (λ f. bytes_eq (key f) k) (fields op)

-- the first of the members' keys, in byte order, that a request with this op hasn't
abbrev pub extra_among : Op → Members → Option (List ℕ)
extra_among op ms = find (λ k. not (may_have op k)) (keys_of ms)

-- the same of an object
abbrev pub first_extra : Op → Data → Option (List ℕ)
first_extra op d = option_and_then (extra_among op) (as_object d)

-- what was read from a line as JSON is no request, and this is the first cause
abbrev pub IsBad : Data → BadLine → Type 0
IsBad d NotJson = ⊥
IsBad d NotObject = as_object d ≡ None
IsBad d NoOp = IsSome (as_object d) × ((text : List ℕ) → HasOpText d text → ⊥)
IsBad d UnknownOp = (text : List ℕ) × HasOpText d text × ((op : Op) → text ≡ op_text op → ⊥)
IsBad d (MissingField f) = (op : Op) × HasOp d op × (first_missing (fields op) d ≡ Some f)
IsBad d (WrongField f) = (op : Op) × HasOp d op × (first_missing (fields op) d ≡ None) × IsFirstWrong (fields op) d f
IsBad d (ExtraField k) = (op : Op) × HasOp d op × HasAllRight (fields op) d × (first_extra op d ≡ Some k)
