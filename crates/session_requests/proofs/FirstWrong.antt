-- The first field that isn't right.
use Rattle.std.proofs.Common.{List, ◌∷◌, inl, inr, refl}
use Rattle.serde_json.specs.Data.{Data}
use Rattle.session_requests.specs.Fields.{HasRight}
use Rattle.session_requests.specs.Refusals.{IsWrong, IsWrongAmong}
use Rattle.session_requests.specs.declared.field.Field.{Field}
use Rattle.session_requests.specs.declared.unread.Unread.{Unread}
use Rattle.session_requests.specs.declared.unread.Unread.TheVariants.{Bad, NoMemory}

pub first_wrong : (f : Field) (fs : List Field) (d : Data) (e : Unread) → IsWrong f (HasRight f d) e → IsWrongAmong (f ∷ fs) d e
first_wrong f fs d (Bad bad) h = (f, h.0, inl (refl, h.1))
first_wrong f fs d NoMemory h = tt

pub later_wrong : (f : Field) (fs : List Field) (d : Data) (e : Unread) → HasRight f d → IsWrongAmong fs d e → IsWrongAmong (f ∷ fs) d e
later_wrong f fs d (Bad bad) right h = (h.0, h.1, inr (right, h.2))
later_wrong f fs d NoMemory right h = tt
