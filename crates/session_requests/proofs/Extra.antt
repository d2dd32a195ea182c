-- The first member that is too many.
use Rattle.std.proofs.Common.{◌≡◌, ℕ, List, Bool, true, false, not, cond, find, Some, ap}
use Rattle.serde_json.specs.Data.{Data, Members, member}
use Rattle.session_requests.specs.BadLines.{keys_of, may_have, extra_among}
use Rattle.session_requests.specs.declared.op.Op.{Op}

pub extra_here : (o : Op) (k : List ℕ) (d : Data) (ms : Members) → may_have o k ≡ false → extra_among o (member k d ms) ≡ Some k
extra_here o k d ms e = ap (λ (b : Bool). cond (not b) (Some k) (find (λ k. not (may_have o k)) (keys_of ms))) e

pub extra_later : (o : Op) (k : List ℕ) (d : Data) (ms : Members) → may_have o k ≡ true → extra_among o (member k d ms) ≡ extra_among o ms
extra_later o k d ms e = ap (λ (b : Bool). cond (not b) (Some k) (find (λ k. not (may_have o k)) (keys_of ms))) e
