use Rattle.std.proofs.Common.{◌≡◌, map, take, All}
use Rattle.serde_json.specs.Data.{string}
use Rattle.serde_json.specs.View.{view}
use Rattle.session_requests.proofs.members.read_values.Given as goal

abbrev pub invariant-items : goal.invariant-items
invariant-items g l = (map view (take l.item-index l.list) ≡ map (λ x. string (g.T.Spelled.spelling x)) l.values.items) × All g.T.Spelled.IsFine l.values.items
