use Rattle.std.proofs.Common.{◌≡◌}
use Rattle.serde_json.specs.View.{members_view}
use Rattle.session_requests.specs.BadLines.{extra_among}
use Rattle.session_requests.proofs.reading.extra_key.Given as goal

abbrev pub invariant-loop-key : goal.invariant-loop-key
invariant-loop-key l = extra_among l.op (members_view l.fn.members.entries) ≡ extra_among l.op (members_view l.key-iterator)
