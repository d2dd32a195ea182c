use Rattle.std.proofs.Common.{◌≡◌, map, take}
use Rattle.serde_json.specs.Data.{string}
use Rattle.serde_json.specs.View.{view}
use Rattle.session_requests.specs.Fields.{mark_text}
use Rattle.session_requests.proofs.written.marks_value.Given as goal

abbrev pub invariant-marks : goal.invariant-marks
invariant-marks l = map view l.items.items ≡ map (λ mark. string (mark_text mark)) (take l.mark-index l.marks)
