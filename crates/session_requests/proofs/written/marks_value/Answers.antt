use Rattle.std.proofs.Common.{◌≡◌, map, take, arith, ap, ◌∙◌}
use Rattle.std.proofs.lemmas.List.{take_all}
use Rattle.serde_json.specs.Data.{string, array}
use Rattle.serde_json.proofs.Views.{view-Array}
use Rattle.serde_json.specs.View.{view}
use Rattle.session_requests.specs.Fields.{mark_text}
use Rattle.session_requests.proofs.Spelling.{items_of-strings}
use Rattle.session_requests.proofs.written.marks_value.Goals as goal

pub returns : goal.returns
returns c =
    let whole : take c.marks.mark-index c.args.marks.now ≡ c.args.marks.now = take_all _ _ (omega arith) in
    let strings : map view c.marks.items.items ≡ map (λ mark. string (mark_text mark)) c.args.marks.now =
    c.marks.invariant ∙ ap (map (λ mark. string (mark_text mark))) whole in
    view-Array c.marks.items ∙ ap array (items_of-strings mark_text c.marks.items.items c.args.marks.now strings)
