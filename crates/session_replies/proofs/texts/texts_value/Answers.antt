use Rattle.std.proofs.Common.{◌≡◌, map, take, arith, ap, ◌∙◌}
use Rattle.std.proofs.lemmas.List.{take_all}
use Rattle.serde_json.specs.Data.{string, array}
use Rattle.serde_json.proofs.Views.{view-Array}
use Rattle.serde_json.specs.View.{view}
use Rattle.session_requests.proofs.Spelling.{items_of-strings}
use Rattle.session_replies.proofs.texts.texts_value.Goals as goal

pub returns : goal.returns
returns c =
    let whole : take c.texts.text-index c.args.texts.now ≡ c.args.texts.now = take_all _ _ (omega arith) in
    let strings : map view c.texts.items.items ≡ map (λ text. string text) c.args.texts.now =
    c.texts.invariant ∙ ap (map (λ text. string text)) whole in
    view-Array c.texts.items ∙ ap array (items_of-strings (λ text. text) c.texts.items.items c.args.texts.now strings)
