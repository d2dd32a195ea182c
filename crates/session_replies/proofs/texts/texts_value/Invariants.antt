use Rattle.std.proofs.Common.{◌≡◌, map, take}
use Rattle.serde_json.specs.Data.{string}
use Rattle.serde_json.specs.View.{view}
use Rattle.session_replies.proofs.texts.texts_value.Given as goal

abbrev pub invariant-texts : goal.invariant-texts
invariant-texts l = map view l.items.items ≡ map (λ text. string text) (take l.text-index l.texts)
