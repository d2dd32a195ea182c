use Rattle.std.proofs.Common.{◌≡◌, map, take, All, rules, arith, sym, ap, ◌∙◌, subst}
use Rattle.std.proofs.lemmas.List.{take_all}
use Rattle.serde_json.specs.Data.{string}
use Rattle.serde_json.specs.View.{view}
use Rattle.session_requests.proofs.Spelling.{items_of-strings, no_strings}
use Rattle.session_requests.proofs.members.read_values.Goals as goal

pub returns-in_default-clause-none : goal.returns-in_default-clause-none
returns-in_default-clause-none g c = no_strings g.T.Spelled.spelling g.T.Spelled.IsFine c.args.list.now c.items.item-index _ (omega arith) c.item-item.is (search rules)

pub returns-clause-found : goal.returns-clause-found
returns-clause-found g c =
    let whole : take c.items.item-index c.args.list.now ≡ c.args.list.now = take_all _ _ (omega arith) in
    let strings : map view c.args.list.now ≡ map (λ x. string (g.T.Spelled.spelling x)) c.of.result = ap (map view) (sym whole) ∙ c.items.invariant.0 ∙ ap (map (λ x. string (g.T.Spelled.spelling x))) (sym c.of.ensures) in
    (items_of-strings g.T.Spelled.spelling c.args.list.now c.of.result strings, subst (All g.T.Spelled.IsFine) (sym c.of.ensures) c.items.invariant.1)
