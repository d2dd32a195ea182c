use Rattle.std.proofs.Common.{[], ◌∷◌, ◌++◌, sym, ◌∙◌, ap}
use Rattle.cfj_model.specs.Judging.{insert_ranked, rank}
use Rattle.cfj_model.specs.declared.site.Rule.TheVariants.{K1, E3, E4, E5, E6, E7, E8}
use Rattle.plain_judge.specs.BodySites.{node_site}
use Rattle.unit_facts.specs.Pairs.{arg_pairs, node_pairs, pairs_at}
use Rattle.plain_judge.proofs.Growing.{two_added, three_added}
use Rattle.unit_facts.proofs.ProjectPairs.{node_call, node_new, node_cast}
use Rattle.plain_judge.proofs.nodes.+nodes.Goals as goal

pub add_nodes-returns-in_ok-add-in-Call : goal.add_nodes-returns-in_ok-add-in-Call
add_nodes-returns-in_ok-add-in-Call t c =
    let at = node_site c.args.body.now in
    let more = c.args.more.now in
    let before = c.args.pairs.now.items in
    let on = node_pairs at c.in-Call.on [] in
    let own = pairs_at (at c.in-Call.slot) (E3 ∷ (E4 ∷ more)) in
    three_added c.add_args.result before c.add_nodes-in-Call.new.pairs.items c.add-in-Call.new.pairs.items c.add_args.new.pairs.items on own (arg_pairs at E5 c.slice.result.now)
    (node_pairs at c.args.expr.now more)
    (c.in_ok-add_nodes-in-Call.ensures ∙ ap (λ x. before ++ node_pairs at x []) c.get-in-Call.ensures)
    c.in_ok-add-in-Call.ensures
    (ap (λ x. node_pairs at x more) c.in-Call.is ∙ node_call at c.in-Call.slot c.in-Call.on c.in-Call.method c.in-Call.args more
    ∙ ap (λ xs. on ++ (own ++ arg_pairs at E5 xs)) (sym c.slice.ensures))
    c.add_args.ensures

pub add_nodes-returns-in_ok-add_among-in-New : goal.add_nodes-returns-in_ok-add_among-in-New
add_nodes-returns-in_ok-add_among-in-New t c =
    let at = node_site c.args.body.now in
    let more = c.args.more.now in
    let own = pairs_at (at c.in-New.slot) (K1 ∷ insert_ranked rank E6 more) in
    two_added c.add_args-in-New.result c.args.pairs.now.items c.add_among.new.pairs.items c.add_args-in-New.new.pairs.items own (arg_pairs at E7 c.slice-in-New.result.now)
    (node_pairs at c.args.expr.now more)
    c.in_ok-add_among-in-New.ensures
    (ap (λ x. node_pairs at x more) c.in-New.is ∙ node_new at c.in-New.slot c.in-New.class c.in-New.args more ∙ ap (λ xs. own ++ arg_pairs at E7 xs) (sym c.slice-in-New.ensures))
    c.add_args-in-New.ensures

pub add_nodes-returns-in_ok-add_among-in-Cast : goal.add_nodes-returns-in_ok-add_among-in-Cast
add_nodes-returns-in_ok-add_among-in-Cast t c =
    let at = node_site c.args.body.now in
    let more = c.args.more.now in
    let own = pairs_at (at c.in-Cast.slot) (K1 ∷ insert_ranked rank E8 more) in
    two_added c.add_nodes-in-Cast.result c.args.pairs.now.items c.add_among-in-Cast.new.pairs.items c.add_nodes-in-Cast.new.pairs.items own (node_pairs at c.get-in-Cast.result.now [])
    (node_pairs at c.args.expr.now more)
    c.in_ok-add_among-in-Cast.ensures
    (ap (λ x. node_pairs at x more) c.in-Cast.is ∙ node_cast at c.in-Cast.slot c.in-Cast.class c.in-Cast.on more ∙ ap (λ x. own ++ node_pairs at x []) (sym c.get-in-Cast.ensures))
    c.add_nodes-in-Cast.ensures
