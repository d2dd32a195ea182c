use Rattle.plain_judge.specs.BodySites.{node_site}
use Rattle.unit_facts.specs.Pairs.{arg_pairs}
use Rattle.std.proofs.Common.{◌≡◌, ◌++◌, drop}
use Rattle.plain_judge.proofs.nodes.+nodes.Given as goal

abbrev pub invariant-add_args-each : goal.invariant-add_args-each
invariant-add_args-each l = l.pairs.items ++ arg_pairs (node_site l.body) l.rule (drop l.arg-index l.args) ≡ l.initial.pairs.items ++ arg_pairs (node_site l.body) l.rule l.args
