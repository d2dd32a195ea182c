use Rattle.unit_facts.specs.Pairs.{param_pairs}
use Rattle.plain_judge.proofs.Growing.{IsGrownUpTo}
use Rattle.plain_judge.proofs.pairs.add_params.Given as goal

abbrev pub invariant-each : goal.invariant-each
invariant-each l = IsGrownUpTo (param_pairs l.class l.method) l.method.params l.param-index l.initial.pairs.items l.pairs.items
