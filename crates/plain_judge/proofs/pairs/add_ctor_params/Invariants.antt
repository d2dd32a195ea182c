use Rattle.unit_facts.specs.Pairs.{ctor_param_pairs}
use Rattle.plain_judge.proofs.Growing.{IsGrownUpTo}
use Rattle.plain_judge.proofs.pairs.add_ctor_params.Given as goal

abbrev pub invariant-each : goal.invariant-each
invariant-each l = IsGrownUpTo (ctor_param_pairs l.class) l.class.ctor.params l.param-index l.initial.pairs.items l.pairs.items
