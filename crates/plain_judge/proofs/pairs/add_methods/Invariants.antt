use Rattle.unit_facts.specs.Pairs.{method_pairs}
use Rattle.plain_judge.proofs.Growing.{IsGrownUpTo}
use Rattle.plain_judge.proofs.pairs.add_methods.Given as goal

abbrev pub invariant-each : goal.invariant-each
invariant-each l = IsGrownUpTo (method_pairs l.class) l.class.methods l.method-index l.initial.pairs.items l.pairs.items
