use Rattle.unit_facts.specs.Pairs.{field_pairs}
use Rattle.plain_judge.proofs.Growing.{IsGrownUpTo}
use Rattle.plain_judge.proofs.pairs.add_fields.Given as goal

abbrev pub invariant-each : goal.invariant-each
invariant-each l = IsGrownUpTo (field_pairs l.class) l.class.fields l.field-index l.initial.pairs.items l.pairs.items
