use Rattle.std.proofs.Common.{[]}
use Rattle.unit_facts.specs.Pairs.{class_pairs}
use Rattle.plain_judge.proofs.Growing.{IsGrownUpTo}
use Rattle.plain_judge.proofs.pairs.pairs_of.Given as goal

abbrev pub invariant-each : goal.invariant-each
invariant-each l = IsGrownUpTo class_pairs l.project.classes l.place [] l.pairs.items
