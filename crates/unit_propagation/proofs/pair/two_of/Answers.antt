use Rattle.std.proofs.Common.{sym, ◌∙◌}
use Rattle.unit_propagation.proofs.pair.two_of.Goals as goal

pub returns-in-None-clause-none : goal.returns-in-None-clause-none
returns-in-None-clause-none c = λ l m h k. sym (c.in-None.ensures.none l h) ∙ c.in-None.ensures.none m k
