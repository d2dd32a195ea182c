use Rattle.std.proofs.Common.{◌∙◌, subst}
use Rattle.std.specs.Prelude.{IfOk, IfNone}
use Rattle.unit_propagation.specs.Standings.{AreOpen}
use Rattle.unit_propagation.proofs.watched.WatchedClauses.extend.Goals as goal

pub returns-clause-opened : goal.returns-clause-opened
returns-clause-opened c = subst (λ w. IfOk c.follow.result (λ found. IfNone found (AreOpen w c.follow.new.values))) (c.as_slice.ensures.value ∙ c.self.view_is) c.follow.ensures.opened
