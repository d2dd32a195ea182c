use Rattle.unit_propagation.proofs.Growing.{grows_reaches}
use Rattle.unit_propagation.proofs.Finding.{tells}
use Rattle.unit_propagation.proofs.watched.WatchedClauses.propagate.Goals as goal

pub returns-clause-leads : goal.returns-clause-leads
returns-clause-leads c =
    let g = c.in_ok-found.ensures.grown in
    tells c.args.self.now c.args.values.now c.extend.new.values c.in_ok-found.found c.is_some.result (grows_reaches c.args.self.now c.args.values.now c.extend.new.values c.in_ok-trail.trail.items c.extend.new.trail.items g)
    c.in_ok-found.ensures.falsified c.in_ok-found.ensures.opened c.is_some.ensures
