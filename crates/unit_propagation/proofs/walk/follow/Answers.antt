use Rattle.std.proofs.Common.{sym, ◌∙◌}
use Rattle.unit_propagation.specs.Walks.{AreSettled}
use Rattle.unit_propagation.proofs.Growing.{grows_on}
use Rattle.unit_propagation.proofs.Walking.{where_none, opened}
use Rattle.unit_propagation.proofs.walk.follow.Goals as goal

pub returns-clause-grown : goal.returns-clause-grown
returns-clause-grown c =
    grows_on c.follow_all.result c.args.clauses.now c.args.values.now c.settle_short.new.values c.follow_all.new.values c.args.trail.now.items c.settle_short.new.trail.items c.follow_all.new.trail.items
    c.in_ok-found.ensures.grown c.follow_all.ensures.grown

pub returns-clause-opened : goal.returns-clause-opened
returns-clause-opened c =
    opened c.follow_all.result c.args.clauses.now c.follow_all.new.watches c.args.short.now c.settle_short.new.values c.follow_all.new.values c.settle_short.new.trail.items c.follow_all.new.trail.items
    (record { watched = c.follow_all.ensures.watched; short = c.requires.watched.short })
    (where_none c.in_ok-found.found (AreSettled c.args.clauses.now c.args.short.now c.settle_short.new.values) (sym c.is_some.ensures ∙ c.if-is_some.false) c.in_ok-found.ensures.settled)
    c.follow_all.ensures.grown c.follow_all.ensures.handled
