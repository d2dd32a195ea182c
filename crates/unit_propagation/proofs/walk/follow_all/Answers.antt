use Rattle.std.proofs.Common.{◌≡◌, length, sym, ◌∙◌, subst, arith}
use Rattle.unit_propagation.specs.Walks.{AreFollowedBut}
use Rattle.unit_propagation.proofs.Growing.{grows_on}
use Rattle.unit_propagation.proofs.Walking.{grows_longer, where_none}
use Rattle.unit_propagation.proofs.walk.follow_all.Goals as goal

pub follow_steps-requires-clause-rest : goal.follow_steps-requires-clause-rest
follow_steps-requires-clause-rest c =
    let from : length c.args.trail.now.items ≡ c.len-from.result = omega (arith, c.len-from.ensures, c.args.trail.now.ok) in
    subst (λ n. AreFollowedBut c.follow_given.new.done c.follow_given.new.values c.follow_given.new.trail.items n (length c.follow_given.new.values)) from
    (where_none c.in_ok-found.found (AreFollowedBut c.follow_given.new.done c.follow_given.new.values c.follow_given.new.trail.items (length c.args.trail.now.items) (length c.follow_given.new.values))
    (sym c.is_some.ensures ∙ c.if-is_some.false) c.in_ok-found.ensures.rest)

pub follow_steps-requires-clause-from : goal.follow_steps-requires-clause-from
follow_steps-requires-clause-from c =
    let longer = grows_longer c.args.clauses.now c.args.values.now c.follow_given.new.values c.args.trail.now.items c.follow_given.new.trail.items c.in_ok-found.ensures.grown in
    omega (arith, longer, c.len-from.ensures, c.args.trail.now.ok)

pub returns-clause-grown : goal.returns-clause-grown
returns-clause-grown c =
    grows_on c.follow_steps.result c.args.clauses.now c.args.values.now c.follow_given.new.values c.follow_steps.new.values c.args.trail.now.items c.follow_given.new.trail.items c.follow_steps.new.trail.items
    c.in_ok-found.ensures.grown c.follow_steps.ensures.grown
