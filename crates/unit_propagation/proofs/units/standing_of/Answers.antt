use Rattle.std.proofs.Common.{◌≡◌, [], arith, subst, drop, sym, ◌∙◌, ap}
use Rattle.std.proofs.Math.ListN.{drop_of_length-le}
use Rattle.unit_propagation.specs.Standings.{Shows, standing_from}
use Rattle.unit_propagation.proofs.Standing.{shows, open_stays}
use Rattle.unit_propagation.proofs.units.standing_of.Goals as goal

pub returns : goal.returns
returns c =
    let vs = c.args.values.now in
    let done : drop c.loop-literal.literal-index c.args.clause.now ≡ [] = drop_of_length-le c.args.clause.now (omega arith) in
    subst (Shows vs c.args.clause.now) (sym c.loop-literal.invariant ∙ ap (standing_from vs c.loop-literal.standing) done) (shows vs c.args.clause.now)

pub returns-then-is_open : goal.returns-then-is_open
returns-then-is_open c =
    let vs = c.args.values.now in
    let rest = drop c.loop-literal.literal-index c.args.clause.now in
    subst (Shows vs c.args.clause.now) (sym c.loop-literal.invariant ∙ ap (λ s. standing_from vs s rest) (c.is_open.ensures.0 c.if-is_open.true) ∙ open_stays vs rest)
    (shows vs c.args.clause.now)
