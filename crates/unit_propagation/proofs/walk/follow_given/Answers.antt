use Rattle.std.proofs.Common.{◌≡◌, length, sym, ◌∙◌, subst, arith}
use Rattle.unit_propagation.specs.Trails.{still}
use Rattle.unit_propagation.specs.Walks.{FollowsOne, AreFollowedBut}
use Rattle.unit_propagation.proofs.Growing.{grows_then}
use Rattle.unit_propagation.proofs.Walking.{grows_longer, rest_first, rest_grown, rest_value, where_none}
use Rattle.unit_propagation.proofs.walk.follow_given.Goals as goal

pub vars-init : goal.vars-init
vars-init c = record {
  grown = still c.args.values.now c.args.trail.now.items;
  watched = c.requires.watched;
  followed = c.requires.followed;
  rest = rest_first c.args.done.now c.args.values.now c.args.trail.now.items (length c.args.trail.now.items);
}

pub returns-then-is_some-clause-grown : goal.returns-then-is_some-clause-grown
returns-then-is_some-clause-grown c =
    grows_then c.args.clauses.now c.args.values.now c.vars.values c.follow_value.new.values c.args.trail.now.items c.vars.trail.items c.follow_value.new.trail.items c.vars.invariant.grown c.in_ok-found.ensures.grown

pub vars-preserved : goal.vars-preserved
vars-preserved c =
    let cs = c.args.clauses.now in
    let i = c.vars.invariant in
    let t = c.vars.trail.items in
    let u = c.follow_value.new.trail.items in
    let ws = c.follow_value.new.values in
    let qs = c.follow_value.new.watches.pairs.items in
    let es = c.follow_value.new.done in
    let head = length c.args.trail.now.items in
    let le = grows_longer cs c.args.values.now c.vars.values c.args.trail.now.items t i.grown in
    let f = where_none c.in_ok-found.found (FollowsOne cs qs c.vars.done es ws c.vars.var) (sym c.is_some.ensures ∙ c.if-is_some.false) c.in_ok-found.ensures.followed in
    record {
      grown = grows_then cs c.args.values.now c.vars.values ws c.args.trail.now.items t u i.grown c.in_ok-found.ensures.grown;
      watched = c.follow_value.ensures.watched;
      followed = f.followed;
      rest = rest_value es ws u head c.vars.var f.done (rest_grown cs c.vars.done es c.vars.values ws t u head c.vars.var f.kept c.in_ok-found.ensures.grown le i.rest);
    }

pub returns-clause-rest : goal.returns-clause-rest
returns-clause-rest c =
    let all : c.vars.var ≡ length c.vars.values = omega arith in
    subst (AreFollowedBut c.vars.done c.vars.values c.vars.trail.items (length c.args.trail.now.items)) all c.vars.invariant.rest
