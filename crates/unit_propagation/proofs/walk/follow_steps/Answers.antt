use Rattle.std.proofs.Common.{◌+◌, ◌<◌, length, refl, sym, ◌∙◌, subst, arith}
use Rattle.std.specs.Prelude.{All}
use Rattle.std.proofs.lemmas.Option.{slice_get_read}
use Rattle.cfj_logic.specs.Logs.{AreBelow}
use Rattle.unit_propagation.specs.Trails.{still}
use Rattle.unit_propagation.specs.Walks.{FollowsOne, AreFollowedBut}
use Rattle.unit_propagation.proofs.Growing.{grows_then}
use Rattle.unit_propagation.proofs.Walking.{rest_next, followed_all, grows_measure, where_none}
use Rattle.unit_propagation.proofs.walk.follow_steps.Goals as goal

pub steps-init : goal.steps-init
steps-init c = record {
  grown = still c.args.values.now c.args.trail.now.items;
  watched = c.requires.watched;
  followed = c.requires.followed;
  rest = c.requires.rest;
  within = c.requires.from;
}

pub returns-then-is_some-clause-grown : goal.returns-then-is_some-clause-grown
returns-then-is_some-clause-grown c =
    grows_then c.args.clauses.now c.args.values.now c.steps.values c.follow_value.new.values c.args.trail.now.items c.steps.trail.items c.follow_value.new.trail.items c.steps.invariant.grown c.in_ok-found.ensures.grown

pub steps-smaller : goal.steps-smaller
steps-smaller c =
    let below = subst (λ n. All (AreBelow n) c.args.clauses.now) (sym c.steps.auto.values) c.requires.below in
    let most = grows_measure c.args.clauses.now c.steps.values c.follow_value.new.values c.steps.trail.items c.follow_value.new.trail.items below c.in_ok-found.ensures.grown in
    let lt : c.steps.head < length c.steps.trail.items = omega (arith, c.steps-test.true, c.len.ensures, c.steps.trail.ok) in
    omega (arith, most, lt)

pub steps-preserved : goal.steps-preserved
steps-preserved c =
    let cs = c.args.clauses.now in
    let i = c.steps.invariant in
    let t = c.steps.trail.items in
    let u = c.follow_value.new.trail.items in
    let s = c.index.result.now in
    let ws = c.follow_value.new.values in
    let qs = c.follow_value.new.watches.pairs.items in
    let es = c.follow_value.new.done in
    let lt : c.steps.head < length t = omega (arith, c.steps-test.true, c.len.ensures, c.steps.trail.ok) in
    let f = where_none c.in_ok-found.found (FollowsOne cs qs c.steps.done es ws s.literal.var) (sym c.is_some.ensures ∙ c.if-is_some.false) c.in_ok-found.ensures.followed in
    let next = rest_next cs qs c.steps.done es c.steps.values ws t u c.steps.head (length c.steps.values) s c.in_ok-found.ensures.grown (slice_get_read t (length t) c.steps.head s refl lt c.index.ensures) f i.rest in
    record {
      grown = grows_then cs c.args.values.now c.steps.values ws c.args.trail.now.items t u i.grown c.in_ok-found.ensures.grown;
      watched = c.follow_value.ensures.watched;
      followed = f.followed;
      rest = subst (AreFollowedBut es ws u (c.steps.head + 1)) (sym c.follow_value.auto.values) next.0;
      within = next.1;
    }

pub returns-clause-handled : goal.returns-clause-handled
returns-clause-handled c =
    followed_all c.args.clauses.now c.steps.watches.pairs.items c.steps.done c.steps.values c.steps.trail.items c.steps.head c.steps.invariant.followed c.steps.invariant.rest
    (omega (arith, c.steps-test.false, c.len.ensures, c.steps.trail.ok))
