use Rattle.std.proofs.Common.{inl, inr, length, refl, arith, subst}
use Rattle.std.proofs.lemmas.Option.{slice_get_read}
use Rattle.cfj_words.specs.Lists.{Has}
use Rattle.unit_propagation.specs.Trails.{still}
use Rattle.unit_propagation.proofs.Watching.{past_stands, true_stands, settled_stands}
use Rattle.unit_propagation.proofs.watches.visit_one.Goals.{then-place-len-via-then-place-len, then-place-len-via-else-place-len+then-place-clauses}
use Rattle.unit_propagation.proofs.watches.visit_one.Goals as goal

pub returns-then-place-len-clause-grown : goal.returns-then-place-len-clause-grown
returns-then-place-len-clause-grown c = still c.args.values.now c.args.trail.now.items

pub returns-then-place-len-clause-says : goal.returns-then-place-len-clause-says
returns-then-place-len-clause-says c = (
  refl,
  past_stands c.args.clauses.now c.args.pairs.now.items c.args.values.now c.args.place (elim c.then-place-len.branch [
    | then-place-len-via-then-place-len w ↦ inl (omega (arith, w.if-place-len.true, c.args.pairs.now.ok))
    | then-place-len-via-else-place-len+then-place-clauses w ↦ inr (omega (arith, w.if-place-clauses.true))
  ]),
)

pub returns-then-is_true-clause-grown : goal.returns-then-is_true-clause-grown
returns-then-is_true-clause-grown c = still c.args.values.now c.args.trail.now.items

pub returns-then-is_true-clause-says : goal.returns-then-is_true-clause-says
returns-then-is_true-clause-says c = (
  refl,
  true_stands c.args.clauses.now c.args.pairs.now.items c.args.values.now c.args.place c.index.result.now c.other_of-other.result
      (omega (arith, c.if-place-len.false, c.args.pairs.now.ok)) c.index.ensures c.other_of-other.ensures.watched (c.is_true.ensures.0 c.if-is_true.true),
)

pub returns-in_ok-enlist-in-Some-clause-grown : goal.returns-in_ok-enlist-in-Some-clause-grown
returns-in_ok-enlist-in-Some-clause-grown c = still c.args.values.now c.args.trail.now.items

pub returns-in_ok-enlist-in-Some-clause-says : goal.returns-in_ok-enlist-in-Some-clause-says
returns-in_ok-enlist-in-Some-clause-says c = record {
  clause = c.index-clauses-place.result;
  pair = c.index.result.now;
  other = c.other_of-other.result;
  next = c.in-Some.next;
  there = slice_get_read c.args.clauses.now (length c.args.clauses.now) c.args.place c.index-clauses-place.result refl (omega arith) c.index-clauses-place.is;
  was = slice_get_read c.args.pairs.now.items (length c.args.pairs.now.items) c.args.place c.index.result.now refl (omega (arith, c.if-place-len.false, c.args.pairs.now.ok)) c.index.ensures;
  watched = c.other_of-other.ensures.watched;
  leaves = c.other_of-other.ensures.other;
  has = subst (λ w. Has w c.in-Some.next) c.slice.ensures c.in-Some.ensures.some.0;
  differ = c.in-Some.ensures.some.1;
  not_false = c.in-Some.ensures.some.2;
  listed = c.in_ok-enlist-in-Some.ensures.there;
  now = refl;
}

pub returns-else-branch-clause-says : goal.returns-else-branch-clause-says
returns-else-branch-clause-says c = (
  refl,
  settled_stands c.args.clauses.now c.args.pairs.now.items c.args.values.now c.settle.new.values c.args.place c.index-clauses-place.result c.slice.result.now c.other_of-other.result
      (omega arith) c.index-clauses-place.is c.slice.ensures c.in-None.ensures.none (rw c.if-branch.false at c.in_ok-settle-in-None.ensures.says),
)
