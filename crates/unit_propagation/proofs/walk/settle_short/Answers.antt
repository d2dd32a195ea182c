use Rattle.std.proofs.Common.{subst, arith}
use Rattle.unit_propagation.specs.Trails.{still}
use Rattle.unit_propagation.specs.Walks.{AreSettled}
use Rattle.unit_propagation.proofs.Growing.{grows_then}
use Rattle.unit_propagation.proofs.Members.{has_none, all_taken}
use Rattle.unit_propagation.proofs.Walking.{grown_within, settled_next}
use Rattle.unit_propagation.proofs.walk.settle_short.Goals as goal

pub loop-place-init : goal.loop-place-init
loop-place-init c = record { grown = still c.args.values.now c.args.trail.now.items; settled = λ k h. absurd (has_none k h) }

pub loop-place-preserved : goal.loop-place-preserved
loop-place-preserved c =
    let says = rw c.if-branch.false at c.in_ok-settle.ensures.says in
    record {
      grown = grows_then c.args.clauses.now c.args.values.now c.loop-place.values c.settle.new.values c.args.trail.now.items c.loop-place.trail.items c.settle.new.trail.items c.loop-place.invariant.grown c.in_ok-settle.ensures.grown;
      settled = settled_next c.args.clauses.now c.args.short.now c.loop-place.values c.settle.new.values c.loop-place.place-index _ (omega arith) says
          (grown_within c.args.clauses.now c.loop-place.values c.settle.new.values c.loop-place.trail.items c.settle.new.trail.items c.in_ok-settle.ensures.grown) c.loop-place.invariant.settled;
    }

pub returns-clause-settled : goal.returns-clause-settled
returns-clause-settled c =
    let all = all_taken c.args.short.now c.loop-place.place-index (omega arith) in
    subst (λ w. AreSettled c.args.clauses.now w c.loop-place.values) all c.loop-place.invariant.settled

pub returns-then-branch-clause-grown : goal.returns-then-branch-clause-grown
returns-then-branch-clause-grown c =
    grows_then c.args.clauses.now c.args.values.now c.loop-place.values c.settle.new.values c.args.trail.now.items c.loop-place.trail.items c.settle.new.trail.items c.loop-place.invariant.grown c.in_ok-settle.ensures.grown
