use Rattle.std.proofs.Common.{◌≡◌, ◌+◌, ◌-◌, length, arith, sym, subst}
use Rattle.unit_propagation.specs.Trails.{values_after}
use Rattle.clause_learning.specs.Decided.{AreBelowIn}
use Rattle.clause_learning.specs.Denials.{Denies, Resolves}
use Rattle.clause_learning.proofs.Leaving.{AreKept, kept_first, kept_skip, kept_next, one_next, leaves_features}
use Rattle.clause_learning.proofs.Valuing.{some_step, steps_below}
use Rattle.clause_learning.proofs.resolution.resolve_others.Goals as goal

pub steps-init : goal.steps-init
steps-init c = record {
  within = omega arith;
  denies = c.requires.denies;
  one = c.requires.one;
  kept = kept_first c.args.features (length c.args.marks.now) c.args.trail.now c.args.decision c.args.marks.now c.requires.one;
}

pub cause_of_gate-requires-clause-below : goal.cause_of_gate-requires-clause-below
cause_of_gate-requires-clause-below c =
    subst (λ n. AreBelowIn n c.args.trail.now) (sym c.steps.auto.marks) (steps_below c.args.clauses.now c.args.features (length c.args.marks.now) c.args.trail.now c.requires.trail)

pub steps-preserved : goal.steps-preserved
steps-preserved c =
    let t = c.args.trail.now in
    let vars = length c.args.marks.now in
    let i = c.steps.invariant in
    let p = c.steps.place - 1 in
    let at : c.steps.place ≡ p + 1 = omega arith in
    let s = some_step t p (omega (arith, i.within, c.requires.decision)) in
    record {
      within = omega (arith, i.within);
      denies = i.denies;
      one = i.one;
      kept = kept_skip c.args.clauses.now c.args.features vars t p s.0 c.steps.marks c.requires.trail s.1 ((rw c.in-None.is at c.cause_of_gate.ensures.none) s.0 s.1)
          (subst (λ j. AreKept c.args.features vars t j c.steps.marks) at i.kept);
    }

pub steps-preserved-in-Some : goal.steps-preserved-in-Some
steps-preserved-in-Some c =
    let t = c.args.trail.now in
    let vars = length c.args.marks.now in
    let i = c.steps.invariant in
    let p = c.steps.place - 1 in
    let at : c.steps.place ≡ p + 1 = omega arith in
    let s = some_step t p (omega (arith, i.within, c.requires.decision)) in
    let resolves = subst (λ n. Resolves n t p c.steps.marks c.resolve_at.new.marks) c.steps.auto.marks c.resolve_at.ensures.resolves in
    record {
      within = omega (arith, i.within);
      denies = subst (λ n. Denies c.args.clauses.now (values_after n t) c.resolve_at.new.marks) c.steps.auto.marks c.resolve_at.ensures.denies;
      one = one_next c.args.clauses.now c.args.features vars t c.args.decision p s.0 c.steps.marks c.resolve_at.new.marks c.requires.trail (omega (arith, c.requires.decision)) (omega (arith, i.within)) s.1 resolves i.one;
      kept = kept_next c.args.features vars t p s.0 c.steps.marks c.resolve_at.new.marks s.1 resolves (subst (λ j. AreKept c.args.features vars t j c.steps.marks) at i.kept);
    }

pub returns-clause-features : goal.returns-clause-features
returns-clause-features c =
    let i = c.steps.invariant in
    leaves_features c.args.features (length c.args.marks.now) c.args.trail.now c.args.decision c.steps.place c.steps.marks (omega arith) i.one i.kept
