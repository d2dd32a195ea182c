use Rattle.std.proofs.Common.{◌≡◌, ℕ, ◌+◌, ◌-◌, length, arith, sym, ◌∙◌, subst}
use Rattle.std.proofs.lemmas.Option.{slice_get_within}
use Rattle.std.proofs.Math.Seq.{take-length}
use Rattle.unit_propagation.specs.Trails.{values_after}
use Rattle.clause_learning.specs.Decided.{AreBelowIn, IsValued}
use Rattle.clause_learning.specs.Denials.{IsMarked, Denies, Resolves}
use Rattle.clause_learning.proofs.Leaving.{AreValued, valued_skip, valued_next, leaves_one, leaves_some}
use Rattle.clause_learning.proofs.Valuing.{some_step, steps_below}
use Rattle.clause_learning.proofs.resolution.resolve_last.Goals as goal

pub steps-init : goal.steps-init
steps-init c =
    let t = c.args.trail.now in
    let vars = length c.args.marks.now in
    let within = slice_get_within t c.args.decision c.requires.decision.step c.requires.decision.there in
    record {
      from = omega (arith, within);
      within = omega arith;
      denies = c.requires.denies;
      valued = subst (λ w. (x : ℕ) → IsMarked c.args.marks.now x → IsValued (values_after vars w) x) (sym (take-length t)) c.requires.valued;
    }

pub is_marked_at-requires-clause-below : goal.is_marked_at-requires-clause-below
is_marked_at-requires-clause-below c =
    subst (λ n. AreBelowIn n c.args.trail.now) (sym c.steps.auto.marks) (steps_below c.args.clauses.now c.args.features (length c.args.marks.now) c.args.trail.now c.requires.trail)

pub cause_to_resolve-requires-clause-below : goal.cause_to_resolve-requires-clause-below
cause_to_resolve-requires-clause-below c =
    subst (λ n. AreBelowIn n c.args.trail.now) (sym c.steps.auto.marks) (steps_below c.args.clauses.now c.args.features (length c.args.marks.now) c.args.trail.now c.requires.trail)

pub steps-preserved : goal.steps-preserved
steps-preserved c =
    let t = c.args.trail.now in
    let vars = length c.args.marks.now in
    let i = c.steps.invariant in
    let p = c.steps.place - 1 in
    let at : c.steps.place ≡ p + 1 = omega arith in
    let s = some_step t p (omega (arith, i.within)) in
    record {
      from = omega arith;
      within = omega (arith, i.within);
      denies = subst (λ n. Denies c.args.clauses.now (values_after n t) c.resolve_at.new.marks) c.steps.auto.marks c.resolve_at.ensures.denies;
      valued = valued_next vars t p s.0 c.steps.marks c.resolve_at.new.marks s.1 (subst (λ n. Resolves n t p c.steps.marks c.resolve_at.new.marks) c.steps.auto.marks c.resolve_at.ensures.resolves)
          (subst (λ j. AreValued vars t j c.steps.marks) at i.valued);
    }

pub steps-preserved-then-not-is_marked_at : goal.steps-preserved-then-not-is_marked_at
steps-preserved-then-not-is_marked_at c =
    let t = c.args.trail.now in
    let vars = length c.args.marks.now in
    let i = c.steps.invariant in
    let p = c.steps.place - 1 in
    let at : c.steps.place ≡ p + 1 = omega arith in
    let s = some_step t p (omega (arith, i.within)) in
    record {
      from = omega arith;
      within = omega (arith, i.within);
      denies = i.denies;
      valued = valued_skip vars t p s.0 c.steps.marks s.1 (sym (c.is_marked_at.ensures s.0 s.1) ∙ c.if-not-is_marked_at.true) (subst (λ j. AreValued vars t j c.steps.marks) at i.valued);
    }

pub returns-in-None-clause-one : goal.returns-in-None-clause-one
returns-in-None-clause-one c =
    let t = c.args.trail.now in
    let vars = length c.args.marks.now in
    let i = c.steps.invariant in
    let p = c.steps.place - 1 in
    let at : c.steps.place ≡ p + 1 = omega arith in
    let s = some_step t p (omega (arith, i.within)) in
    leaves_one c.args.clauses.now c.args.features vars t c.args.decision p s.0 c.steps.marks c.requires.trail c.requires.decision (omega arith) s.1
    (rw c.in-None.is at c.cause_to_resolve.ensures.none) (sym (c.is_marked_at.ensures s.0 s.1) ∙ c.if-not-is_marked_at.false) (subst (λ j. AreValued vars t j c.steps.marks) at i.valued)

pub returns-clause-one : goal.returns-clause-one
returns-clause-one c =
    let i = c.steps.invariant in
    leaves_some c.args.clauses.now c.args.features (length c.args.marks.now) c.args.trail.now c.args.decision c.steps.place c.steps.marks c.requires.trail c.requires.decision (omega arith) i.from i.denies i.valued
