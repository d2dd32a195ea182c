use Rattle.std.proofs.Common.{take, arith, refl, ◌∙◌, ap, subst}
use Rattle.cfj_logic.specs.Logs.{IsAccepted, premises}
use Rattle.unit_propagation.proofs.Members.{all_taken}
use Rattle.refutation_check.proofs.Accepting.{accepted_none, accepted_at, accepted_next, premises_next, premises_none, below_as}
use Rattle.refutation_check.proofs.accepted.accepted.Goals as goal

pub loop-place-init : goal.loop-place-init
loop-place-init c = record { premises = c.requires.premises ∙ premises_none c.args.clauses.now; accepted = accepted_none c.args.clauses.now }

pub entry-requires-clause-below : goal.entry-requires-clause-below
entry-requires-clause-below c =
    let i = c.loop-place.invariant in
    below_as c.args.clauses.now (take c.loop-place.place c.args.log.now) c.loop-place.premises c.requires.formed i.accepted i.premises

pub returns-in-None-clause-accepted : goal.returns-in-None-clause-accepted
returns-in-None-clause-accepted c = (
  λ e. absurd (let no : ⊥ = cc e in no),
  λ all.
      let no = rw c.in-None.is at c.in_ok-entry.ensures.none in
      absurd (no (accepted_at c.args.clauses.now c.args.log.now c.loop-place.place c.index-log-place.result (omega arith) c.index-log-place.is all)),
)

pub loop-place-preserved : goal.loop-place-preserved
loop-place-preserved c =
    let i = c.loop-place.invariant in
    let found = rw c.in-Some.is at c.in_ok-entry.ensures.some in
    record {
      premises = premises_next c.args.clauses.now c.args.log.now c.loop-place.place c.index-log-place.result c.entry.new.premises c.push.new.self c.in-Some.list (omega arith) c.index-log-place.is
          (c.in_ok-entry.ensures.same ∙ i.premises) found.0 c.in_ok-push-in-Some.ensures;
      accepted = accepted_next c.args.clauses.now c.args.log.now c.loop-place.place c.index-log-place.result (omega arith) c.index-log-place.is i.accepted found.1;
    }

pub returns-clause-accepted : goal.returns-clause-accepted
returns-clause-accepted c =
    let i = c.loop-place.invariant in
    let all = all_taken c.args.log.now c.loop-place.place (omega arith) in
    (λ _. subst (IsAccepted c.args.clauses.now) all i.accepted, λ _. refl)

pub returns-clause-premises : goal.returns-clause-premises
returns-clause-premises c = λ _.
    let i = c.loop-place.invariant in
    i.premises ∙ ap (premises c.args.clauses.now) (all_taken c.args.log.now c.loop-place.place (omega arith))
