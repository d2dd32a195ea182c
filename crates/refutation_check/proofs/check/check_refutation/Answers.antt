use Rattle.std.proofs.Common.{sym, ◌∙◌, ap, subst}
use Rattle.std.specs.List.{list_any}
use Rattle.cfj_logic.specs.Sides.{is_empty}
use Rattle.cfj_logic.specs.Logs.{IsAccepted, IsRefutation}
use Rattle.refutation_check.proofs.Least.{refuted, refutation_holds_empty, same_answer}
use Rattle.refutation_check.proofs.check.check_refutation.Goals as goal

pub returns-then-not-holds_empty : goal.returns-then-not-holds_empty
returns-then-not-holds_empty c = (
  λ e. absurd (let no : ⊥ = cc e in no),
  λ r.
      let t = refutation_holds_empty c.args.clauses.now c.args.log.now r in
      sym c.if-not-holds_empty.true ∙ c.holds_empty.ensures ∙ ap (list_any is_empty) c.clauses.ensures ∙ t,
)

pub returns : goal.returns
returns c =
    let read = c.clauses-2.ensures in
    let empty = ap (list_any is_empty) (sym c.clauses.ensures) ∙ sym c.holds_empty.ensures ∙ c.if-not-holds_empty.false in
    same_answer c.accepted.result (IsAccepted c.args.clauses.now c.clauses-2.result.now) (IsRefutation c.args.clauses.now c.args.log.now)
    (λ all. refuted c.args.clauses.now c.args.log.now empty (subst (IsAccepted c.args.clauses.now) read all))
    (λ r. subst (IsAccepted c.args.clauses.now) (sym read) r.accepted) c.accepted.ensures.accepted
