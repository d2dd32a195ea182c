use Rattle.std.proofs.Common.{◌≡◌, ◌∙◌, sym, subst, true, false}
use Rattle.cfj_logic.specs.Logs.{AreBelow, Follows}
use Rattle.refutation_check.proofs.Accepting.{over_below, entry_of, entry_follows, known_not_entry}
use Rattle.refutation_check.proofs.accepted.entry.Goals as goal

pub follows-requires-clause-clause : goal.follows-requires-clause-clause
follows-requires-clause-clause c = subst (AreBelow c.args.clauses.now.vars) (sym (c.slice.ensures ∙ c.in_ok-list.ensures))
    (over_below c.args.clauses.now.features c.args.clauses.now.vars c.args.clause.now c.requires.formed.features (sym c.is_over.ensures.over ∙ c.if-not-is_over.false))

pub returns-then-is_known-clause-none : goal.returns-then-is_known-clause-none
returns-then-is_known-clause-none c = known_not_entry c.args.clauses.now c.args.before.now c.args.clause.now (sym c.is_known.ensures ∙ c.if-is_known.true)

pub returns-then-branch-clause-some : goal.returns-then-branch-clause-some
returns-then-branch-clause-some c = (
  c.in_ok-list.ensures,
  entry_of c.args.clauses.now c.args.before.now c.args.premises.now c.args.clause.now c.in_ok-list.list c.requires.premises c.in_ok-list.ensures
      (sym c.is_over.ensures.over ∙ c.if-not-is_over.false) c.is_over.ensures.once (sym c.is_known.ensures ∙ c.if-is_known.false)
      (subst (Follows c.args.clauses.now.vars c.args.premises.now) c.slice.ensures (c.in_ok-follows.ensures.follows.0 c.if-branch.true)),
)

pub returns-else-branch-clause-none : goal.returns-else-branch-clause-none
returns-else-branch-clause-none c = λ e.
    let f = entry_follows c.args.clauses.now c.args.before.now c.args.premises.now c.args.clause.now c.in_ok-list.list c.requires.premises c.in_ok-list.ensures e in
    let whole = c.in_ok-follows.ensures.follows.1 (subst (Follows c.args.clauses.now.vars c.args.premises.now) (sym c.slice.ensures) f) in
    let no : true ≡ false = sym whole ∙ c.if-branch.false in
    cc no
