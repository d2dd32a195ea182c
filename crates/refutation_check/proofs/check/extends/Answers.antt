use Rattle.std.proofs.Common.{◌≡◌, length, sym, ◌∙◌, ap, subst, refl, arith, true, false}
use Rattle.std.specs.Prelude.{All}
use Rattle.cfj_logic.specs.Logs.{AreBelow, fixed}
use Rattle.cfj_logic.specs.UnitClauses.{Leads}
use Rattle.refutation_check.proofs.Least.{choices_length, extends_no_conflict, settled_extends}
use Rattle.refutation_check.proofs.check.extends.Goals as goal

pub is_conflict-requires-clause-premises : goal.is_conflict-requires-clause-premises
is_conflict-requires-clause-premises c = subst (All (AreBelow c.args.clauses.now.vars)) (sym c.requires.premises) c.requires.formed.literals

pub is_conflict-requires-clause-prefix : goal.is_conflict-requires-clause-prefix
is_conflict-requires-clause-prefix c =
    let n : length c.args.choices.now ≡ c.args.selection.now.features = ap length c.requires.selection.1 ∙ choices_length c.args.selection.now in
    omega (arith, n, c.requires.selection.0, c.requires.formed.features)

pub returns-then-branch-clause-extends : goal.returns-then-branch-clause-extends
returns-then-branch-clause-extends c =
    let vars = c.args.clauses.now.vars in
    let leads = c.in_ok-is_conflict.ensures.leads.0 c.if-branch.true in
    let plain = subst (λ w. Leads w (fixed vars c.args.choices.now)) c.requires.premises leads in (
      λ e. absurd (let no : ⊥ = cc e in no),
      λ x. absurd (extends_no_conflict c.args.clauses.now c.args.selection.now c.requires.selection.0 x (subst (λ p. Leads c.args.clauses.now.list (fixed vars p)) c.requires.selection.1 plain)),
    )

pub returns-else-branch-clause-extends : goal.returns-else-branch-clause-extends
returns-else-branch-clause-extends c =
    let vars = c.args.clauses.now.vars in (
      λ _. settled_extends c.args.clauses.now c.args.selection.now c.requires.formed c.requires.settled c.requires.selection.0 (λ leads.
          let plain = subst (λ p. Leads c.args.clauses.now.list (fixed vars p)) (sym c.requires.selection.1) leads in
          let whole = subst (λ w. Leads w (fixed vars c.args.choices.now)) (sym c.requires.premises) plain in
          let no : true ≡ false = sym (c.in_ok-is_conflict.ensures.leads.1 whole) ∙ c.if-branch.false in
          cc no),
      λ _. refl,
    )
