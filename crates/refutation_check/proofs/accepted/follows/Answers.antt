use Rattle.std.proofs.Common.{◌≡◌, length, sym, ◌∙◌, ap, subst, inl}
use Rattle.std.specs.Prelude.{All}
use Rattle.cfj_logic.specs.UnitClauses.{Leads}
use Rattle.cfj_logic.specs.Logs.{AreBelow, Follows, assumed}
use Rattle.refutation_check.proofs.FirstValues.{assumed_length}
use Rattle.refutation_check.proofs.Consequences.{follows_leads}
use Rattle.refutation_check.proofs.Least.{same_answer}
use Rattle.refutation_check.proofs.accepted.follows.Goals as goal

pub propagate-requires : goal.propagate-requires
propagate-requires c =
    let n : length c.as_mut_slice.result.now ≡ c.args.vars = ap length (c.as_mut_slice.ensures.value ∙ c.in_ok-values.ensures) ∙ assumed_length c.args.vars c.args.clause.now in
    subst (λ k. All (AreBelow k) c.args.premises.now) (sym n) c.requires.premises

pub returns-clause-follows : goal.returns-clause-follows
returns-clause-follows c =
    let vars = c.args.vars in
    let cs = c.args.premises.now in
    let clause = c.args.clause.now in
    let vs : c.as_mut_slice.result.now ≡ assumed vars clause = c.as_mut_slice.ensures.value ∙ c.in_ok-values.ensures in
    same_answer c.propagate.result (Leads cs c.as_mut_slice.result.now) (Follows vars cs clause)
    (λ leads. inl (subst (Leads cs) vs leads)) (λ f. subst (Leads cs) (sym vs) (follows_leads vars cs clause f)) c.propagate.ensures.leads
