use Rattle.std.proofs.Common.{◌≡◌, length, sym, ◌∙◌, ap, subst}
use Rattle.std.specs.Prelude.{All}
use Rattle.cfj_logic.specs.UnitClauses.{Leads}
use Rattle.cfj_logic.specs.Logs.{AreBelow, fixed}
use Rattle.refutation_check.proofs.FirstValues.{fixed_length}
use Rattle.refutation_check.proofs.Least.{same_answer}
use Rattle.refutation_check.proofs.check.is_conflict.Goals as goal

pub propagate-requires : goal.propagate-requires
propagate-requires c =
    let n : length c.as_mut_slice.result.now ≡ c.args.vars = ap length (c.as_mut_slice.ensures.value ∙ c.in_ok-values.ensures) ∙ fixed_length c.args.vars c.args.prefix.now in
    subst (λ k. All (AreBelow k) c.args.premises.now) (sym n) c.requires.premises

pub returns-clause-leads : goal.returns-clause-leads
returns-clause-leads c =
    let cs = c.args.premises.now in
    let vs : c.as_mut_slice.result.now ≡ fixed c.args.vars c.args.prefix.now = c.as_mut_slice.ensures.value ∙ c.in_ok-values.ensures in
    same_answer c.propagate.result (Leads cs c.as_mut_slice.result.now) (Leads cs (fixed c.args.vars c.args.prefix.now))
    (λ leads. subst (Leads cs) vs leads) (λ leads. subst (Leads cs) (sym vs) leads) c.propagate.ensures.leads
