use Rattle.std.proofs.Common.{◌∙◌, false, arith, rules, ap, set, Some, get_or}
use Rattle.refutation_check.proofs.FirstValues.{fixed_none, fixed_step}
use Rattle.refutation_check.proofs.premises.fixed.Goals as goal

pub loop-var-init : goal.loop-var-init
loop-var-init c = c.in_ok-values.ensures.items_if_clones_equal (λ y k. search rules) ∙ fixed_none c.args.vars

pub loop-var-preserved : goal.loop-var-preserved
loop-var-preserved c =
    ap (λ w. set w c.loop-var.var (Some (get_or c.args.prefix.now c.loop-var.var false))) c.loop-var.invariant ∙ fixed_step c.args.vars c.args.prefix.now c.loop-var.var false (omega arith) c.requires
