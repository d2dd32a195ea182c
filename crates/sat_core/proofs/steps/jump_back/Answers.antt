use Rattle.std.proofs.Common.{◌≡◌, ◌+◌, ◌∷◌, [], length, arith, ◌∙◌, ap, length-append, None}
use Rattle.cfj_logic.specs.UnitClauses.{value_of}
use Rattle.refutation_check.proofs.FirstValues.{set_length}
use Rattle.sat_core.proofs.Trailing.{back_step}
use Rattle.sat_core.proofs.steps.jump_back.Goals as goal

pub steps-preserved : goal.steps-preserved
steps-preserved c =
    let i = c.steps.invariant in
    let new = c.pop.new.self.items in
    let l : length c.steps.trail.items ≡ length new + 1 = ap length c.in-Some.ensures.items ∙ length-append new (c.in-Some.step ∷ []) in
    let r = back_step (length c.args.values.now.items) c.args.trail.now.items c.steps.trail.items new c.in-Some.step c.steps.values.items c.requires.free i.front c.in-Some.ensures.items i.values in
    record {
      least = omega (arith, l, c.len.ensures, c.steps.trail.ok, c.steps-test.true);
      most = omega (arith, l, i.most);
      front = r.0;
      size = set_length c.steps.values.items c.in-Some.step.literal.var None ∙ i.size;
      values = r.1;
    }
