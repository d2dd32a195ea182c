use Rattle.std.proofs.Common.{arith, sym, ◌∙◌, subst}
use Rattle.std.proofs.lemmas.Nat.{pow_pos}
use Rattle.clause_learning.specs.Denials.{Gathers, marked_value}
use Rattle.clause_learning.proofs.Choosing.{gathers_none, gathers_with, gathers_past, with_small}
use Rattle.clause_learning.proofs.chosen.marked_as.Goals.{then-is_marked_as, else-is_marked_as}
use Rattle.clause_learning.proofs.chosen.marked_as.Goals as goal

pub loop-feature-init : goal.loop-feature-init
loop-feature-init c =
    let w = marked_value c.args.marks.now c.args.values.now in
    let some = pow_pos c.args.features in
    record {
      gathers = subst (λ n. Gathers c.args.on n 0 w) (sym c.empty-set.ensures) (gathers_none c.args.on w);
      small = omega (arith, some, c.empty-set.ensures);
    }

pub loop-feature-preserved : goal.loop-feature-preserved
loop-feature-preserved c =
    let i = c.loop-feature.invariant in
    let w = marked_value c.args.marks.now c.args.values.now in
    let k = c.loop-feature.feature in
    elim c.if-is_marked_as.branch [
      | then-is_marked_as s ↦ record {
        gathers = rw s.set-is (gathers_with c.args.on c.loop-feature.set s.with-set.result k w (sym c.is_marked_as.ensures ∙ s.if-is_marked_as.true) s.with-set.ensures i.gathers);
        small = rw (s.set-is, s.with-set.ensures) (with_small c.loop-feature.set k c.args.features (omega arith) i.small);
      }
      | else-is_marked_as s ↦ record {
        gathers = rw s.set-is (gathers_past c.args.on c.loop-feature.set k w (sym c.is_marked_as.ensures ∙ s.if-is_marked_as.false) i.gathers);
        small = rw s.set-is i.small;
      }
    ]
