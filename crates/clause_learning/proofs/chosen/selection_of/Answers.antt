use Rattle.std.proofs.Common.{arith, true, sym, ◌∙◌, ap, subst}
use Rattle.cfj_logic.specs.Selections.{Chosen}
use Rattle.cfj_logic.specs.UnitClauses.{value_of}
use Rattle.clause_learning.specs.Denials.{Gathers}
use Rattle.clause_learning.proofs.Choosing.{gathers_none, gathers_with, gathers_past}
use Rattle.clause_learning.proofs.chosen.selection_of.Goals.{then-is_selected, else-is_selected}
use Rattle.clause_learning.proofs.chosen.selection_of.Goals as goal

pub loop-feature-init : goal.loop-feature-init
loop-feature-init c =
    let is = c.none-selection.ensures in
    record {
      on = subst (λ n. Gathers true n 0 (value_of c.args.values.now)) (sym (ap (λ (s : Chosen). s.on) is)) (gathers_none true (value_of c.args.values.now));
      features = ap (λ (s : Chosen). s.features) is;
    }

pub loop-feature-preserved : goal.loop-feature-preserved
loop-feature-preserved c =
    let i = c.loop-feature.invariant in
    let w = value_of c.args.values.now in
    let k = c.loop-feature.feature in
    elim c.if-is_selected.branch [
      | then-is_selected s ↦ record {
        on = rw s.selection-is (gathers_with true c.loop-feature.selection.on s.with-selection.result.on k w (sym c.is_selected.ensures ∙ s.if-is_selected.true)
            (ap (λ (t : Chosen). t.on) s.with-selection.ensures) i.on);
        features = ap (λ (t : Chosen). t.features) (s.selection-is ∙ s.with-selection.ensures) ∙ i.features;
      }
      | else-is_selected s ↦ record {
        on = rw s.selection-is (gathers_past true c.loop-feature.selection.on k w (sym c.is_selected.ensures ∙ s.if-is_selected.false) i.on);
        features = ap (λ (t : Chosen). t.features) s.selection-is ∙ i.features;
      }
    ]

pub returns-clause-selected : goal.returns-clause-selected
returns-clause-selected c = λ x lt. c.loop-feature.invariant.on.below x (omega (arith, lt))
