use Rattle.std.proofs.Common.{true, List, sym, subst, ap₂, ◌∙◌}
use Rattle.cond_circuit.specs.Gates.{value}
use Rattle.cond_circuit.proofs.FormulaGates.{same_worth}
use Rattle.guarded_seq.specs.declared.guarded.Guarded.{Guarded}
use Rattle.guarded_seq.specs.Sequences.{AreInside, labels_differ, lengths_differ}
use Rattle.guarded_seq.proofs.RankLaws.{blanks_law, inside_blanks}
use Rattle.guarded_seq.proofs.lengths.lengths_differ.Goals as goal

pub labels_differ-requires-clause-left : goal.labels_differ-requires-clause-left
labels_differ-requires-clause-left g c =
    subst (λ (items : List (Guarded Unit)). AreInside c.args.circuit.now items) (sym (c.as_slice.ensures.value ∙ c.in_ok-left.ensures)) (inside_blanks c.args.circuit.now c.args.left.now c.requires.left)

pub labels_differ-requires-clause-right : goal.labels_differ-requires-clause-right
labels_differ-requires-clause-right g c =
    subst (λ (items : List (Guarded Unit)). AreInside c.args.circuit.now items) (sym (c.as_slice-2.ensures.value ∙ c.in_ok-right.ensures)) (inside_blanks c.args.circuit.now c.args.right.now c.requires.right)

pub returns-clause-worth : goal.returns-clause-worth
returns-clause-worth g c =
    let old = c.args.circuit.now in
    same_worth c.labels_differ.result c.labels_differ.new.circuit (λ s. labels_differ (λ _ _. true) (value s old.parts) c.as_slice.result.now c.as_slice-2.result.now)
    (λ s. lengths_differ (value s old.parts) c.args.left.now c.args.right.now)
    (λ s. ap₂ (labels_differ (λ _ _. true) (value s old.parts)) (c.as_slice.ensures.value ∙ c.in_ok-left.ensures) (c.as_slice-2.ensures.value ∙ c.in_ok-right.ensures)
    ∙ blanks_law (value s old.parts) c.args.left.now c.args.right.now)
    c.labels_differ.ensures.worth
