use Rattle.std.proofs.Common.{◌-◌, length, take, drop, sym, ap₂, ◌∙◌}
use Rattle.std.proofs.lemmas.List.{take_rest}
use Rattle.cond_circuit.specs.Gates.{value}
use Rattle.cond_circuit.proofs.FormulaGates.{same_worth}
use Rattle.guarded_seq.specs.Sequences.{labels_differ}
use Rattle.guarded_seq.proofs.SequenceLaws.{front_law}
use Rattle.guarded_seq.proofs.sequences.labels_differ.Goals as goal

pub returns-clause-worth : goal.returns-clause-worth
returns-clause-worth g c =
    let E = g.T.PartialEq.eq in
    let old = c.args.circuit.now in
    same_worth c.differ_behind.result c.differ_behind.new.circuit
    (λ s. labels_differ E (value s old.parts) (take (length c.args.left.now - c.common_front-front.result) (drop c.common_front-front.result c.args.left.now)) (take (length c.args.right.now - c.common_front-front.result) (drop c.common_front-front.result c.args.right.now)))
    (λ s. labels_differ E (value s old.parts) c.args.left.now c.args.right.now)
    (λ s. ap₂ (labels_differ E (value s old.parts)) (take_rest c.args.left.now c.common_front-front.result) (take_rest c.args.right.now c.common_front-front.result) ∙ sym (front_law E (value s old.parts) c.common_front-front.result c.args.left.now c.args.right.now c.common_front-front.ensures.same)) c.differ_behind.ensures.worth
