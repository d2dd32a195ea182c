use Rattle.std.proofs.Common.{◌-◌, length, take, sym}
use Rattle.cond_circuit.specs.Gates.{value}
use Rattle.cond_circuit.proofs.FormulaGates.{same_worth}
use Rattle.guarded_seq.specs.Sequences.{labels_differ}
use Rattle.guarded_seq.proofs.SequenceLaws.{back_law}
use Rattle.guarded_seq.proofs.sequences.differ_behind.Goals as goal

pub returns-clause-worth : goal.returns-clause-worth
returns-clause-worth g c =
    let E = g.T.PartialEq.eq in
    let old = c.args.circuit.now in
    same_worth c.differ_between.result c.differ_between.new.circuit
    (λ s. labels_differ E (value s old.parts) (take (length c.args.left.now - c.common_back-back.result) c.args.left.now) (take (length c.args.right.now - c.common_back-back.result) c.args.right.now))
    (λ s. labels_differ E (value s old.parts) c.args.left.now c.args.right.now)
    (λ s. sym (back_law E (value s old.parts) (length c.args.left.now - c.common_back-back.result) (length c.args.right.now - c.common_back-back.result) c.args.left.now c.args.right.now c.common_back-back.ensures.same)) c.differ_between.ensures.worth
