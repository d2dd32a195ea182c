use Rattle.std.proofs.Common.{◌+◌, length, take, arith, sym, ap, ap₂, ◌∙◌}
use Rattle.std.proofs.lemmas.List.{length-map, length-take-le, take-map}
use Rattle.cond_circuit.specs.Gates.{value}
use Rattle.cond_circuit.proofs.FormulaGates.{same_worth}
use Rattle.guarded_seq.specs.Sequences.{gates_of, is_matched}
use Rattle.guarded_seq.proofs.TableLaws.{inside_gates, matched_take, matched_same}
use Rattle.guarded_seq.proofs.matching.matched.Goals as goal

pub matched-requires-clause-left : goal.matched-requires-clause-left
matched-requires-clause-left g c =
    let long = ap length c.in_ok-table.ensures.left ∙ length-map (take (c.args.i + 1) c.args.left.now) (λ x. x.gate) ∙ length-take-le (c.args.i + 1) c.args.left.now (omega (arith, c.requires.places)) in
    omega (arith, long)

pub matched-requires-clause-right : goal.matched-requires-clause-right
matched-requires-clause-right g c =
    let long = ap length c.in_ok-table.ensures.right ∙ length-map (take (c.args.k + 1) c.args.right.now) (λ x. x.gate) ∙ length-take-le (c.args.k + 1) c.args.right.now (omega (arith, c.requires.places)) in
    omega (arith, long)

pub returns-clause-worth : goal.returns-clause-worth
returns-clause-worth g c =
    let old = c.args.circuit.now in
    let mid = c.ranks.new.circuit in
    let left = gates_of c.args.left.now in
    let right = gates_of c.args.right.now in
    let table = c.in_ok-table.table in
    let is_left = c.in_ok-table.ensures.left ∙ sym (take-map (λ x. x.gate) (c.args.i + 1) c.args.left.now) in
    let is_right = c.in_ok-table.ensures.right ∙ sym (take-map (λ x. x.gate) (c.args.k + 1) c.args.right.now) in
    same_worth c.matched.result c.matched.new.circuit (λ s. is_matched (value s mid.parts) table.left c.args.i table.right c.args.k) (λ s. is_matched (value s old.parts) left c.args.i right c.args.k)
    (λ s.
    ap₂ (λ v w. is_matched (value s mid.parts) v c.args.i w c.args.k) is_left is_right
    ∙ matched_take (value s mid.parts) left right c.args.i c.args.k
    ∙ matched_same old mid c.ranks.ensures.grown s left right c.args.i c.args.k (inside_gates old c.args.left.now c.requires.left) (inside_gates old c.args.right.now c.requires.right)
    (omega (arith, c.requires.places.0, length-map c.args.left.now (λ x. x.gate))) (omega (arith, c.requires.places.1, length-map c.args.right.now (λ x. x.gate))))
    c.matched.ensures.worth
