use Rattle.std.proofs.Common.{◌≡◌, ◌<◌, length, get_or, sym, subst, ap, ◌∙◌, arith, List, ℕ}
use Rattle.std.proofs.lemmas.List.{get_or_read, length-map}
use Rattle.cond_circuit.specs.Gates.{Is, value}
use Rattle.cond_circuit.proofs.ValueLemmas.{Grown-refl, Grown-trans, Grown-inside}
use Rattle.guarded_seq.specs.Rows.{IsRow}
use Rattle.guarded_seq.specs.Sequences.{labels_differ}
use Rattle.guarded_seq.proofs.CellLaws.{cells_inside}
use Rattle.guarded_seq.proofs.CommonLaws.{read_item}
use Rattle.guarded_seq.proofs.RowLaws.{first_row_is, next_row_is, last_cell, gates_inside, inside_there}
use Rattle.guarded_seq.proofs.sequences.differ_between.Goals as goal

pub loop-i-init : goal.loop-i-init
loop-i-init g c =
    let old = c.args.circuit.now in
    record {
      grown = c.first_row.ensures.grown;
      row = first_row_is g.T.PartialEq.eq old c.args.left.now c.args.right.now old c.first_row.new.circuit c.as_slice.result.now c.in_ok-row.row.items
          (c.as_slice.ensures.value ∙ c.in_ok-gates.ensures) (Grown-refl old) c.requires.right c.in_ok-row.ensures.row;
    }

pub first_row-requires : goal.first_row-requires
first_row-requires g c = gates_inside c.args.right.now c.args.circuit.now c.args.circuit.now c.as_slice.result.now (c.as_slice.ensures.value ∙ c.in_ok-gates.ensures) (Grown-refl c.args.circuit.now) c.requires.right

pub next_row-requires-clause-gate : goal.next_row-requires-clause-gate
next_row-requires-clause-gate g c =
    let i = c.loop-i.invariant in
    Grown-inside c.args.circuit.now c.loop-i.circuit c.index-left-i.result.gate i.grown
    (inside_there c.args.left.now c.loop-i.i c.index-left-i.result (read_item c.args.left.now c.loop-i.i c.index-left-i.result (omega arith) c.index-left-i.is) c.args.circuit.now c.requires.left)

pub next_row-requires-clause-right : goal.next_row-requires-clause-right
next_row-requires-clause-right g c =
    gates_inside c.args.right.now c.args.circuit.now c.loop-i.circuit c.as_slice-in-loop-i.result.now (c.as_slice-in-loop-i.ensures.value ∙ c.in_ok-gates.ensures) c.loop-i.invariant.grown c.requires.right

pub next_row-requires-clause-alike : goal.next_row-requires-clause-alike
next_row-requires-clause-alike g c =
    ap length (c.as_slice-in-loop-i-2.ensures.value ∙ c.in_ok-same.ensures) ∙ length-map c.args.right.now (λ x. g.T.PartialEq.eq c.index-left-i.result.item x.item)
    ∙ sym (ap length (c.as_slice-in-loop-i.ensures.value ∙ c.in_ok-gates.ensures) ∙ length-map c.args.right.now (λ x. x.gate))

pub next_row-requires-clause-row : goal.next_row-requires-clause-row
next_row-requires-clause-row g c =
    let i = c.loop-i.invariant in
    subst (λ (row : List ℕ). (k d : ℕ) → k < length row → get_or row k d < length c.loop-i.circuit.parts) (sym c.as_slice-in-loop-i-3.ensures.value)
    (cells_inside c.loop-i.circuit c.loop-i.row.items _ _ i.row)

pub next_row-requires-clause-long : goal.next_row-requires-clause-long
next_row-requires-clause-long g c =
    let i = c.loop-i.invariant in
    let many = ap length (c.as_slice-in-loop-i.ensures.value ∙ c.in_ok-gates.ensures) ∙ length-map c.args.right.now (λ x. x.gate) in
    let long = ap length c.as_slice-in-loop-i-3.ensures.value ∙ i.row.long in
    omega (arith, many, long)

pub loop-i-preserved : goal.loop-i-preserved
loop-i-preserved g c =
    let old = c.args.circuit.now in
    let i = c.loop-i.invariant in
    let E = g.T.PartialEq.eq in
    record {
      grown = Grown-trans old c.loop-i.circuit c.next_row.new.circuit i.grown c.next_row.ensures.grown;
      row = next_row_is E old c.args.left.now c.args.right.now c.loop-i.circuit c.next_row.new.circuit c.loop-i.i c.index-left-i.result c.as_slice-in-loop-i.result.now c.as_slice-in-loop-i-2.result.now c.as_slice-in-loop-i-3.result.now
          c.in_ok-row-2.row.items (read_item c.args.left.now c.loop-i.i c.index-left-i.result (omega arith) c.index-left-i.is)
          (c.as_slice-in-loop-i.ensures.value ∙ c.in_ok-gates.ensures) (c.as_slice-in-loop-i-2.ensures.value ∙ c.in_ok-same.ensures) i.grown c.requires.left c.requires.right
          (subst (λ (row : List ℕ). IsRow E old c.loop-i.circuit c.args.left.now c.loop-i.i c.args.right.now row) (sym c.as_slice-in-loop-i-3.ensures.value) i.row) c.in_ok-row-2.ensures.row;
    }

pub returns-clause-worth : goal.returns-clause-worth
returns-clause-worth g c =
    let old = c.args.circuit.now in
    let i = c.loop-i.invariant in
    let E = g.T.PartialEq.eq in
    let end : c.loop-i.i ≡ length c.args.left.now = omega arith in
    let row = subst (λ n. IsRow E old c.loop-i.circuit c.args.left.now n c.args.right.now c.loop-i.row.items) end i.row in
    let read = get_or_read c.loop-i.row.items (length c.args.right.now) c.index.result.now (omega (arith, i.row.long)) c.index.ensures 0 in
    subst (λ n. Is c.loop-i.circuit n (λ s. labels_differ E (value s old.parts) c.args.left.now c.args.right.now)) (sym read) (last_cell E old c.args.left.now c.args.right.now c.loop-i.circuit c.loop-i.row.items row)
