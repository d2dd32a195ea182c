use Rattle.std.proofs.Common.{◌≡◌, ◌+◌, ◌<◌, ◌∷◌, [], true, length, get_or, List, ℕ, sym, subst, ap, ◌∙◌, arith, rules, length-append}
use Rattle.std.proofs.lemmas.Int.{clamps}
use Rattle.std.proofs.lemmas.List.{length-map}
use Rattle.std.proofs.lemmas.Option.{slice_get-get_or}
use Rattle.cond_circuit.proofs.ValueLemmas.{Grown-refl, Grown-trans, Grown-inside}
use Rattle.guarded_seq.specs.declared.guarded.Guarded.{Guarded}
use Rattle.guarded_seq.specs.Rows.{IsRow}
use Rattle.guarded_seq.proofs.CellLaws.{cells_inside}
use Rattle.guarded_seq.proofs.RowLaws.{first_row_is, next_row_is, gates_inside, inside_there}
use Rattle.guarded_seq.proofs.TableLaws.{rows_first, rows_next, row_read}
use Rattle.guarded_seq.proofs.rank_table.rank_rows.Goals as goal

pub first_row-requires : goal.first_row-requires
first_row-requires c = gates_inside c.args.right.now c.args.circuit.now c.args.circuit.now c.as_slice.result.now (c.as_slice.ensures.value ∙ c.in_ok-gates.ensures) (Grown-refl c.args.circuit.now) c.requires.right

pub loop-i-init : goal.loop-i-init
loop-i-init c =
    let old = c.args.circuit.now in
    let pushed : c.push.new.self.items ≡ c.in_ok-first_row.field-0 ∷ [] = search rules in
    record {
      grown = c.first_row.ensures.grown;
      many = ap length pushed;
      rows = rows_first old c.first_row.new.circuit c.args.left.now c.args.right.now (λ row. row.items) c.push.new.self.items c.in_ok-first_row.field-0 pushed
          (first_row_is (λ _ _. true) old c.args.left.now c.args.right.now old c.first_row.new.circuit c.as_slice.result.now c.in_ok-first_row.field-0.items
          (c.as_slice.ensures.value ∙ c.in_ok-gates.ensures) (Grown-refl old) c.requires.right c.in_ok-first_row.ensures.row);
    }

pub next_row-requires-clause-gate : goal.next_row-requires-clause-gate
next_row-requires-clause-gate c =
    let i = c.loop-i.invariant in
    let none : Guarded Unit = record { gate = 0; item = tt } in
    let left = c.args.left.now in
    let below : c.loop-i.i < length left = omega (arith, clamps, c.saturating_sub-i-end.ensures) in
    Grown-inside c.args.circuit.now c.loop-i.circuit (get_or left c.loop-i.i none).gate i.grown
    (inside_there left c.loop-i.i (get_or left c.loop-i.i none) (slice_get-get_or left c.loop-i.i none below) c.args.circuit.now c.requires.left)

pub next_row-requires-clause-right : goal.next_row-requires-clause-right
next_row-requires-clause-right c =
    gates_inside c.args.right.now c.args.circuit.now c.loop-i.circuit c.as_slice-in-loop-i.result.now (c.as_slice-in-loop-i.ensures.value ∙ c.in_ok-gates.ensures) c.loop-i.invariant.grown c.requires.right

pub next_row-requires-clause-alike : goal.next_row-requires-clause-alike
next_row-requires-clause-alike c =
    ap length (c.as_slice-in-loop-i-2.ensures.value ∙ c.in_ok-same.ensures) ∙ length-map c.args.right.now (λ x. true)
    ∙ sym (ap length (c.as_slice-in-loop-i.ensures.value ∙ c.in_ok-gates.ensures) ∙ length-map c.args.right.now (λ x. x.gate))

pub next_row-requires-clause-row : goal.next_row-requires-clause-row
next_row-requires-clause-row c =
    let i = c.loop-i.invariant in
    let row = row_read c.args.circuit.now c.loop-i.circuit c.args.left.now c.args.right.now (λ row. row.items) c.loop-i.rows.items c.loop-i.i c.index.result.now (omega (arith, i.many)) c.index.ensures i.rows in
    cells_inside c.loop-i.circuit c.as_slice-in-loop-i-3.result.now _ _
    (subst (λ (r : List ℕ). IsRow (λ _ _. true) c.args.circuit.now c.loop-i.circuit c.args.left.now c.loop-i.i c.args.right.now r) (sym c.as_slice-in-loop-i-3.ensures.value) row)

pub next_row-requires-clause-long : goal.next_row-requires-clause-long
next_row-requires-clause-long c =
    let i = c.loop-i.invariant in
    let row = row_read c.args.circuit.now c.loop-i.circuit c.args.left.now c.args.right.now (λ row. row.items) c.loop-i.rows.items c.loop-i.i c.index.result.now (omega (arith, i.many)) c.index.ensures i.rows in
    let many = ap length (c.as_slice-in-loop-i.ensures.value ∙ c.in_ok-gates.ensures) ∙ length-map c.args.right.now (λ x. x.gate) in
    let long = ap length c.as_slice-in-loop-i-3.ensures.value ∙ row.long in
    omega (arith, many, long)

pub loop-i-preserved : goal.loop-i-preserved
loop-i-preserved c =
    let old = c.args.circuit.now in
    let i = c.loop-i.invariant in
    let row = row_read old c.loop-i.circuit c.args.left.now c.args.right.now (λ row. row.items) c.loop-i.rows.items c.loop-i.i c.index.result.now (omega (arith, i.many)) c.index.ensures i.rows in
    let none : Guarded Unit = record { gate = 0; item = tt } in
    let below : c.loop-i.i < length c.args.left.now = omega (arith, clamps, c.saturating_sub-i-end.ensures) in
    let above = subst (λ (r : List ℕ). IsRow (λ _ _. true) old c.loop-i.circuit c.args.left.now c.loop-i.i c.args.right.now r) (sym c.as_slice-in-loop-i-3.ensures.value) row in
    record {
      grown = Grown-trans old c.loop-i.circuit c.next_row.new.circuit i.grown c.next_row.ensures.grown;
      many = ap length c.in_ok-push-2.ensures.items ∙ length-append c.loop-i.rows.items (c.in_ok-row.row ∷ []) ∙ ap (λ n. n + 1) i.many;
      rows = rows_next old c.next_row.new.circuit c.args.left.now c.args.right.now (λ row. row.items) c.loop-i.circuit c.loop-i.rows.items c.push-in-loop-i.new.self.items c.in_ok-row.row c.loop-i.i
          c.next_row.ensures.grown c.in_ok-push-2.ensures.items i.many i.rows
          (next_row_is (λ _ _. true) old c.args.left.now c.args.right.now c.loop-i.circuit c.next_row.new.circuit c.loop-i.i (get_or c.args.left.now c.loop-i.i none) c.as_slice-in-loop-i.result.now c.as_slice-in-loop-i-2.result.now c.as_slice-in-loop-i-3.result.now
          c.in_ok-row.row.items (slice_get-get_or c.args.left.now c.loop-i.i none below)
          (c.as_slice-in-loop-i.ensures.value ∙ c.in_ok-gates.ensures) (c.as_slice-in-loop-i-2.ensures.value ∙ c.in_ok-same.ensures) i.grown c.requires.left c.requires.right above c.in_ok-row.ensures.row);
    }
