use Rattle.std.proofs.Common.{◌≡◌, ◌+◌, ◌∷◌, [], sym, subst, arith, rules, List, ℕ}
use Rattle.std.proofs.lemmas.List.{get_or_read}
use Rattle.cond_circuit.proofs.ValueLemmas.{Grown-trans}
use Rattle.guarded_seq.specs.Rows.{AreCells, next_cells}
use Rattle.guarded_seq.proofs.CellLaws.{cells_one, cells_push, cells_grown, edge_is, next_more}
use Rattle.guarded_seq.proofs.rows.next_row.Goals as goal

pub loop-j-init : goal.loop-j-init
loop-j-init c =
    let old = c.args.circuit.now in
    let v = next_cells old c.args.gate c.args.right.now c.args.alike.now c.args.row.now in
    let pushed : c.push.new.self.items ≡ c.in_ok-or.field-0 ∷ [] = search rules in
    record {
      grown = c.or.ensures.grown;
      cells = subst (λ (gs : List ℕ). AreCells c.or.new.self gs 1 v) (sym pushed)
          (cells_one c.or.new.self c.in_ok-or.field-0 v (edge_is old c.or.new.self c.args.gate c.args.right.now c.args.alike.now c.args.row.now c.in_ok-or.field-0 c.in_ok-or.ensures.worth));
    }

pub loop-j-preserved : goal.loop-j-preserved
loop-j-preserved c =
    let old = c.args.circuit.now in
    let i = c.loop-j.invariant in
    let j = c.loop-j.j in
    let v = next_cells old c.args.gate c.args.right.now c.args.alike.now c.args.row.now in
    let made = next_more old c.loop-j.circuit c.cell.new.circuit c.args.gate c.args.right.now c.args.alike.now c.args.row.now c.loop-j.cells.items j c.index.result.now c.in_ok-made.made (get_or_read c.loop-j.cells.items j c.index.result.now (omega (arith, i.cells.long)) c.index.ensures 0) i.grown c.requires.gate
    (c.requires.right j 0 (omega arith)) c.requires.row (omega (arith, c.requires.long)) i.cells c.in_ok-made.ensures.worth in
    record {
      grown = Grown-trans old c.loop-j.circuit c.cell.new.circuit i.grown c.cell.ensures.grown;
      cells = subst (λ (gs : List ℕ). AreCells c.cell.new.circuit gs (j + 1 + 1) v) (sym c.in_ok-push-2.ensures.items)
          (cells_push c.cell.new.circuit c.loop-j.cells.items (j + 1) v c.in_ok-made.made (cells_grown c.loop-j.circuit c.cell.new.circuit c.loop-j.cells.items (j + 1) v c.cell.ensures.grown i.cells) made);
    }
