use Rattle.std.proofs.Common.{◌≡◌, ◌+◌, ◌∷◌, [], sym, subst, arith, rules, List, ℕ}
use Rattle.cond_circuit.proofs.ValueLemmas.{Grown-refl, Grown-trans}
use Rattle.guarded_seq.specs.Rows.{AreCells, first_cells}
use Rattle.guarded_seq.proofs.CellLaws.{cells_one, cells_push, cells_grown, first_more}
use Rattle.guarded_seq.proofs.rows.first_row.Goals as goal

pub loop-gate-init : goal.loop-gate-init
loop-gate-init c =
    let old = c.args.circuit.now in
    let pushed : c.push.new.self.items ≡ c.constant-some.result ∷ [] = search rules in
    record {
      grown = Grown-refl old;
      some = c.constant-some.ensures.worth;
      cells = subst (λ (gs : List ℕ). AreCells old gs 1 (first_cells old c.args.right.now)) (sym pushed)
          (cells_one old c.constant-some.result (first_cells old c.args.right.now) c.constant-some.ensures.worth);
    }

pub loop-gate-preserved : goal.loop-gate-preserved
loop-gate-preserved c =
    let old = c.args.circuit.now in
    let i = c.loop-gate.invariant in
    let n = c.loop-gate.gate-index in
    let v = first_cells old c.args.right.now in
    let some = first_more old c.loop-gate.circuit c.or.new.self c.args.right.now n c.loop-gate.some c.in_ok-some.some i.grown c.or.ensures.grown (c.requires n 0 (omega arith)) i.some c.in_ok-some.ensures.worth in
    record {
      grown = Grown-trans old c.loop-gate.circuit c.or.new.self i.grown c.or.ensures.grown;
      some = some;
      cells = subst (λ (gs : List ℕ). AreCells c.or.new.self gs (n + 1 + 1) v) (sym c.in_ok-push-2.ensures.items)
          (cells_push c.or.new.self c.loop-gate.cells.items (n + 1) v c.in_ok-some.some (cells_grown c.loop-gate.circuit c.or.new.self c.loop-gate.cells.items (n + 1) v c.or.ensures.grown i.cells) some);
    }
