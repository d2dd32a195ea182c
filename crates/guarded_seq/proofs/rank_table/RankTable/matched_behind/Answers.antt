use Rattle.std.proofs.Common.{ℕ, ◌<◌, length, sym, subst, arith}
use Rattle.std.proofs.lemmas.Int.{clamps}
use Rattle.guarded_seq.proofs.TableLaws.{cell_inside, matched_worth}
use Rattle.guarded_seq.proofs.rank_table.RankTable.matched_behind.Goals as goal

pub cell-apart-requires-clause-row : goal.cell-apart-requires-clause-row
cell-apart-requires-clause-row c =
    (cell_inside c.args.circuit.now c.args.self.now c.args.i c.args.k c.requires.ranks (omega (arith, clamps, c.requires.behind)) c.requires.left (omega (arith, clamps, c.requires.behind)) c.requires.right).0

pub cell-apart-requires-clause-cell : goal.cell-apart-requires-clause-cell
cell-apart-requires-clause-cell c =
    (cell_inside c.args.circuit.now c.args.self.now c.args.i c.args.k c.requires.ranks (omega (arith, clamps, c.requires.behind)) c.requires.left (omega (arith, clamps, c.requires.behind)) c.requires.right).1

pub both_without-requires-clause-left : goal.both_without-requires-clause-left
both_without-requires-clause-left c = subst (λ (g : ℕ). g < length c.args.circuit.now.parts) (sym c.left_gate-left.ensures) (c.requires.ranks.left c.args.i 0 c.requires.left)

pub both_without-requires-clause-right : goal.both_without-requires-clause-right
both_without-requires-clause-right c = subst (λ (g : ℕ). g < length c.args.circuit.now.parts) (sym c.right_gate-right.ensures) (c.requires.ranks.right c.args.k 0 c.requires.right)

pub both_without-requires-clause-apart : goal.both_without-requires-clause-apart
both_without-requires-clause-apart c =
    subst (λ (g : ℕ). g < length c.args.circuit.now.parts) (sym c.cell-apart.ensures)
    (c.requires.ranks.cells c.args.i c.args.k (omega (arith, clamps, c.requires.behind)) c.requires.left (omega (arith, clamps, c.requires.behind)) c.requires.right).inside

pub returns-clause-worth : goal.returns-clause-worth
returns-clause-worth c =
    matched_worth c.both_without.result c.args.circuit.now c.both_without.new.circuit c.args.self.now c.args.i c.args.k c.left_gate-left.result c.right_gate-right.result c.cell-apart.result
    c.requires.ranks (omega (arith, clamps, c.requires.behind)) c.requires.left (omega (arith, clamps, c.requires.behind)) c.requires.right
    c.left_gate-left.ensures c.right_gate-right.ensures c.cell-apart.ensures c.both_without.ensures.worth
