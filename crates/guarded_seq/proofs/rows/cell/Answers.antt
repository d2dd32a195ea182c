use Rattle.guarded_seq.proofs.CellLaws.{cell_worth}
use Rattle.guarded_seq.proofs.rows.cell.Goals as goal

pub returns-clause-worth : goal.returns-clause-worth
returns-clause-worth c =
    cell_worth c.choose-2.result c.args.circuit.now c.choose.new.circuit c.choose-2.new.circuit c.args.left c.args.right c.args.alike c.args.corner c.args.beside c.args.above
    c.pair-both.result c.in_ok-here.here c.requires.left c.requires.above c.choose.ensures.grown c.pair-both.ensures c.in_ok-here.ensures.worth c.choose-2.ensures.worth
