use Rattle.guarded_seq.proofs.CellLaws.{choose_worth}
use Rattle.guarded_seq.proofs.rows.choose.Goals as goal

pub returns-clause-worth : goal.returns-clause-worth
returns-clause-worth c =
    choose_worth c.or.result c.args.circuit.now c.and.new.self c.not.new.self c.and-2.new.self c.or.new.self c.args.test c.args.yes c.args.no
    c.in_ok-chosen.chosen c.in_ok-fails.fails c.in_ok-other.other c.requires.test c.requires.no c.and.ensures.grown c.not.ensures.grown c.and-2.ensures.grown
    c.in_ok-chosen.ensures.worth c.in_ok-fails.ensures.worth c.in_ok-other.ensures.worth c.or.ensures.worth
