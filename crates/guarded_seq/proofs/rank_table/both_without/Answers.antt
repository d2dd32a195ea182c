use Rattle.guarded_seq.proofs.CellLaws.{without_worth}
use Rattle.guarded_seq.proofs.rank_table.both_without.Goals as goal

pub returns-clause-worth : goal.returns-clause-worth
returns-clause-worth c =
    without_worth c.and-2.result c.args.circuit.now c.and.new.self c.not.new.self c.and-2.new.self c.args.left c.args.right c.args.apart
    c.in_ok-both.both c.in_ok-level.level c.requires.apart c.and.ensures.grown c.not.ensures.grown c.in_ok-both.ensures.worth c.in_ok-level.ensures.worth c.and-2.ensures.worth
