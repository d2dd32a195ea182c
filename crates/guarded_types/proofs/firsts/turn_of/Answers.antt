use Rattle.guarded_types.proofs.FirstItems.{turn_here, turn_taken}
use Rattle.guarded_types.proofs.firsts.turn_of.Goals as goal

pub returns-clause-here : goal.returns-clause-here
returns-clause-here c =
    turn_here c.args.circuit.now c.holds.new.circuit c.not.new.self c.and.new.self c.or.new.self c.args.within c.args.marks c.args.taken c.in_ok-there.there c.in_ok-free.free c.in_ok-here.here
    c.in_ok-taken.taken c.requires.taken c.holds.ensures.grown c.not.ensures.grown c.and.ensures.grown c.or.ensures.grown c.in_ok-there.ensures.worth c.in_ok-free.ensures.worth c.in_ok-here.ensures.worth

pub returns-clause-taken : goal.returns-clause-taken
returns-clause-taken c =
    turn_taken c.args.circuit.now c.holds.new.circuit c.not.new.self c.and.new.self c.or.new.self c.args.within c.args.marks c.args.taken c.in_ok-there.there c.in_ok-free.free c.in_ok-here.here
    c.in_ok-taken.taken c.requires.taken c.holds.ensures.grown c.not.ensures.grown c.and.ensures.grown c.or.ensures.grown c.in_ok-there.ensures.worth c.in_ok-free.ensures.worth c.in_ok-taken.ensures.worth
