use Rattle.std.proofs.Common.{length, refl, arith, subst}
use Rattle.std.specs.Prelude.{All}
use Rattle.std.proofs.lemmas.Option.{slice_get_read}
use Rattle.cfj_logic.specs.Logs.{AreBelow}
use Rattle.unit_propagation.proofs.Members.{all_taken}
use Rattle.dimacs_solver.proofs.Settling.{all_next}
use Rattle.dimacs_solver.proofs.problem.are_below.Goals as goal

pub loop-clause-preserved : goal.loop-clause-preserved
loop-clause-preserved c =
    let xs = c.args.list.now in
    let i = c.loop-clause.clause-index in
    let x = c.clause-item.result in
    all_next (AreBelow c.args.vars) xs i x (slice_get_read xs (length xs) i x refl (omega arith) c.clause-item.is)
    (subst (AreBelow c.args.vars) c.slice.ensures (c.is_below.ensures.0 c.if-not-is_below.false)) c.loop-clause.invariant

pub returns : goal.returns
returns c = (λ _. subst (All (AreBelow c.args.vars)) (all_taken c.args.list.now c.loop-clause.clause-index (omega arith)) c.loop-clause.invariant, λ _. refl)
