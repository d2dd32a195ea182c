use Rattle.std.proofs.Common.{◌<◌, arith, false, get_or, refl, subst}
use Rattle.std.proofs.lemmas.Option.{slice_get-get_or}
use Rattle.cfj_logic.specs.declared.clauses.Literal.{Literal}
use Rattle.cfj_logic.specs.Logs.{AreBelow}
use Rattle.unit_propagation.proofs.Members.{all_taken}
use Rattle.dimacs_solver.proofs.Settling.{all_next}
use Rattle.dimacs_solver.proofs.problem.is_below.Goals as goal

abbrev none : Literal
none = record { var = 0; on = false }

pub loop-literal-preserved : goal.loop-literal-preserved
loop-literal-preserved c =
    let xs = c.args.clause.now in
    let i = c.loop-literal.literal-index in
    all_next (λ (l : Literal). l.var < c.args.vars) xs i (get_or xs i none) (slice_get-get_or xs i none (omega arith)) (omega (arith, c.if-literal-vars.false)) c.loop-literal.invariant

pub returns : goal.returns
returns c = (λ _. subst (AreBelow c.args.vars) (all_taken c.args.clause.now c.loop-literal.literal-index (omega arith)) c.loop-literal.invariant, λ _. refl)
