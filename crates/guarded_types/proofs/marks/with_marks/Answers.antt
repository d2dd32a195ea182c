use Rattle.std.proofs.Common.{◌&&◌, ◌||◌, not, true}
use Rattle.std.proofs.lemmas.Result.{IfOk-weaker}
use Rattle.cond_circuit.specs.Gates.{value}
use Rattle.cfj_model.specs.Coloring.{has_mark}
use Rattle.guarded_types.specs.Within.{IsWithin, mark_holds}
use Rattle.guarded_types.proofs.MarkGates.{marks_both}
use Rattle.guarded_types.proofs.marks.with_marks.Goals as goal

pub returns-clause-worth : goal.returns-clause-worth
returns-clause-worth c =
    IfOk-weaker c.with_mark-2.result
    (λ r. IsWithin c.with_mark-2.new.circuit c.args.within r
    (λ s. value s c.with_mark.new.circuit.parts c.in_ok-wanted.wanted && (not (has_mark true c.args.feature c.args.marks) || mark_holds s true c.args.feature)))
    _
    (λ r is.
    marks_both c.with_mark.new.circuit c.with_mark-2.new.circuit c.args.circuit.now c.args.within c.args.marks c.args.gate c.args.feature c.in_ok-wanted.wanted r
    c.in_ok-wanted.ensures.worth is)
    c.with_mark-2.ensures.worth
