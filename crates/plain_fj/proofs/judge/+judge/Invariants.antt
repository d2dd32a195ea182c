use Rattle.cfj_model.specs.declared.expr.Arg.{Arg}
use Rattle.plain_fj.specs.Found.{nodes_in}
use Rattle.plain_fj.proofs.AddedNodes.{IsAddedUpTo}
use Rattle.plain_fj.proofs.JudgedArgs.{AreTypesUpTo}
use Rattle.plain_fj.proofs.judge.+judge.Given as goal

abbrev pub invariant-judge_args-each : goal.invariant-judge_args-each
invariant-judge_args-each l =
    AreTypesUpTo l.body l.args l.arg-index l.types.items
    × IsAddedUpTo (λ (a : Arg). nodes_in l.body a.expr) l.args l.arg-index l.initial.breaks.items l.breaks.items
