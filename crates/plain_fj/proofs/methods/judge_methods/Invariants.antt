use Rattle.cfj_model.specs.Judging.{judged_method}
use Rattle.cfj_model.specs.Members.{placed}
use Rattle.plain_fj.proofs.Broken.{IsAddedUpTo}
use Rattle.plain_fj.proofs.methods.judge_methods.Given as goal

abbrev pub invariant-each : goal.invariant-each
invariant-each l = IsAddedUpTo (judged_method l.table l.class) (placed l.class.methods) l.place l.initial.breaks.items l.breaks.items
