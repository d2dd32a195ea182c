use Rattle.cfj_model.specs.Judging.{judged_field}
use Rattle.cfj_model.specs.Members.{placed}
use Rattle.plain_fj.proofs.Broken.{IsAddedUpTo}
use Rattle.plain_fj.proofs.fields.judge_fields.Given as goal

abbrev pub invariant-each : goal.invariant-each
invariant-each l = IsAddedUpTo (judged_field l.table l.class) (placed l.class.fields) l.place l.initial.breaks.items l.breaks.items
