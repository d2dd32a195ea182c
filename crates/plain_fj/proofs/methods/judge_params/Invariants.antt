use Rattle.plain_fj.specs.Breaking.{judged_param}
use Rattle.plain_fj.proofs.Broken.{IsAddedUpTo}
use Rattle.plain_fj.proofs.methods.judge_params.Given as goal

abbrev pub invariant-each : goal.invariant-each
invariant-each l = IsAddedUpTo (judged_param l.table l.class l.method) l.method.params l.param-index l.initial.breaks.items l.breaks.items
