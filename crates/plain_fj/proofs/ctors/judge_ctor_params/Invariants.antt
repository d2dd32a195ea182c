use Rattle.plain_fj.specs.Breaking.{judged_ctor_param}
use Rattle.plain_fj.proofs.Broken.{IsAddedUpTo}
use Rattle.plain_fj.proofs.ctors.judge_ctor_params.Given as goal

abbrev pub invariant-each : goal.invariant-each
invariant-each l = IsAddedUpTo (judged_ctor_param l.table l.class) l.class.ctor.params l.param-index l.initial.breaks.items l.breaks.items
