use Rattle.std.proofs.Common.{[]}
use Rattle.cfj_model.specs.Judging.{judged_class}
use Rattle.plain_fj.proofs.Broken.{IsAddedUpTo}
use Rattle.plain_fj.proofs.projects.judge_project.Given as goal

abbrev pub invariant-each : goal.invariant-each
invariant-each l = IsAddedUpTo (judged_class l.project.classes) l.project.classes l.place [] l.breaks.items
