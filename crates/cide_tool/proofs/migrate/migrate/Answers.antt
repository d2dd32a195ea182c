use Rattle.std.proofs.Common.{refl}
use Rattle.cide_io.proofs.Gaining.{gains_nothing}
use Rattle.command_words.specs.Asked.{Asked}
use Rattle.cide_tool.proofs.Runs.{answer_as, no_fault, passed_on}
use Rattle.cide_tool.proofs.migrate.migrate.Goals as goal

pub returns-in_err-project-clause-answer : goal.returns-in_err-project-clause-answer
returns-in_err-project-clause-answer g c =
    passed_on _ _ _ _ c.from_residual.result c.in_err-project.field-0.0 c.from_residual.ensures.1 (gains_nothing g.O.Sink c.args.out.now)
    (c.in_err-project.ensures.refused (Asked.migrate c.args.name.now) refl)

pub returns-clause-answer : goal.returns-clause-answer
returns-clause-answer g c =
    answer_as _ _ _ _ _ c.migrate_project.result no_fault (c.migrate_project.ensures (g.R.Room.input c.args.room.now) c.args.name.now c.in_ok-project.ensures.read)
