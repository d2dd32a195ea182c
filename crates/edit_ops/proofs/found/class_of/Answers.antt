use Rattle.std.proofs.Common.{sym, ◌∙◌}
use Rattle.cfj_model.specs.LookUps.{is_called}
use Rattle.edit_ops.proofs.Places.{found_at, found_none}
use Rattle.edit_ops.proofs.found.class_of.Goals as goal

pub returns-in-Some : goal.returns-in-Some
returns-in-Some c = found_at (is_called c.args.name.now) c.args.project.now.classes c.in-Some.place c.class.result.now (sym c.find.ensures ∙ c.in-Some.is) c.class.ensures

pub returns-in-None : goal.returns-in-None
returns-in-None c = found_none (is_called c.args.name.now) c.args.project.now.classes (sym c.find.ensures ∙ c.in-None.is)
