use Rattle.std.proofs.Common.{sym}
use Rattle.cfj_model.specs.LookUps.{is_called}
use Rattle.unit_keys.proofs.Places.{class_at, nowhere}
use Rattle.unit_keys.proofs.facts_at.owner_of.Goals as goal

pub returns-in-Some : goal.returns-in-Some
returns-in-Some c = class_at c.args.project.now.classes c.args.name.now c.in-Some.place c.owner.result.now (sym c.in-Some.ensures) c.owner.ensures

pub returns-in-None : goal.returns-in-None
returns-in-None c = sym (nowhere (is_called c.args.name.now) c.args.project.now.classes (sym c.in-None.ensures))
