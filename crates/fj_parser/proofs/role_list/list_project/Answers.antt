use Rattle.std.proofs.Common.{[], refl}
use Rattle.std.proofs.lemmas.Result.{on_ok_weaker}
use Rattle.cfj_model.specs.Languages.{projects, with_features}
use Rattle.cfj_model.specs.declared.feature_model.Format.TheVariants.{One}
use Rattle.fj_machine.specs.Machine.{unnamed}
use Rattle.fj_machine.specs.MachineViews.{machine_seen}
use Rattle.fj_parser.specs.Goals.{reader_for}
use Rattle.fj_parser.specs.Listing.{IsListedTo}
use Rattle.fj_parser.specs.declared.goal.Goal.TheVariants.{Project}
use Rattle.fj_parser.proofs.Law.{laws}
use Rattle.fj_parser.proofs.Listed.{roles_of_project}
use Rattle.fj_parser.proofs.PartTexts.{part_settles, part_fault, to_goal}
use Rattle.fj_parser.proofs.role_list.list_project.Goals as goal

pub list_on-requires-clause-settles : goal.list_on-requires-clause-settles
list_on-requires-clause-settles c = part_settles c.alone-part.result Project One [] unnamed c.alone-part.ensures projects laws

pub returns-clause-read : goal.returns-clause-read
returns-clause-read c =
    let text = c.args.text.now in
    let n = machine_seen c.list_on.new.machine in
    let list = c.list_on.new.list.items in
    on_ok_weaker c.list_on.result (λ h. roles_of_project text n list c.utf8.text (to_goal (λ x f y z. IsListedTo (with_features f y) (reader_for x f y z) text n list) c.alone-part.result Project One [] unnamed c.alone-part.ensures h)) c.list_on.ensures.read

pub returns-clause-fault : goal.returns-clause-fault
returns-clause-fault c = λ at kind e.
    part_fault c.alone-part.result Project One [] unnamed c.alone-part.ensures projects laws refl c.args.text.now at kind c.utf8.text (c.list_on.ensures.fault at kind e)
