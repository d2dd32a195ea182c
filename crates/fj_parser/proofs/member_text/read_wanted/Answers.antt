use Rattle.std.proofs.Common.{sym, subst}
use Rattle.cfj_model.specs.Faults.{IsFirstFault}
use Rattle.cfj_model.specs.PartLanguages.{members_wanted}
use Rattle.fj_parser.proofs.member_text.read_wanted.Goals as goal

pub returns-in-Any-clause-fault : goal.returns-in-Any-clause-fault
returns-in-Any-clause-fault c = λ at kind e. subst (λ w. IsFirstFault (members_wanted w c.args.model.now.format c.args.model.now.features) c.args.text.now at kind) (sym c.in-Any.is) (c.read_member.ensures.fault at kind e)

pub returns-in-Field-clause-fault : goal.returns-in-Field-clause-fault
returns-in-Field-clause-fault c = λ at kind e. subst (λ w. IsFirstFault (members_wanted w c.args.model.now.format c.args.model.now.features) c.args.text.now at kind) (sym c.in-Field.is) (c.read_field.ensures.fault at kind e)

pub returns-in-Method-clause-fault : goal.returns-in-Method-clause-fault
returns-in-Method-clause-fault c = λ at kind e. subst (λ w. IsFirstFault (members_wanted w c.args.model.now.format c.args.model.now.features) c.args.text.now at kind) (sym c.in-Method.is) (c.read_method.ensures.fault at kind e)
