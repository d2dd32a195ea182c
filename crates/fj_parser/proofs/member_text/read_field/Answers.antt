use Rattle.std.proofs.Common.{◌≡◌, Err, length, refl, ap, subst, ◌∙◌}
use Rattle.std.proofs.lemmas.Result.{err_from_is_err_and}
use Rattle.cfj_model.specs.declared.fault.ParseFault.TheVariants.{At}
use Rattle.cfj_model.specs.declared.member.Member.TheVariants as member
use Rattle.cfj_model.specs.Languages.{IsTextOf}
use Rattle.fj_parser.specs.Goals.{reader_for}
use Rattle.cfj_model.specs.PartLanguages.{single_fields}
use Rattle.fj_machine.specs.Machine.{unnamed}
use Rattle.fj_machine.specs.MachineViews.{machine_seen}
use Rattle.cfj_model.specs.PartLanguages.{standing_for}
use Rattle.fj_parser.specs.declared.goal.Goal.TheVariants as reads
use Rattle.fj_parser.proofs.FieldLaw.{field_laws}
use Rattle.fj_parser.proofs.PartEnds.{one_field, one_item}
use Rattle.fj_parser.proofs.PartTexts.{part_settles, part_text, part_fault}
use Rattle.fj_parser.proofs.StandingFor.{laws_for}
use Rattle.fj_parser.proofs.member_text.read_field.Goals as goal

pub read_text-requires : goal.read_text-requires
read_text-requires c =
    let format = c.args.model.now.format in
    let features = c.args.model.now.features in
    part_settles c.under.result reads.Field format features unnamed c.under.ensures (standing_for member.Field (single_fields format features)) (laws_for member.Field (single_fields format features) (reader_for reads.Field format features unnamed) (field_laws format features))

pub returns-in_err-machine-clause-fault : goal.returns-in_err-machine-clause-fault
returns-in_err-machine-clause-fault c = λ at kind e.
    let format = c.args.model.now.format in
    let features = c.args.model.now.features in
    let p = err_from_is_err_and c.from_residual.result c.from_residual.ensures.1 in
    let told : c.read_text.result ≡ Err (At at kind) = cc (p.1, p.2, e, c.in_err-machine.was) in
    part_fault c.under.result reads.Field format features unnamed c.under.ensures (standing_for member.Field (single_fields format features)) (laws_for member.Field (single_fields format features) (reader_for reads.Field format features unnamed) (field_laws format features)) refl c.args.text.now at kind c.utf8.text (c.read_text.ensures.fault at kind told)

pub only-requires : goal.only-requires
only-requires c = ap (λ x. length x.items) c.into_members.ensures.fields ∙ ap length (one_field c.under.result c.args.model.now.format c.args.model.now.features c.under.ensures c.args.text.now (machine_seen c.in_ok-machine.machine.value) c.in_ok-machine.ensures.read).1

pub returns-clause-read : goal.returns-clause-read
returns-clause-read c =
    let format = c.args.model.now.format in
    let features = c.args.model.now.features in
    let n = machine_seen c.in_ok-machine.machine.value in
    let x = one_field c.under.result format features c.under.ensures c.args.text.now n c.in_ok-machine.ensures.read in
    subst (IsTextOf (standing_for member.Field (single_fields format features)) c.args.text.now) (ap (λ y. member.Field y) (x.2 ∙ one_item c.into_members.result.0.items x.0 c.only.result (ap (λ y. y.items) c.into_members.ensures.fields ∙ x.1) c.only.ensures))
    (part_text c.under.result reads.Field format features unnamed c.under.ensures (standing_for member.Field (single_fields format features)) (laws_for member.Field (single_fields format features) (reader_for reads.Field format features unnamed) (field_laws format features)) refl c.args.text.now n c.utf8.text c.in_ok-machine.ensures.read)
