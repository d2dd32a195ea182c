use Rattle.std.proofs.Common.{◌≡◌, Err, refl, subst, ap, ◌∙◌, length, arith}
use Rattle.std.proofs.lemmas.Result.{err_from_is_err_and}
use Rattle.cfj_model.specs.declared.fault.ParseFault.TheVariants.{At}
use Rattle.cfj_model.specs.Languages.{IsTextOf}
use Rattle.cfj_model.specs.PartLanguages.{single_members}
use Rattle.fj_machine.specs.Machine.{unnamed}
use Rattle.fj_machine.specs.MachineViews.{machine_seen}
use Rattle.fj_parser.specs.declared.goal.Goal.TheVariants as reads
use Rattle.fj_parser.proofs.MemberLaw.{member_laws}
use Rattle.fj_parser.proofs.PartEnds.{one_member, one_in_all, the_member}
use Rattle.fj_parser.proofs.PartTexts.{part_settles, part_text, part_fault}
use Rattle.fj_parser.proofs.member_text.read_member.Goals as goal

pub read_text-requires : goal.read_text-requires
read_text-requires c =
    let format = c.args.model.now.format in
    let features = c.args.model.now.features in
    part_settles c.under.result reads.Member format features unnamed c.under.ensures (single_members format features) (member_laws format features)

pub returns-in_err-machine-clause-fault : goal.returns-in_err-machine-clause-fault
returns-in_err-machine-clause-fault c = λ at kind e.
    let format = c.args.model.now.format in
    let features = c.args.model.now.features in
    let p = err_from_is_err_and c.from_residual.result c.from_residual.ensures.1 in
    let told : c.read_text.result ≡ Err (At at kind) = cc (p.1, p.2, e, c.in_err-machine.was) in
    part_fault c.under.result reads.Member format features unnamed c.under.ensures (single_members format features) (member_laws format features) refl c.args.text.now at kind c.utf8.text (c.read_text.ensures.fault at kind told)

pub one_of-requires : goal.one_of-requires
one_of-requires c =
    let format = c.args.model.now.format in
    let features = c.args.model.now.features in
    let n = machine_seen c.in_ok-machine.machine.value in
    let a = ap (λ x. length x.items) c.into_members-fields.ensures.fields in
    let b = ap (λ x. length x.items) c.into_members-fields.ensures.methods in
    let both = one_in_all format features n _ (one_member c.under.result format features c.under.ensures c.args.text.now n c.in_ok-machine.ensures.read) in
    omega (arith, a, b, both)

pub returns-clause-read : goal.returns-clause-read
returns-clause-read c =
    let format = c.args.model.now.format in
    let features = c.args.model.now.features in
    let n = machine_seen c.in_ok-machine.machine.value in
    subst (IsTextOf (single_members format features) c.args.text.now)
    (the_member format features n _ c.one_of.result (one_member c.under.result format features c.under.ensures c.args.text.now n c.in_ok-machine.ensures.read) (λ f e. c.one_of.ensures.field f (ap (λ x. x.items) c.into_members-fields.ensures.fields ∙ e)) (λ m e d. c.one_of.ensures.method m (ap (λ x. x.items) c.into_members-fields.ensures.fields ∙ e) (ap (λ x. x.items) c.into_members-fields.ensures.methods ∙ d)))
    (part_text c.under.result reads.Member format features unnamed c.under.ensures (single_members format features) (member_laws format features) refl c.args.text.now n c.utf8.text c.in_ok-machine.ensures.read)
