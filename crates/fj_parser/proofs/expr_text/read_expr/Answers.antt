use Rattle.std.proofs.Common.{◌≡◌, [], Err, length, refl, ap, subst, ◌∙◌}
use Rattle.std.proofs.lemmas.Result.{err_from_is_err_and}
use Rattle.cfj_model.specs.declared.fault.ParseFault.TheVariants.{At}
use Rattle.cfj_model.specs.declared.feature_model.Format.TheVariants.{One}
use Rattle.cfj_model.specs.Languages.{IsTextOf}
use Rattle.cfj_model.specs.PartLanguages.{expressions}
use Rattle.fj_machine.specs.Machine.{unnamed}
use Rattle.fj_machine.specs.MachineViews.{machine_seen}
use Rattle.fj_parser.specs.declared.goal.Goal.TheVariants as reads
use Rattle.fj_parser.proofs.ExpressionLaw.{expression_laws}
use Rattle.cfj_model.specs.declared.class.Method.{Method}
use Rattle.fj_parser.proofs.PartEnds.{one_body, one_item}
use Rattle.fj_parser.proofs.PartTexts.{part_settles, part_text, part_fault}
use Rattle.fj_parser.proofs.expr_text.read_expr.Goals as goal

pub read_text-requires : goal.read_text-requires
read_text-requires c =
    part_settles c.alone.result reads.Expression One [] unnamed c.alone.ensures expressions expression_laws

pub returns-in_err-machine-clause-fault : goal.returns-in_err-machine-clause-fault
returns-in_err-machine-clause-fault c = λ at kind e.
    let p = err_from_is_err_and c.from_residual.result c.from_residual.ensures.1 in
    let told : c.read_text.result ≡ Err (At at kind) = cc (p.1, p.2, e, c.in_err-machine.was) in
    part_fault c.alone.result reads.Expression One [] unnamed c.alone.ensures expressions expression_laws refl c.args.text.now at kind c.utf8.text (c.read_text.ensures.fault at kind told)

pub only-requires : goal.only-requires
only-requires c = ap (λ x. length x.items) c.into_members.ensures.methods ∙ ap length (one_body c.alone.result c.alone.ensures c.args.text.now (machine_seen c.in_ok-machine.machine.value) c.in_ok-machine.ensures.read).1

pub returns-clause-read : goal.returns-clause-read
returns-clause-read c =
    let n = machine_seen c.in_ok-machine.machine.value in
    let m = one_body c.alone.result c.alone.ensures c.args.text.now n c.in_ok-machine.ensures.read in
    subst (IsTextOf expressions c.args.text.now) (m.2 ∙ ap (λ (x : Method). x.body) (one_item c.into_members.result.1.items m.0 c.only.result (ap (λ y. y.items) c.into_members.ensures.methods ∙ m.1) c.only.ensures))
    (part_text c.alone.result reads.Expression One [] unnamed c.alone.ensures expressions expression_laws refl c.args.text.now n c.utf8.text c.in_ok-machine.ensures.read)
