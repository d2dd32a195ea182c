use Rattle.std.proofs.Common.{◌≡◌, [], Err, refl, sym, subst}
use Rattle.std.proofs.lemmas.Result.{err_from_is_err_and}
use Rattle.cfj_model.specs.declared.fault.ParseFault.TheVariants.{At}
use Rattle.cfj_model.specs.declared.feature_model.Format.TheVariants.{One}
use Rattle.cfj_model.specs.Languages.{IsTextOf, projects}
use Rattle.fj_machine.specs.Machine.{unnamed}
use Rattle.fj_machine.specs.MachineViews.{machine_seen}
use Rattle.fj_parser.specs.declared.goal.Goal.TheVariants.{Project}
use Rattle.fj_parser.proofs.Law.{laws, stands}
use Rattle.fj_parser.proofs.PartTexts.{part_settles, part_text, part_fault}
use Rattle.fj_parser.proofs.parser.read_parts.Goals as goal

pub read_text-requires : goal.read_text-requires
read_text-requires c = part_settles c.alone.result Project One [] unnamed c.alone.ensures projects laws

pub returns-in_err-machine-clause-fault : goal.returns-in_err-machine-clause-fault
returns-in_err-machine-clause-fault c = λ at kind e.
    let p = err_from_is_err_and c.from_residual.result c.from_residual.ensures.1 in
    let told : c.read_text.result ≡ Err (At at kind) = cc (p.1, p.2, e, c.in_err-machine.was) in
    part_fault c.alone.result Project One [] unnamed c.alone.ensures projects laws refl c.args.text.now at kind c.utf8.text (c.read_text.ensures.fault at kind told)

pub returns-clause-read : goal.returns-clause-read
returns-clause-read c =
    let n = machine_seen c.in_ok-machine.machine.value in
    subst (IsTextOf projects c.args.text.now) (sym c.into_parts.ensures)
    (subst (IsTextOf projects c.args.text.now) (stands n) (part_text c.alone.result Project One [] unnamed c.alone.ensures projects laws refl c.args.text.now n c.utf8.text c.in_ok-machine.ensures.read))
