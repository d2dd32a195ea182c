use Rattle.std.proofs.Common.{◌≡◌, Err, refl, subst, ◌∙◌, sym}
use Rattle.std.proofs.lemmas.Result.{err_from_is_err_and}
use Rattle.cfj_model.specs.declared.fault.ParseFault.TheVariants.{At}
use Rattle.cfj_model.specs.Languages.{IsTextOf}
use Rattle.cfj_model.specs.PartLanguages.{constructors}
use Rattle.fj_machine.specs.MachineViews.{machine_seen}
use Rattle.fj_parser.specs.declared.goal.Goal.TheVariants as reads
use Rattle.fj_parser.proofs.ConstructorLaw.{constructor_laws, constructor_stands}
use Rattle.fj_parser.proofs.PartTexts.{part_settles, part_text, part_fault}
use Rattle.fj_parser.proofs.constructor_text.read_constructor.Goals as goal

pub read_text-requires : goal.read_text-requires
read_text-requires c =
    let format = c.args.model.now.format in
    let features = c.args.model.now.features in
    let class = c.args.class.now in
    part_settles c.constructor.result reads.Constructor format features class c.constructor.ensures (constructors format features class) (constructor_laws format features class)

pub returns-in_err-machine-clause-fault : goal.returns-in_err-machine-clause-fault
returns-in_err-machine-clause-fault c = λ at kind e.
    let format = c.args.model.now.format in
    let features = c.args.model.now.features in
    let class = c.args.class.now in
    let p = err_from_is_err_and c.from_residual.result c.from_residual.ensures.1 in
    let told : c.read_text.result ≡ Err (At at kind) = cc (p.1, p.2, e, c.in_err-machine.was) in
    part_fault c.constructor.result reads.Constructor format features class c.constructor.ensures (constructors format features class) (constructor_laws format features class) refl c.args.text.now at kind c.utf8.text (c.read_text.ensures.fault at kind told)

pub returns-clause-read : goal.returns-clause-read
returns-clause-read c =
    let format = c.args.model.now.format in
    let features = c.args.model.now.features in
    let class = c.args.class.now in
    let n = machine_seen c.in_ok-machine.machine.value in
    subst (IsTextOf (constructors format features class) c.args.text.now) (constructor_stands format features class n ∙ sym c.into_ctor.ensures)
    (part_text c.constructor.result reads.Constructor format features class c.constructor.ensures (constructors format features class) (constructor_laws format features class) refl c.args.text.now n c.utf8.text c.in_ok-machine.ensures.read)
