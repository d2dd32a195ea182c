use Rattle.std.proofs.Common.{◌≡◌, ℕ, sym, subst}
use Rattle.cfj_model.specs.declared.fault.FaultKind.{FaultKind}
use Rattle.cfj_model.specs.declared.fault.FaultKind.TheVariants.{NotUtf8}
use Rattle.cfj_model.specs.declared.fault.ParseFault.TheVariants.{At}
use Rattle.std.specs.Str.{IsValidUpTo}
use Rattle.fj_machine.specs.Machine.{of_parts}
use Rattle.cfj_model.specs.Faults.{IsFirstFault, no_text}
use Rattle.cfj_model.specs.Languages.{projects}
use Rattle.cfj_model.specs.ProductLines.{IsProject}
use Rattle.fj_parser.proofs.TextsKept.{text_kept}
use Rattle.fj_parser.proofs.parser.read_project.Goals as goal

same_place : (a b : ℕ) (k l : FaultKind) → At a k ≡ At b l → a ≡ b
same_place a b k l e = cc e

same_kind : (a b : ℕ) (k l : FaultKind) → At a k ≡ At b l → k ≡ l
same_kind a b k l e = cc e

pub returns-in-Err-clause-fault : goal.returns-in-Err-clause-fault
returns-in-Err-clause-fault c = λ at kind e.
    let first : IsFirstFault projects c.args.text.now c.valid_up_to.result NotUtf8 =
    no_text c.valid_up_to.result c.in-Err.ensures.cases.0 (subst (IsValidUpTo c.args.text.now) (sym c.valid_up_to.ensures) c.in-Err.ensures.cases.1) in
    let told : At c.valid_up_to.result NotUtf8 ≡ At at kind = cc e in
    subst (λ x. IsFirstFault projects c.args.text.now x kind) (same_place _ _ _ _ told) (subst (λ x. IsFirstFault projects c.args.text.now c.valid_up_to.result x) (same_kind _ _ _ _ told) first)

pub of-requires : goal.of-requires
of-requires c =
    let model = c.in_ok-model.model in
    let classes = c.in_ok-model.classes.items in
    subst (λ m. IsProject (record { model = m; classes = classes })) (sym c.in_ok-model-2.ensures.ok) (text_kept c.in-Ok.text.now (of_parts model.format model.features model.constraints classes) c.in_ok-model.ensures.read)
