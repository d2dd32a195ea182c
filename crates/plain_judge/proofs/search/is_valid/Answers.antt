use Rattle.std.proofs.Common.{◌≡◌, Result, Ok, Err, Bool, is_ok, subst}
use Rattle.std.specs.Prelude.{◌↔◌, IsTrue, OnOk, IfErr}
use Rattle.cfj_logic.specs.Selections.{Chosen}
use Rattle.cfj_logic.specs.Validity.{IsValid, IsFirstFalse}
use Rattle.cfj_model.specs.declared.feature_model.FeatureModel.{FeatureModel}
use Rattle.feature_model.specs.declared.validity.Failing.{Failing}
use Rattle.plain_judge.proofs.Sought.{first_false}
use Rattle.plain_judge.proofs.search.is_valid.Goals as goal

-- what the result of the test tells
told : (m : FeatureModel) (s : Chosen) (b : Bool) (r : Result (Unit {0}) Failing) → b ≡ is_ok r → OnOk r (IsValid m.constraints s) → IfErr r (λ (failing : Failing). IsFirstFalse m.constraints s failing.0) → IsTrue b ↔ IsValid m.constraints s
told m s b (Ok u) is valid failing = (λ t. valid, λ v. is)
told m s b (Err e) is valid failing = (λ t. absurd (cc (t, is)), λ v. absurd (first_false s m.constraints e.0 failing v))

pub returns : goal.returns
returns c =
    subst (λ (m : FeatureModel). IsTrue c.is_ok.result ↔ IsValid m.constraints c.args.selection) c.model.ensures.model
    (told c.model.result.now c.args.selection c.is_ok.result c.valid.result c.is_ok.ensures.value c.valid.ensures.valid c.valid.ensures.failing)
