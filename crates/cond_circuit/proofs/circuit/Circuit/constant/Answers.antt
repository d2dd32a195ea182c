use Rattle.std.proofs.Common.{◌≡◌, ℕ, Bool, sym, ◌∙◌}
use Rattle.cond_circuit.specs.Gates.{Gates, Is}
use Rattle.cond_circuit.proofs.ValueLemmas.{zero_is, one_is}
use Rattle.cond_circuit.proofs.circuit.Circuit.constant.Goals as goal

has_value : (c : Gates) (g : ℕ) (b d : Bool) → d ≡ b → Is c g (λ s. b) → Is c g (λ s. d)
has_value c g b d e is = record { inside = is.inside; worth = λ s. is.worth s ∙ sym e }

pub returns-then-value-clause-worth : goal.returns-then-value-clause-worth
returns-then-value-clause-worth c = has_value c.args.self.now 1 _ c.args.value c.if-value.true (one_is c.args.self.now c.features-features.ensures.kept)

pub returns-else-value-clause-worth : goal.returns-else-value-clause-worth
returns-else-value-clause-worth c = has_value c.args.self.now 0 _ c.args.value c.if-value.false (zero_is c.args.self.now c.features-features.ensures.kept)
