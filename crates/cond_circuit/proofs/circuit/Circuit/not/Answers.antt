use Rattle.std.proofs.Common.{◌≡◌, not, IfOk, subst}
use Rattle.cond_circuit.specs.Folding as fold
use Rattle.cond_circuit.specs.Gates.{value}
use Rattle.cond_circuit.proofs.FoldLemmas.{not_for, placed_worth}
use Rattle.cond_circuit.proofs.circuit.Circuit.not.Goals as goal

pub returns-clause-worth : goal.returns-clause-worth
returns-clause-worth c =
    let old = c.args.self.now in
    placed_worth c.place.result old c.place.new.self (λ s. not (value s old.parts c.args.gate)) (fold.fold_not c.part-part.result c.args.gate) c.part-part.ensures.kept
    (not_for old c.args.gate c.part-part.result c.part-part.ensures.kept c.part-part.ensures.part)
    (subst (λ w. IfOk c.place.result (λ g. (c.place.new.self, g) ≡ fold.placed old w)) c.fold_not.ensures c.place.ensures.placed)
